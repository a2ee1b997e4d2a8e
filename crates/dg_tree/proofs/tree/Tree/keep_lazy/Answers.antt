use Rattle.dg_tree.proofs.StoreLemmas.{lazy_stored}
use Rattle.dg_tree.proofs.tree.Tree.keep_lazy.Goals as goal

pub invariant_of-self-2 : goal.invariant_of-self-2
invariant_of-self-2 g c =
    let t = c.self.inside in
    let steps = lazy_stored g.D.OfDoc.document t.cells.entries t.lazies.entries
    c.insert_full.new.self.entries t.settled_cells t.settled_lazies t.notes.items
    c.reserve.new.self.items c.push.new.self.items c.args.key c.in_ok-index.index
    c.args.kept.now c.in_ok-copy.copy c.args.self.now c.self.view_is c.self.invariant.0
    c.requires.content c.requires.used c.requires.closed c.in_ok-copy.ensures.exact
    c.in_ok-index.ensures.entries c.in_ok-index.ensures.unique c.in_ok-index.ensures.index
    c.in_ok-reserve.ensures.items c.in_ok-push.ensures.items in
    (steps.store, c.self.invariant.1)

pub returns-clause-exact : goal.returns-clause-exact
returns-clause-exact g c =
    let t = c.self.inside in
    let steps = lazy_stored g.D.OfDoc.document t.cells.entries t.lazies.entries
    c.insert_full.new.self.entries t.settled_cells t.settled_lazies t.notes.items
    c.reserve.new.self.items c.push.new.self.items c.args.key c.in_ok-index.index
    c.args.kept.now c.in_ok-copy.copy c.args.self.now c.self.view_is c.self.invariant.0
    c.requires.content c.requires.used c.requires.closed c.in_ok-copy.ensures.exact
    c.in_ok-index.ensures.entries c.in_ok-index.ensures.unique c.in_ok-index.ensures.index
    c.in_ok-reserve.ensures.items c.in_ok-push.ensures.items in
    steps.asked
