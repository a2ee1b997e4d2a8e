use Rattle.dg_tree.proofs.StoreLemmas.{cell_stored}
use Rattle.dg_tree.proofs.tree.Tree.keep_cell.Goals as goal

pub invariant_of-self-2 : goal.invariant_of-self-2
invariant_of-self-2 g c =
    let t = c.self.inside in
    let steps = cell_stored g.D.OfDoc.document t.cells.entries c.insert.new.self.entries
    t.lazies.entries t.settled_cells t.settled_lazies t.notes.items c.reserve.new.self.items
    c.push.new.self.items c.args.inst c.args.slot c.args.kept.now c.in_ok-copy.copy
    c.args.self.now c.self.view_is c.self.invariant.0 c.requires.content c.requires.used
    c.requires.closed c.in_ok-copy.ensures.exact c.in_ok-insert.ensures.entries
    c.in_ok-insert.ensures.unique c.in_ok-reserve.ensures.items c.in_ok-push.ensures.items in
    (steps.store, c.self.invariant.1)

pub returns-clause-exact : goal.returns-clause-exact
returns-clause-exact g c =
    let t = c.self.inside in
    let steps = cell_stored g.D.OfDoc.document t.cells.entries c.insert.new.self.entries
    t.lazies.entries t.settled_cells t.settled_lazies t.notes.items c.reserve.new.self.items
    c.push.new.self.items c.args.inst c.args.slot c.args.kept.now c.in_ok-copy.copy
    c.args.self.now c.self.view_is c.self.invariant.0 c.requires.content c.requires.used
    c.requires.closed c.in_ok-copy.ensures.exact c.in_ok-insert.ensures.entries
    c.in_ok-insert.ensures.unique c.in_ok-reserve.ensures.items c.in_ok-push.ensures.items in
    steps.asked
