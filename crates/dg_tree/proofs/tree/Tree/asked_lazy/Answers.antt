use Rattle.std.proofs.Common.{refl}
use Rattle.dg_tree.proofs.StoreLemmas.{lazy_asked, lazy_unasked}
use Rattle.dg_tree.proofs.tree.Tree.asked_lazy.Goals as goal

pub invariant_of-self-2 : goal.invariant_of-self-2
invariant_of-self-2 g c =
    let t = c.self.inside in
    let steps = lazy_asked g.D.OfDoc.document t.cells.entries t.lazies.entries t.settled_cells
    t.settled_lazies t.notes.items c.push.new.self.items c.args.key.now c.in-Some.index
    c.in-Some.kept.now c.in_ok-copy.copy c.args.self.now c.self.view_is c.self.invariant.0
    c.in-Some.ensures.value c.in_ok-copy.ensures.exact c.in-Some.ensures.index
    c.in_ok-push.ensures.items in
    (steps.0.store, c.self.invariant.1)

pub returns : goal.returns
returns g c =
    let t = c.self.inside in
    let steps = lazy_asked g.D.OfDoc.document t.cells.entries t.lazies.entries t.settled_cells
    t.settled_lazies t.notes.items c.push.new.self.items c.args.key.now c.in-Some.index
    c.in-Some.kept.now c.in_ok-copy.copy c.args.self.now c.self.view_is c.self.invariant.0
    c.in-Some.ensures.value c.in_ok-copy.ensures.exact c.in-Some.ensures.index
    c.in_ok-push.ensures.items in
    record { exact = (steps.1, steps.0.asked) }

pub returns-in_default : goal.returns-in_default
returns-in_default g c =
    let t = c.self.inside in
    record {
      exact = (
        lazy_unasked g.D.OfDoc.document t.cells.entries t.lazies.entries t.settled_cells
            t.settled_lazies t.notes.items c.args.key.now c.args.self.now c.self.view_is
            c.self.invariant.0 c.in_default.ensures.value,
        refl,
      );
    }
