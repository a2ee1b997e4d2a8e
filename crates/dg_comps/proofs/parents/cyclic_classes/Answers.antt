use Rattle.std.proofs.Common.{refl, slice_index}
use Rattle.dg_comps.proofs.ParentLemmas.{own_begins, own_steps}
use Rattle.dg_comps.proofs.parents.cyclic_classes.Goals as goal

pub loop-class-init : goal.loop-class-init
loop-class-init c = own_begins c.args.sets.now

pub loop-class-preserved : goal.loop-class-preserved
loop-class-preserved c =
    own_steps c.args.sets.now c.loop-class.class c.loop-class.cyclic
    (slice_index c.args.sets.now c.loop-class.class) c.with_own-cyclic.result
    c.loop-class.invariant refl
    c.with_own-cyclic.ensures.exact
