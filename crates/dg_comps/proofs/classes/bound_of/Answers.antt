use Rattle.dg_comps.proofs.BlockLemmas.{bounds_are}
use Rattle.dg_comps.proofs.classes.bound_of.Goals as goal

pub returns : goal.returns
returns c = record {
  exact = bounds_are c.args.names.now c.args.class c.args.members.now c.in_ok-list.list
      c.push_bounds.new.list c.requires.members c.in_ok-list.ensures.exact
      c.in_ok-push_bounds.ensures.exact;
}
