use Rattle.std.proofs.Common.{◌∙◌, [], filter_map, refl, ap, arith}
use Rattle.dg_comps.specs.Members.{dep_at}
use Rattle.dg_comps.proofs.BlockLemmas.{deps_of_members}
use Rattle.dg_comps.proofs.ModuleLemmas.{added_all}
use Rattle.dg_comps.proofs.classes.deps_of.Goals as goal

pub returns : goal.returns
returns c = record {
  exact = added_all (filter_map (dep_at c.args.names.now)) [] c.args.members.now
      c.loop-index.index-index c.loop-index.list refl c.loop-index.invariant (omega arith)
      ∙ ap (filter_map (dep_at c.args.names.now)) c.requires.members
      ∙ deps_of_members c.args.names.now c.args.class;
}
