use Rattle.std.proofs.Common.{ap, arith}
use Rattle.dg_decl.specs.Components.{class_count}
use Rattle.dg_rules.proofs.StageLemmas.{class_small}
use Rattle.dg_rules.proofs.bindings_stage.bindings_of.Goals as goal

pub of_node-requires : goal.of_node-requires
of_node-requires c =
    omega (
      arith,
      class_small c.args.sites.now c.args.node.now c.requires.among,
      ap class_count c.requires.sites,
    )
