use Rattle.std.proofs.Common.{◌∙◌, length, ap, arith}
use Rattle.std.specs.List.{flat_map}
use Rattle.dg_decl.specs.Document.{statements}
use Rattle.dg_decl.specs.Stages.Components.{components_at, components_stage}
use Rattle.dg_comps.proofs.EntryLemmas.{taken_all}
use Rattle.dg_comps.proofs.StatementLemmas.{read_stands}
use Rattle.dg_comps.proofs.stage.components_stage.Goals as goal

pub components_at-requires-clause-stands : goal.components_at-requires-clause-stands
components_at-requires-clause-stands c =
    read_stands c.args.names.now c.statements-statement-items.result.now c.loop-index.index
    c.statement-item.result c.statements-statement-items.ensures.exact (omega arith)
    c.statement-item.is

pub returns : goal.returns
unfolding components_stage
returns c = record {
  exact = c.loop-index.invariant
      ∙ ap (flat_map (components_at c.args.names.now)) (taken_all (statements c.args.names.now)
      c.loop-index.index (omega (
        arith,
        ap length c.statements-statement-items.ensures.exact,
        c.loop-index-test.false,
      )));
}
