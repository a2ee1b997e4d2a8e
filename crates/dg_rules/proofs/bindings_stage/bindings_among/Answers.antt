use Rattle.std.proofs.Common.{◌∙◌, sym}
use Rattle.dg_rules.proofs.StageLemmas.{edges_of}
use Rattle.dg_rules.proofs.bindings_stage.bindings_among.Goals as goal

pub bindings_of-requires-clause-edges : goal.bindings_of-requires-clause-edges
bindings_of-requires-clause-edges c =
    c.edges_at.ensures.exact
    ∙ edges_of c.args.sites.now c.args.nodes.now c.args.edges.now c.loop-number.number
    c.index-nodes-number.result c.requires.nodes c.requires.edges c.loop-number-test.true
    (sym c.index-nodes-number.is)
