use Rattle.std.proofs.Common.{◌∙◌, sym, ap, arith}
use Rattle.dg_decl.specs.Graph.{Dependency}
use Rattle.dg_rules.specs.Productions.{leads}
use Rattle.dg_rules.proofs.LedLemmas.{told_none, told_more, few_behind}
use Rattle.dg_rules.proofs.to_productions.to_productions.Goals as goal

pub loop-d-init : goal.loop-d-init
loop-d-init c = record {
  few = omega arith;
  told = λ doc n are. told_none doc n c.args.needed.now c.args.edges.now c.args.productions.now
      c.new-told.result.items c.new-told.ensures.items are;
}

pub loop-d-preserved : goal.loop-d-preserved
loop-d-preserved c = record {
  few = few_behind c.loop-d.place c.loop-d.d-index c.place_behind-place.result
      c.leads-leads_on.result c.place_behind-place.ensures.exact c.loop-d.invariant.few;
  told = λ doc n are. told_more doc n c.args.needed.now c.args.edges.now c.args.productions.now
      c.loop-d.d-index c.loop-d.place c.place_behind-place.result c.loop-d.told.items
      c.push.new.self.items c.d-item.result c.leads-leads_on.result c.told_where.result
      (c.loop-d.invariant.told doc n are) c.loop-d-test.true (sym c.d-item.is)
      (c.leads-leads_on.ensures.exact
      ∙ ap (λ (d : Dependency). leads d.found) c.d.view_is)
      c.told_where.ensures.exact c.in_ok-push.ensures.items c.place_behind-place.ensures.exact;
}
