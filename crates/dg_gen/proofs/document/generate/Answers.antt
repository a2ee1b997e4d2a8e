use Rattle.dg_gen.proofs.TextLemmas.{more, whole}
use Rattle.dg_gen.proofs.document.generate.Goals as goal

pub returns : goal.returns
returns c = record {
  exact = whole c.new-out.ensures.items
      (more (more (more c.in_ok-push_module.ensures.exact c.in_ok-push_component.ensures.exact) c.in_ok-push_opens.ensures.exact) c.in_ok-push_asks.ensures.exact);
}
