use Rattle.std.proofs.lemmas.Result.{on_ok_weaker}
use Rattle.dg_gen.specs.Document.{component_lines}
use Rattle.dg_gen.proofs.TextLemmas.{more}
use Rattle.dg_gen.proofs.document.push_component.Goals as goal

pub returns : goal.returns
unfolding component_lines
returns c = record {
  exact = on_ok_weaker c.push_line-4.result
      (more (more (more (more c.in_ok-push_line.ensures.exact c.in_ok-push_numbered.ensures.exact) c.in_ok-push_line-2.ensures.exact) c.in_ok-push_line-3.ensures.exact))
      c.push_line-4.ensures.exact;
}
