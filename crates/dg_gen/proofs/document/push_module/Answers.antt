use Rattle.std.proofs.lemmas.Result.{on_ok_weaker}
use Rattle.dg_gen.specs.Document.{module_lines}
use Rattle.dg_gen.proofs.TextLemmas.{more}
use Rattle.dg_gen.proofs.document.push_module.Goals as goal

pub returns : goal.returns
unfolding module_lines
returns c = record {
  exact = on_ok_weaker c.push_line-4.result
      (more (more (more (more (more c.in_ok-push_line.ensures.exact c.in_ok-push_line-2.ensures.exact) c.in_ok-push_line-3.ensures.exact)
      c.in_ok-push_all_scoped.ensures.exact) c.in_ok-push_producers.ensures.exact))
      c.push_line-4.ensures.exact;
}
