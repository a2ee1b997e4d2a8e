use Rattle.std.proofs.Common.{codes}
use Rattle.std.proofs.lemmas.Result.{on_ok_weaker}
use Rattle.dg_gen.specs.Document.{producer_lines}
use Rattle.dg_gen.proofs.TextLemmas.{longer, more}
use Rattle.dg_gen.proofs.document.push_producers.Goals as goal

pub returns : goal.returns
unfolding producer_lines
returns c = record {
  exact = on_ok_weaker c.push_line-2.result
      (λ last. more (more c.in_ok-push_numbered.ensures.exact c.in_ok-push_line.ensures.exact)
      (longer (codes "  produces q2(a: @Named(\"q0\") Int, b: @Named(\"q1\") Produced<Int>)") c.in_ok-extend_from_slice.ensures.items last))
      c.push_line-2.ensures.exact;
}
