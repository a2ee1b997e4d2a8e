use Rattle.std.proofs.Common.{◌∙◌, ap, sym, take}
use Rattle.dg_report.specs.Output.{taken}
use Rattle.dg_report.proofs.TakenLemmas.{all_taken, some_taken}
use Rattle.dg_report.proofs.output.keep_within.Goals as goal

pub returns-in-Some : goal.returns-in-Some
returns-in-Some c = record {
  exact = λ front t at is.
      some_taken c.in-Some.limit c.args.start front t c.args.text.now.items
      c.truncate.new.self.items at is
      (c.truncate.ensures.items ∙ ap (λ k. take k c.args.text.now.items) c.max.ensures)
      ∙ ap (λ l. taken l front t) (sym c.in-Some.is);
}

pub returns-in_default : goal.returns-in_default
returns-in_default c = record {
  exact = λ front t at is.
      all_taken front t c.args.text.now.items is
      ∙ ap (λ l. taken l front t) (sym c.in_default.is);
}
