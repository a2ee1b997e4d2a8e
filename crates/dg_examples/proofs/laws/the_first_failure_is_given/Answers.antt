use Rattle.dg_examples.proofs.TwoFailures as lemmas
use Rattle.dg_examples.proofs.laws.the_first_failure_is_given.Goals as goal

pub returns : goal.returns
returns c = record {
  given = lemmas.given;
  used = lemmas.used_cells;
  printed = lemmas.printed_report;
}
