use Rattle.dg_examples.proofs.Awaits as lemmas
use Rattle.dg_examples.proofs.laws.an_awaited_producer_is_asked_for.Goals as goal

pub returns : goal.returns
returns c = record {
  given = lemmas.given;
  made = lemmas.made;
  used = lemmas.used_cells;
  printed = lemmas.printed_report;
}
