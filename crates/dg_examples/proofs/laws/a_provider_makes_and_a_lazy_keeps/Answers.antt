use Rattle.dg_examples.proofs.Deferred as lemmas
use Rattle.dg_examples.proofs.laws.a_provider_makes_and_a_lazy_keeps.Goals as goal

pub returns : goal.returns
returns c = record {
  accepted = lemmas.accepted;
  given = lemmas.given;
  made = lemmas.made;
  used = lemmas.used_cells;
  printed = lemmas.printed_report;
}
