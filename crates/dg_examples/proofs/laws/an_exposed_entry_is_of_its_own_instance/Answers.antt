use Rattle.dg_examples.proofs.ExposedEntry as lemmas
use Rattle.dg_examples.proofs.laws.an_exposed_entry_is_of_its_own_instance.Goals as goal

pub returns : goal.returns
returns c = record {
  accepted = lemmas.accepted;
  given = lemmas.given;
  made = lemmas.made;
  used = lemmas.used_cells;
  printed = lemmas.printed_report;
}
