use Rattle.dg_examples.proofs.ScopedClass as lemmas
use Rattle.dg_examples.proofs.laws.a_scoped_class_is_made_once.Goals as goal

pub returns : goal.returns
returns c = record {
  accepted = lemmas.accepted;
  given = lemmas.given;
  made = lemmas.made;
  used = lemmas.used_cells;
  printed = lemmas.printed_report;
}
