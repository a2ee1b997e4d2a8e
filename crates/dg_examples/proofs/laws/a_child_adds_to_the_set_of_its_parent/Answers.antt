use Rattle.dg_examples.proofs.ParentAndChild as lemmas
use Rattle.dg_examples.proofs.laws.a_child_adds_to_the_set_of_its_parent.Goals as goal

pub returns : goal.returns
returns c = record {
  accepted = lemmas.accepted;
  given = lemmas.given;
  made = lemmas.made;
  used = lemmas.used_cells;
  printed = lemmas.printed_report;
}
