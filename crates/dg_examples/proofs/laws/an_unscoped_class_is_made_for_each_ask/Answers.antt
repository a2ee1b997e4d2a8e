use Rattle.dg_examples.proofs.ScopedClass as lemmas
use Rattle.dg_examples.proofs.laws.an_unscoped_class_is_made_for_each_ask.Goals as goal

pub returns : goal.returns
returns c = record {
  accepted = lemmas.unscoped_accepted;
  given = lemmas.unscoped_given;
  used = lemmas.unscoped_used;
  printed = lemmas.unscoped_report;
}
