use Rattle.dg_examples.proofs.Awaits as lemmas
use Rattle.dg_examples.proofs.laws.only_an_awaited_producer_is_asked_for.Goals as goal

pub returns : goal.returns
returns c = record {
  given = lemmas.unawaited_given;
  made = lemmas.unawaited_made;
  used = lemmas.unawaited_used;
  printed = lemmas.unawaited_report;
}
