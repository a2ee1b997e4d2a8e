use Rattle.dg_lex.proofs.TextLemmas.{quoted_back}
use Rattle.dg_lex.proofs.laws.quoted_texts.Goals as goal

pub returns : goal.returns
returns c = record { exact = quoted_back }
