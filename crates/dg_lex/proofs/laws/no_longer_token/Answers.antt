use Rattle.dg_lex.proofs.LongestLemmas.{longest}
use Rattle.dg_lex.proofs.laws.no_longer_token.Goals as goal

pub returns : goal.returns
returns c = record { exact = longest }
