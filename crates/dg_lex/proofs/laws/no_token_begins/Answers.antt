use Rattle.dg_lex.proofs.OrderLemmas.{bad_byte}
use Rattle.dg_lex.proofs.laws.no_token_begins.Goals as goal

pub returns : goal.returns
returns c = record { exact = bad_byte }
