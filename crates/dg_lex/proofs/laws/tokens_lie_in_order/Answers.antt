use Rattle.dg_lex.proofs.OrderLemmas.{in_order}
use Rattle.dg_lex.proofs.laws.tokens_lie_in_order.Goals as goal

pub returns : goal.returns
returns c = record { exact = in_order }
