use Rattle.dg_lex.proofs.DecimalLemmas.{decimals}
use Rattle.dg_lex.proofs.laws.decimal_integers.Goals as goal

pub returns : goal.returns
returns c = record { exact = decimals }
