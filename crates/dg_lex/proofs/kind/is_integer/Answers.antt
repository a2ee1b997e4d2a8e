use Rattle.std.proofs.Common.{rules, arith}
use Rattle.std.proofs.lemmas.Grind.{common_steps}
use Rattle.dg_lex.proofs.NumberLemmas.{not_integer}
use Rattle.dg_lex.proofs.kind.is_integer.Goals as goal

pub returns-else-is_counting : goal.returns-else-is_counting
returns-else-is_counting c = first_of (search (rules, not_integer), grind (arith, common_steps, not_integer))
