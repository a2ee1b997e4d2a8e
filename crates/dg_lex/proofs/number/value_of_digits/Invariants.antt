use Rattle.std.proofs.Common.{◌≡◌, ◌<◌, ◌^◌, drop, fold}
use Rattle.dg_lex.specs.Tokens.{value_of_digits}
use Rattle.dg_lex.proofs.NumberLemmas.{with_digit}
use Rattle.dg_lex.proofs.number.value_of_digits.Given as goal

abbrev pub invariant-loop-digit : goal.invariant-loop-digit
invariant-loop-digit l = (fold with_digit l.value (drop l.digit-index l.digits) ≡ value_of_digits l.digits) × (l.value < 2 ^ 64)
