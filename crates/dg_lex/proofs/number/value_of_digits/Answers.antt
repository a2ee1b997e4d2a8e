use Rattle.std.proofs.Common.{◌≡◌, fold, rules, arith, sym, ◌∙◌}
use Rattle.std.proofs.lemmas.List.{at_drop_all}
use Rattle.dg_lex.specs.Tokens.{value_of_digits}
use Rattle.dg_lex.proofs.NumberLemmas.{with_digit, next-grows}
use Rattle.dg_lex.proofs.number.value_of_digits.Goals as goal

pub returns-in_err-checked_mul : goal.returns-in_err-checked_mul
returns-in_err-checked_mul c =
    let grows = next-grows c.loop-digit.value c.args.digits.now c.loop-digit.digit-index (search rules) in
    let above = c.in_err-checked_mul.ensures in
    record { exact = rw c.from_residual.ensures (λ below. above (omega (arith, c.loop-digit.invariant.0))) }

pub returns-in_err-value : goal.returns-in_err-value
returns-in_err-value c =
    let grows = next-grows c.loop-digit.value c.args.digits.now c.loop-digit.digit-index (search rules) in
    let above = c.in_err-value.ensures in
    record { exact = rw c.from_residual-in_err-value.ensures (λ below. above (omega (arith, c.loop-digit.invariant.0))) }

pub returns : goal.returns
returns c =
    let all : value_of_digits c.args.digits.now ≡ c.loop-digit.value = sym c.loop-digit.invariant.0 ∙ at_drop_all (fold with_digit c.loop-digit.value) c.args.digits.now c.loop-digit.digit-index (omega arith) in
    record { exact = (omega arith, sym all) }
