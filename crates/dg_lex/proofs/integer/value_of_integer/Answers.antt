use Rattle.std.proofs.Common.{◌≡◌, ◌==◌, false, true, slice_index, arith, rules, tests, sym, ◌∙◌}
use Rattle.std.proofs.lemmas.List.{take_rest}
use Rattle.dg_lex.specs.Bytes.{Bytes}
use Rattle.dg_lex.specs.Tokens.{is_integer}
use Rattle.dg_lex.proofs.NumberLemmas.{none_is_other, negative_number, other_number, value_of_negative, value_of_other, some_at_both}
use Rattle.dg_lex.proofs.integer.value_of_integer.Goals as goal
use Rattle.dg_lex.proofs.integer.value_of_integer.Goals.{in_default-via-then-z-lt1, in_default-via-else-z-lt1+in_default-1}

pub negative-requires : goal.negative-requires
negative-requires c =
    let z : Bytes = c.args.z.now in
    let minus : slice_index z 0 ≡ 45 = search rules in
    let is : is_integer z ≡ true = sym c.is_integer.ensures.exact ∙ c.if-not-is_integer.false in
    rw (take_rest z 1) (negative_number z minus is).digits

pub number-requires : goal.number-requires
number-requires c =
    let z : Bytes = c.args.z.now in
    let other : (slice_index z 0 == 45) ≡ false = elim c.in_default.branch [ in_default-via-then-z-lt1 w ↦ search (rules, none_is_other) | in_default-via-else-z-lt1+in_default-1 w ↦ search (rules, tests) ] in
    let is : is_integer z ≡ true = sym c.is_integer.ensures.exact ∙ c.if-not-is_integer.false in
    (other_number z other is).digits

pub returns-in-45 : goal.returns-in-45
returns-in-45 c =
    let z : Bytes = c.args.z.now in
    let minus : slice_index z 0 ≡ 45 = search rules in
    let is : is_integer z ≡ true = sym c.is_integer.ensures.exact ∙ c.if-not-is_integer.false in
    let number = negative_number z minus is in
    record { exact = some_at_both c.negative.result _ _ _ _ (omega (arith, number.within)) is (value_of_negative z minus) (rw (take_rest z 1) at c.negative.ensures.exact) }

pub returns-in_default : goal.returns-in_default
returns-in_default c =
    let z : Bytes = c.args.z.now in
    let other : (slice_index z 0 == 45) ≡ false = elim c.in_default.branch [ in_default-via-then-z-lt1 w ↦ search (rules, none_is_other) | in_default-via-else-z-lt1+in_default-1 w ↦ search (rules, tests) ] in
    let is : is_integer z ≡ true = sym c.is_integer.ensures.exact ∙ c.if-not-is_integer.false in
    record { exact = some_at_both c.number.result _ _ _ _ (other_number z other is).within is (value_of_other z other) c.number.ensures.exact }
