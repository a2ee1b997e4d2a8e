-- The number that digits write only grows with more digits.
use Rattle.std.proofs.Common.{ℕ, ◌≡◌, ◌+◌, ◌-◌, ◌*◌, ◌≤◌, ◌<◌, Bool, true, false, ◌&&◌, nat_lt, [], ◌∷◌, length, get_or, slice_index, drop, fold, inl, inr, refl, ◌∙◌, arith}
use Rattle.std.specs.Prelude.{ℤ, pos, neg_ℤ, SomeIff, Option, Some, None, ◌==◌, ◌^◌, ◌||◌, not, nat_le, ◌⊎◌, codes}
use Rattle.std.specs.Char.{is_ascii_digit}
use Rattle.std.specs.Str.{bytes_eq}
use Rattle.std.specs.List.{list_all}
use Rattle.std.proofs.lemmas.Slice.Eq.{bytes_eq-Decides}
use Rattle.std.proofs.lemmas.Bool.{and_parts, false≢true, leb-true, ltb-true}
use Rattle.std.proofs.lemmas.List.{at_drop_more}
use Rattle.dg_lex.specs.Bytes.{Bytes}
use Rattle.dg_lex.specs.Tokens.{is_counting, is_integer, value_of_digits, value_of_integer}

-- the number so far, with one digit more
abbrev pub with_digit : ℕ → ℕ → ℕ
with_digit n b = 10 * n + (b - 48)

pub fold-grows : (n : ℕ) (z : Bytes) → n ≤ fold with_digit n z
fold-grows n [] = omega arith
fold-grows n (b ∷ z) = omega (arith, fold-grows (with_digit n b) z)

pub fold-next : (n : ℕ) (z : Bytes) (at : ℕ) → at < length z → fold with_digit n (drop at z) ≡ fold with_digit (with_digit n (get_or z at 0)) (drop (at + 1) z)
fold-next n z at within = at_drop_more (fold with_digit n) z at 0 within

pub next-grows : (n : ℕ) (z : Bytes) (at : ℕ) → at < length z → with_digit n (get_or z at 0) ≤ fold with_digit n (drop at z)
next-grows n z at within = omega (arith, fold-next n z at within, fold-grows (with_digit n (get_or z at 0)) (drop (at + 1) z))

and-false : (b : Bool) → (b && false) ≡ false
and-false true = refl
and-false false = refl

-- what begins with `-` doesn't begin with a digit
counting_minus : (z : Bytes) → is_counting (45 ∷ z) ≡ false
unfolding is_counting
counting_minus z = and-false (nat_lt 0 (length (45 ∷ z)))

pub not_integer : (z : Bytes) → slice_index z 0 ≡ 45 → is_counting (drop 1 z) ≡ false → is_integer z ≡ false
unfolding is_integer
not_integer [] minus other = absurd (omega arith)
not_integer (b ∷ z) minus other = rw (minus, counting_minus z, other)

-- ---- the number that an integer writes

-- what is given where P holds is given where Q holds, of an equal value, where both hold
pub some_at_both : (r : Option ℤ) (P Q : Type 0) (v w : ℤ) → P → Q → v ≡ w → SomeIff r P v → SomeIff r Q w
some_at_both None P Q v w p q same none = absurd (none p)
some_at_both (Some x) P Q v w p q same some = (q, some.1 ∙ same)

pub record IsNumber (limit : ℕ) (z : Bytes) : Type 0 where
  pub digits : list_all is_ascii_digit z ≡ true
  pub within : value_of_digits z < limit

counting_digits : (z : Bytes) → is_counting z ≡ true → list_all is_ascii_digit z ≡ true
unfolding is_counting
counting_digits z counts =
    (and_parts (not (slice_index z 0 == 48) && nat_lt 0 (length z)) (list_all is_ascii_digit z) counts).1

pub negative_number : (z : Bytes) → slice_index z 0 ≡ 45 → is_integer z ≡ true → IsNumber (2 ^ 63 + 1) (drop 1 z)
unfolding is_integer
negative_number [] minus is = absurd (omega arith)
negative_number (b ∷ z) minus is =
    let parts = and_parts (is_counting z) (nat_le (value_of_digits z) (2 ^ 63)) (rw (minus, counting_minus z) at is) in
    record { digits = counting_digits z parts.0; within = omega (arith, leb-true (value_of_digits z) (2 ^ 63) parts.1) }

one_of_two : (a b c d e : Bool) → c ≡ false → (a || b || (c && d && e)) ≡ true → (a ≡ true) ⊎ (b ≡ true)
one_of_two true b c d e other is = inl refl
one_of_two false true c d e other is = inr refl
one_of_two false false c d e other is = absurd (false≢true (rw other at is))

pub none_is_other : (z : Bytes) → length z < 1 → (slice_index z 0 == 45) ≡ false
none_is_other [] none = refl
none_is_other (b ∷ z) none = absurd (omega arith)

pub other_number : (z : Bytes) → (slice_index z 0 == 45) ≡ false → is_integer z ≡ true → IsNumber (2 ^ 63) z
unfolding is_integer
other_number z other is =
    elim (one_of_two (bytes_eq z (codes "0")) (is_counting z && nat_lt (value_of_digits z) (2 ^ 63)) (slice_index z 0 == 45) (is_counting (drop 1 z)) (nat_le (value_of_digits (drop 1 z)) (2 ^ 63)) other is) [
      | inl zero ↦ rw ((bytes_eq-Decides z (codes "0")).0 zero) record { digits = refl; within = omega arith }
      | inr counts ↦ (let parts = and_parts (is_counting z) (nat_lt (value_of_digits z) (2 ^ 63)) counts in
          record { digits = counting_digits z parts.0; within = ltb-true (value_of_digits z) (2 ^ 63) parts.1 })
    ]

pub value_of_negative : (z : Bytes) → slice_index z 0 ≡ 45 → neg_ℤ (pos (value_of_digits (drop 1 z))) ≡ value_of_integer z
unfolding value_of_integer
value_of_negative z minus = rw minus refl

pub value_of_other : (z : Bytes) → (slice_index z 0 == 45) ≡ false → pos (value_of_digits z) ≡ value_of_integer z
unfolding value_of_integer
value_of_other z other = rw other refl
