-- The decimal text of an integer is a token, and that integer is its value.
use Rattle.std.proofs.Common.{ℕ, zero, suc, ◌≡◌, ◌+◌, ◌*◌, ◌/◌, ◌%◌, ◌≤◌, ◌<◌, Bool, true, false, ◌==◌, [], ◌∷◌, ◌++◌, length, slice_index, refl, sym, ◌∙◌, lit<, length-append, arith}
use Rattle.std.specs.Prelude.{◌||◌, ◌^◌, codes, nat_le, ℤ, pos, negsuc, decimal}
use Rattle.std.specs.Fmt.{signed_decimal}
use Rattle.std.specs.Char.{is_ascii_digit}
use Rattle.std.specs.List.{list_all}
use Rattle.std.specs.Str.{bytes_eq}
use Rattle.std.proofs.Math.Nat.{div-add-mod}
use Rattle.std.proofs.lemmas.Fmt.{decimal_by_steps, decimal_digit}
use Rattle.std.proofs.lemmas.List.Sums.{fold-append}
use Rattle.std.proofs.lemmas.List.Folds.{list_all-append}
use Rattle.std.proofs.lemmas.Bool.{eqb-true, ltb-true, lt-ltb, le-leb, false≢true}
use Rattle.dg_lex.specs.Bytes.{Bytes}
use Rattle.dg_lex.specs.Tokens.{is_counting, is_integer, value_of_digits, value_of_integer}
use Rattle.dg_lex.specs.LexLaws.{is_in_range, AreDecimals}
use Rattle.dg_lex.proofs.NumberLemmas.{with_digit}
use Rattle.dg_lex.proofs.LongestLemmas.{refuted}

-- what the decimal text of a number is
record IsDecimal (n : ℕ) (z : Bytes) : Type 0 where
  some : 0 < length z
  digits : list_all is_ascii_digit z ≡ true
  value : value_of_digits z ≡ n
  first : 0 < n → (slice_index z 0 == 48) ≡ false

digit_test : (d : ℕ) → d < 10 → is_ascii_digit (48 + d) ≡ true
digit_test d lt =
    let low : nat_le 48 (48 + d) ≡ true = le-leb 48 (48 + d) (omega arith) in
    let high : nat_le (48 + d) 57 ≡ true = le-leb (48 + d) 57 (omega arith) in
    rw (low, high) refl

one_digit : (n : ℕ) → n < 10 → IsDecimal n ((48 + n) ∷ [])
one_digit n lt = record {
  some = omega arith;
  digits = rw (digit_test n lt) refl;
  value = omega arith;
  first = λ above. refuted (48 + n == 48) (λ same. (let e = eqb-true (48 + n) 48 same in omega (arith, e, above)));
}

first_stays : (z : Bytes) (d : ℕ) → 0 < length z → slice_index (z ++ (d ∷ [])) 0 ≡ slice_index z 0
first_stays [] d some = absurd (omega arith)
first_stays (b ∷ z) d some = refl

digit_more : (n : ℕ) (z : Bytes) → 10 ≤ n → IsDecimal (n / 10) z → IsDecimal n (z ++ ((48 + n % 10) ∷ []))
digit_more n z above d =
    let parts : 10 * (n / 10) + n % 10 ≡ n = div-add-mod n 10 in
    let small : n % 10 < 10 = omega arith in
    let large : 0 < n / 10 = omega (arith, parts, small) in
    let fewer = d.some in
    let value = d.value in
    record {
      some = omega (arith, length-append z ((48 + n % 10) ∷ []));
      digits = rw (list_all-append is_ascii_digit z ((48 + n % 10) ∷ []), d.digits, digit_test (n % 10) small) refl;
      value = fold-append with_digit 0 z ((48 + n % 10) ∷ []) ∙ (omega (arith, parts, value));
      first = λ any. rw (first_stays z (48 + n % 10) d.some) (d.first large);
    }

is_decimal : (n : ℕ) → n < 2 ^ 64 → IsDecimal n (decimal n)
is_decimal n lt = decimal_by_steps IsDecimal one_digit digit_more n lt

counting : (n : ℕ) → 0 < n → n < 2 ^ 64 → is_counting (decimal n) ≡ true
unfolding is_counting
counting n above lt =
    let d = is_decimal n lt in
    rw (d.first above, lt-ltb 0 (length (decimal n)) d.some, d.digits) refl

positive_token : (n : ℕ) → n < 2 ^ 63 → is_integer (decimal n) ≡ true
unfolding is_integer
positive_token zero lt = rw (decimal_digit 0 (lit< tt)) refl
positive_token (suc n) lt =
    let within : value_of_digits (decimal (suc n)) < 2 ^ 63 = rw ((is_decimal (suc n) (omega arith)).value) lt in
    rw (counting (suc n) (omega arith) (omega arith), lt-ltb (value_of_digits (decimal (suc n))) (2 ^ 63) within, or_true (bytes_eq (decimal (suc n)) (codes "0"))) refl
  where
    or_true : (v : Bool) → (v || true) ≡ true
    or_true true = refl
    or_true false = refl

digit_no_minus : (z : Bytes) → 0 < length z → list_all is_ascii_digit z ≡ true → (slice_index z 0 == 45) ≡ false
digit_no_minus [] some all = absurd (omega arith)
digit_no_minus (b ∷ z) some all = refuted (b == 45) (λ same. false≢true (sym (first_no b z (eqb-true b 45 same)) ∙ all))
  where
    first_no : (b : ℕ) (z : Bytes) → b ≡ 45 → list_all is_ascii_digit (b ∷ z) ≡ false
    first_no b z e = rw e refl

positive_value : (n : ℕ) → n < 2 ^ 64 → value_of_integer (decimal n) ≡ pos n
unfolding value_of_integer
positive_value n lt =
    let d = is_decimal n lt in
    rw (digit_no_minus (decimal n) d.some d.digits, d.value) refl

negative_token : (n : ℕ) → n < 2 ^ 63 → is_integer (45 ∷ decimal (suc n)) ≡ true
unfolding is_integer
negative_token n lt =
    let within : value_of_digits (decimal (suc n)) ≤ 2 ^ 63 = rw ((is_decimal (suc n) (omega arith)).value) (omega arith) in
    rw (counting (suc n) (omega arith) (omega arith), le-leb (value_of_digits (decimal (suc n))) (2 ^ 63) within, or_true _) refl
  where
    or_true : (v : Bool) → (v || true) ≡ true
    or_true true = refl
    or_true false = refl

negative_value : (n : ℕ) → n < 2 ^ 63 → value_of_integer (45 ∷ decimal (suc n)) ≡ negsuc n
unfolding value_of_integer
negative_value n lt = rw ((is_decimal (suc n) (omega arith)).value) refl

token : (n : ℤ) → is_in_range n ≡ true → is_integer (signed_decimal n) ≡ true
token (pos n) within = positive_token n (ltb-true n (2 ^ 63) within)
token (negsuc n) within = negative_token n (ltb-true n (2 ^ 63) within)

value : (n : ℤ) → is_in_range n ≡ true → value_of_integer (signed_decimal n) ≡ n
value (pos n) within = (let lt = ltb-true n (2 ^ 63) within in positive_value n (omega (arith, lt)))
value (negsuc n) within = negative_value n (ltb-true n (2 ^ 63) within)

pub decimals : AreDecimals
decimals = record { token = token; value = value }
