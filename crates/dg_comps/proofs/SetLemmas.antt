-- Sets of component classes as bits.
use Rattle.std.proofs.Common.{◌≡◌, ◌⊎◌, inl, inr, ℕ, ◌+◌, ◌*◌, ◌/◌, ◌%◌, ◌^◌, ◌<◌, ◌≤◌, min, Bool, true, false, not, ◌||◌, nat_eq, bit_and, bit_or, List, Contains, refl, sym, ap, ◌∙◌, arith}
use Rattle.std.specs.Int.{bit_at, w128, trailing_zeros}
use Rattle.std.specs.List.{list_any}
use Rattle.std.proofs.lemmas.Bool.{false≢true, cases_eq, eqb-true, eq-eqb, ne_eqb}
use Rattle.std.proofs.lemmas.Nat.{and_le_l}
use Rattle.std.proofs.lemmas.Nat.Bits.{shr_and_one, bit_at_and, bit_at-zero, bit_at-lt, bit_at_set_same, bit_at_set_other, bit_at-trailing_zeros}
use Rattle.dg_decl.proofs.WalkLemmas.{any_found, any_from, any_is, is_any}
use Rattle.dg_comps.specs.ClassSets.{has, IsSetOf}

pub bit_test : (set class : ℕ) → nat_eq (bit_and (set / 2 ^ class) 1) 1 ≡ has set class
unfolding has
bit_test set class = ap (λ bit. nat_eq bit 1) (shr_and_one set class)

has_from : (set class : ℕ) → bit_at set class ≡ 1 → has set class ≡ true
unfolding has
has_from set class e = eq-eqb (bit_at set class) 1 e

from_has : (set class : ℕ) → has set class ≡ true → bit_at set class ≡ 1
unfolding has
from_has set class e = eqb-true (bit_at set class) 1 e

pub none_has : (class : ℕ) → has 0 class ≡ false
unfolding has
none_has class = ap (λ bit. nat_eq bit 1) (bit_at-zero class)

same_bit : (set more class : ℕ) → bit_at more class ≡ bit_at set class → has more class
    ≡ has set class
unfolding has
same_bit set more class e = ap (λ bit. nat_eq bit 1) e

pub with_one : (set class other : ℕ) → class < 128
    → has (bit_or set (1 * 2 ^ class % 2 ^ 128)) other ≡ (nat_eq other class || has set other)
with_one set class other within =
    elim (cases_eq other class) [
      | inl e ↦ (let one = bit_at_set_same w128 set class within in
          let here = has_from (bit_or set (1 * 2 ^ class % 2 ^ 128)) other
          (ap (bit_at (bit_or set (1 * 2 ^ class % 2 ^ 128))) e ∙ one) in
          let same : nat_eq other class ≡ true = eq-eqb other class e in
          here ∙ sym (ap (λ b. b || has set other) same))
      | inr apart ↦ (let kept = bit_at_set_other w128 set class within other apart in
          let differs : nat_eq other class ≡ false = ne_eqb other class apart in
          same_bit set (bit_or set (1 * 2 ^ class % 2 ^ 128)) other kept
          ∙ sym (ap (λ b. b || has set other) differs))
    ]

-- ---- sets that share a class

-- both sets have a class whose bit both have
both_have : (first second class : ℕ) → has first class ≡ true → has second class ≡ true
    → bit_at (bit_and first second) class ≡ 1
both_have first second class a b =
    let one : bit_at first class ≡ 1 = from_has first class a in
    let two : bit_at second class ≡ 1 = from_has second class b in
    bit_at_and first second class ∙ omega arith

apart : (first second : ℕ) (classes : List ℕ) → IsSetOf (λ c. list_any (nat_eq c) classes) second
    → bit_and first second ≡ 0 → (b : Bool) → list_any (has first) classes ≡ b → b ≡ false
apart first second classes is none false e = refl
apart first second classes is none true e =
    let found = any_found (has first) classes e in
    let there : has second found.at ≡ true = is found.at ∙ is_any classes found.at found.among in
    let one = both_have first second found.at found.passes there in
    let zero : bit_at (bit_and first second) found.at ≡ 0 = ap (λ n. bit_at n found.at) none
    ∙ bit_at-zero found.at in
    absurd (omega arith)

share : (first second : ℕ) (classes : List ℕ) → IsSetOf (λ c. list_any (nat_eq c) classes) second
    → first < 2 ^ 128 → 0 < bit_and first second → list_any (has first) classes ≡ true
share first second classes is fits some =
    let both = bit_and first second in
    let low : bit_and first second ≤ first = and_le_l first second in
    let within : bit_and first second < 2 ^ 128 = omega arith in
    let lowest = bit_at-trailing_zeros w128 (bit_and first second) some within in
    let class = trailing_zeros w128 (bit_and first second) in
    let bit : min (bit_at first class) (bit_at second class)
    ≡ 1 = sym (bit_at_and first second class)
    ∙ lowest.1 in
    let small : bit_at first class < 2 = bit_at-lt first class in
    let small_too : bit_at second class < 2 = bit_at-lt second class in
    let one : bit_at first class ≡ 1 = omega arith in
    let two : bit_at second class ≡ 1 = omega arith in
    any_from (has first) classes class
    (any_is classes class (sym (is class) ∙ has_from second class two))
    (has_from first class one)

pub meeting : (first second : ℕ) (classes : List ℕ)
    → IsSetOf (λ c. list_any (nat_eq c) classes) second → first < 2 ^ 128
    → not (nat_eq (bit_and first second) 0) ≡ list_any (has first) classes
meeting first second classes is fits =
    elim (cases_eq (bit_and first second) 0) [
      | inl e ↦ (let same : nat_eq (bit_and first second) 0 ≡ true = eq-eqb _ _ e in
          ap not same ∙ sym (apart first second classes is e (list_any (has first) classes) refl))
      | inr some ↦ (let differs : nat_eq (bit_and first second) 0 ≡ false = ne_eqb _ _ some in
          ap not differs ∙ sym (share first second classes is fits (omega arith)))
    ]
