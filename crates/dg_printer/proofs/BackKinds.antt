-- Tokens by their kinds: which bytes they have, and which names, texts and integers they spell.
use Rattle.std.proofs.Common.{ℕ, zero, suc, ◌≡◌, ◌≤◌, Bool, true, false, ◌&&◌, ◌==◌, List, [], ◌∷◌, ◌++◌, length, drop, slice_index, Some, refl, sym, ap, ◌∙◌, ◌⊎◌, inl, inr, arith}
use Rattle.std.specs.Prelude.{◌||◌, not, codes, nat_lt, nat_le, ◌^◌, ℤ, pos, neg_ℤ}
use Rattle.std.specs.Char.{is_ascii_alphabetic, is_ascii_digit}
use Rattle.std.specs.Int.{is_in_range}
use Rattle.std.specs.Fmt.{signed_decimal}
use Rattle.std.specs.List.{list_all, list_any, flat_map}
use Rattle.std.specs.Str.{bytes_eq}
use Rattle.std.proofs.lemmas.Slice.Eq.{bytes_eq-Decides}
use Rattle.std.proofs.lemmas.Bool.{and_parts, or_cases, or_parts, and_right, eqb-true, leb-true, le-leb, lt-ltb, false≢true, both_ways}
use Rattle.dg_lex.specs.declared.token.TokenKind.{TokenKind}
use Rattle.dg_lex.specs.declared.token.TokenKind.TheVariants as kind
use Rattle.dg_lex.specs.Bytes.{Bytes, is_plain, is_word_byte, is_among, name_limit}
use Rattle.dg_lex.specs.Tokens.{reserved, is_name, is_at_name, is_counting, is_integer, is_rest_of_text, is_text, is_sign, kind_of, value_of_digits, value_of_integer}
use Rattle.dg_lex.specs.LexLaws as laws
use Rattle.dg_lex.specs.Lexemes.{Lexeme, quoted, escaped, value_of_text}
use Rattle.dg_lex.proofs.LongestLemmas.{refuted, no_name_34, no_at_name_34, no_integer_34, sign_no_name, sign_no_word, sign_no_at_name, sign_no_integer}
use Rattle.dg_lex.proofs.PieceLemmas.{IsKind, of_name, of_word, of_at_name, of_integer, of_text, of_sign, is_kind}
use Rattle.dg_lex.proofs.TextLemmas.{quoted_back}
use Rattle.dg_lex.proofs.DecimalLemmas.{decimals}

-- ---- lists of tokens

-- each is spelled as its kind says
abbrev pub AllKinds : List Lexeme → Type 0
AllKinds [] = Unit {0}
AllKinds (l ∷ ls) = (kind_of l.spelling ≡ Some l.kind) × AllKinds ls

pub kinds_append : (ks ls : List Lexeme) → AllKinds ks → AllKinds ls → AllKinds (ks ++ ls)
kinds_append [] ls a b = b
kinds_append (k ∷ ks) ls a b = (a.0, kinds_append ks ls a.1 b)

pub kinds_rest : (ls : List Lexeme) → AllKinds ls → AllKinds (drop 1 ls)
kinds_rest [] a = tt
kinds_rest (l ∷ ls) a = a.1

-- ---- a token of each kind

pub name_kind : (z : Bytes) → is_name z ≡ true → kind_of z ≡ Some kind.Name
unfolding kind_of
name_kind z is = rw is refl

pub name_of : (z : Bytes) → kind_of z ≡ Some kind.Name → is_name z ≡ true
name_of z is = within (is_kind z kind.Name is)
  where
    within : IsKind z kind.Name → is_name z ≡ true
    within (of_name has) = has

pub at_kind : (z : Bytes) → is_name z ≡ true → kind_of (64 ∷ z) ≡ Some kind.AtName
unfolding kind_of is_at_name
at_kind z is = rw (sign_no_name 64 z refl, is) refl

at_of_at : (z : Bytes) → is_at_name z ≡ true → is_name (drop 1 z) ≡ true
unfolding is_at_name
at_of_at z is = (and_parts (slice_index z 0 == 64) (is_name (drop 1 z)) is).1

pub at_of : (z : Bytes) → kind_of z ≡ Some kind.AtName → is_name (drop 1 z) ≡ true
at_of z is = within (is_kind z kind.AtName is)
  where
    within : IsKind z kind.AtName → is_name (drop 1 z) ≡ true
    within (of_at_name has) = at_of_at z has

first_at : (z : Bytes) → (slice_index z 0 == 64) ≡ true → z ≡ 64 ∷ drop 1 z
first_at [] e = absurd (false≢true e)
first_at (b ∷ z) e = ap (λ (n : ℕ). n ∷ z) (eqb-true b 64 e)

at_spelled_at : (z : Bytes) → is_at_name z ≡ true → z ≡ 64 ∷ drop 1 z
unfolding is_at_name
at_spelled_at z is = first_at z (and_parts (slice_index z 0 == 64) (is_name (drop 1 z)) is).0

-- an at-name is `@` and its name
pub at_spelled : (z : Bytes) → kind_of z ≡ Some kind.AtName → z ≡ 64 ∷ drop 1 z
at_spelled z is = within (is_kind z kind.AtName is)
  where
    within : IsKind z kind.AtName → z ≡ 64 ∷ drop 1 z
    within (of_at_name has) = at_spelled_at z has

text_kind_at : (w : Bytes) → is_text (34 ∷ w) ≡ true → kind_of (34 ∷ w) ≡ Some kind.Text
unfolding kind_of
text_kind_at w is = rw (no_name_34 w, no_at_name_34 w, no_integer_34 w, is) refl

pub text_kind : (t : Bytes) → list_all is_plain t ≡ true → kind_of (quoted t) ≡ Some kind.Text
unfolding quoted
text_kind t plain = text_kind_at _ (quoted_back.token t plain)

-- what holds of each of these texts holds of one of them
among_has : (p : Bytes → Bool) (z : Bytes) (texts : List Bytes) → is_among z texts ≡ true
    → list_all p texts ≡ true → p z ≡ true
among_has p z [] is all = absurd (false≢true is)
among_has p z (x ∷ xs) is all =
    let parts = and_parts (p x) (list_all p xs) all in
    elim (or_cases (bytes_eq z x) (is_among z xs) is) [
      | inl here ↦ ap p ((bytes_eq-Decides z x).0 here) ∙ parts.0
      | inr later ↦ among_has p z xs later parts.1
    ]

pub or_true : (v : Bool) → (v || true) ≡ true
or_true true = refl
or_true false = refl

-- ---- integers

abbrev begins_integer : ℕ → Bool
begins_integer b = is_ascii_digit b || b == 45

counting_first : (z : Bytes) → is_counting z ≡ true → is_ascii_digit (slice_index z 0) ≡ true
unfolding is_counting
counting_first [] is = absurd (false≢true is)
counting_first (b ∷ z) is =
    let all = (and_parts (not (b == 48) && nat_lt 0 (length (b ∷ z)))
    (list_all is_ascii_digit (b ∷ z)) is).1 in
    (and_parts (is_ascii_digit b) (list_all is_ascii_digit z) all).0

-- the three forms of an integer
data IsNumber (z : Bytes) : Type 0 where
  nought : z ≡ codes "0" → IsNumber z
  counts : is_counting z ≡ true → nat_lt (value_of_digits z) (2 ^ 63) ≡ true → IsNumber z
  negative : (slice_index z 0 == 45) ≡ true → is_counting (drop 1 z) ≡ true → nat_le
      (value_of_digits (drop 1 z)) (2 ^ 63) ≡ true → IsNumber z

is_number : (z : Bytes) → is_integer z ≡ true → IsNumber z
unfolding is_integer
is_number z is =
    elim (or_cases (bytes_eq z (codes "0") || (is_counting z && nat_lt (value_of_digits z)
    (2 ^ 63))) _ is) [
      | inl positive ↦ elim (or_cases (bytes_eq z (codes "0")) _ positive) [
        | inl same ↦ nought ((bytes_eq-Decides z (codes "0")).0 same)
        | inr more ↦ (let parts = and_parts (is_counting z)
            (nat_lt (value_of_digits z) (2 ^ 63)) more in counts parts.0 parts.1)
      ]
      | inr below ↦ (let outer = and_parts (slice_index z 0 == 45 && is_counting (drop 1 z))
          (nat_le (value_of_digits (drop 1 z)) (2 ^ 63)) below in
          let parts = and_parts (slice_index z 0 == 45) (is_counting (drop 1 z)) outer.0 in
          negative parts.0 parts.1 outer.1)
    ]

number_first : (z : Bytes) → IsNumber z → begins_integer (slice_index z 0) ≡ true
number_first z (nought same) = rw same refl
number_first z (counts is within) = rw (counting_first z is) refl
number_first z (negative minus is within) = rw
    (minus, or_true (is_ascii_digit (slice_index z 0))) refl

apart : (b lo hi low high : ℕ) → is_in_range lo hi b ≡ true → is_in_range low high b ≡ true
    → suc hi ≤ low → ⊥
apart b lo hi low high d u less =
    let top = leb-true b hi (and_parts (nat_le lo b) (nat_le b hi) d).1 in
    let bottom = leb-true low b (and_parts (nat_le low b) (nat_le b high) u).0 in
    absurd (omega (arith, top, bottom, less))

below : (b low high : ℕ) → (b == 45) ≡ true → is_in_range low high b ≡ true → 46 ≤ low → ⊥
below b low high e u less =
    let same = eqb-true b 45 e in
    let bottom = leb-true low b (and_parts (nat_le low b) (nat_le b high) u).0 in
    absurd (omega (arith, same, bottom, less))

no_letter_at : (b : ℕ) → (is_ascii_digit b ≡ true) ⊎ ((b == 45) ≡ true)
    → (is_in_range 65 90 b ≡ true) ⊎ (is_in_range 97 122 b ≡ true) → ⊥
no_letter_at b (inl d) (inl u) = apart b 48 57 65 90 d u (omega arith)
no_letter_at b (inl d) (inr u) = apart b 48 57 97 122 d u (omega arith)
no_letter_at b (inr d) (inl u) = below b 65 90 d u (omega arith)
no_letter_at b (inr d) (inr u) = below b 97 122 d u (omega arith)

no_letter : (b : ℕ) → begins_integer b ≡ true → is_ascii_alphabetic b ≡ false
no_letter b is = refuted (is_ascii_alphabetic b)
    (λ letter. no_letter_at b (or_cases (is_ascii_digit b) (b == 45) is)
    (or_cases (is_in_range 65 90 b) (is_in_range 97 122 b) letter))

no_at_sign : (b : ℕ) → begins_integer b ≡ true → (b == 64) ≡ false
no_at_sign b is = refuted (b == 64) (λ same. false≢true
    (sym (ap begins_integer (eqb-true b 64 same)) ∙ is))

integer_no_name : (z : Bytes) → is_integer z ≡ true → is_name z ≡ false
unfolding is_name
integer_no_name z is = rw (no_letter (slice_index z 0) (number_first z (is_number z is))) refl

integer_no_at : (z : Bytes) → is_integer z ≡ true → is_at_name z ≡ false
unfolding is_at_name
integer_no_at z is = rw (no_at_sign (slice_index z 0) (number_first z (is_number z is))) refl

integer_no_word : (z : Bytes) → is_integer z ≡ true → is_among z reserved ≡ false
integer_no_word z is = refuted (is_among z reserved)
    (λ among. both_ways (is_ascii_alphabetic (slice_index z 0))
    (no_letter (slice_index z 0) (number_first z (is_number z is)))
    (among_has (λ x. is_ascii_alphabetic (slice_index x 0)) z reserved among refl))

integer_kind_of : (z : Bytes) → is_integer z ≡ true → kind_of z ≡ Some kind.Integer
unfolding kind_of
integer_kind_of z is = rw (integer_no_name z is, integer_no_word z is, integer_no_at z is, is) refl

pub integer_kind : (n : ℤ) → laws.is_in_range n ≡ true → kind_of (signed_decimal n)
    ≡ Some kind.Integer
integer_kind n within = integer_kind_of (signed_decimal n) (decimals.token n within)

-- the value of an integer token is one of 64 bits
digits_no_minus : (z : Bytes) → is_ascii_digit (slice_index z 0) ≡ true → (slice_index z 0 == 45)
    ≡ false
digits_no_minus z digit = refuted (slice_index z 0 == 45)
    (λ same. false≢true (ap is_ascii_digit (sym (eqb-true (slice_index z 0) 45 same)) ∙ digit))

minus_within : (n : ℕ) → nat_le n (2 ^ 63) ≡ true → laws.is_in_range (neg_ℤ (pos n)) ≡ true
minus_within zero le = refl
minus_within (suc n) le = (let most = leb-true (suc n) (2 ^ 63) le in lt-ltb n (2 ^ 63)
    (omega (arith, most)))

number_within : (z : Bytes) → IsNumber z → laws.is_in_range (value_of_integer z) ≡ true
unfolding value_of_integer
number_within z (nought same) = rw same refl
number_within z (counts is within) = rw (digits_no_minus z (counting_first z is)) within
number_within z (negative minus is within) = rw minus
    (minus_within (value_of_digits (drop 1 z)) within)

pub integer_within : (z : Bytes) → is_integer z ≡ true → laws.is_in_range (value_of_integer z)
    ≡ true
integer_within z is = number_within z (is_number z is)

-- ---- texts

same_plain : (b c : ℕ) → (b == c) ≡ true → is_plain c ≡ true → is_plain b ≡ true
same_plain b c same plain = ap is_plain (eqb-true b c same) ∙ plain

quote_plain : (b : ℕ) → (b == 34 || b == 92) ≡ true → is_plain b ≡ true
quote_plain b is = elim (or_cases (b == 34) (b == 92) is)
    [ inl q ↦ same_plain b 34 q refl | inr e ↦ same_plain b 92 e refl ]

inner_plain_at : (b : ℕ) (v : Bytes) (e : Bool) → (b == 34 || b == 92) ≡ e
    → (is_rest_of_text false (flat_map escaped v ++ (34 ∷ [])) ≡ true → list_all is_plain v ≡ true)
    → is_rest_of_text false (flat_map escaped (b ∷ v) ++ (34 ∷ [])) ≡ true
    → list_all is_plain (b ∷ v) ≡ true
inner_plain_at b v true e more is =
    let rest : ((b == 34 || b == 92) && is_rest_of_text false (flat_map escaped v ++ (34 ∷ [])))
    ≡ true = rw e at is in
    rw (quote_plain b e, more (and_parts (b == 34 || b == 92) _ rest).1) refl
inner_plain_at b v false e more is =
    let parts = or_parts (b == 34) (b == 92) e in
    let rest : (is_plain b && is_rest_of_text (b == 92) (flat_map escaped v ++ (34 ∷ [])))
    ≡ true = rw (e, parts.0) at is in
    let both = and_parts (is_plain b) (is_rest_of_text (b == 92) (flat_map escaped v ++ (34 ∷ [])))
    rest in
    rw (both.0, more (rw parts.1 at both.1)) refl

inner_plain : (v : Bytes) → is_rest_of_text false (flat_map escaped v ++ (34 ∷ [])) ≡ true
    → list_all is_plain v ≡ true
inner_plain [] is = refl
inner_plain (b ∷ v) is = inner_plain_at b v (b == 34 || b == 92) refl (inner_plain v) is

quoted_plain : (v : Bytes) → is_text (quoted v) ≡ true → list_all is_plain v ≡ true
unfolding is_text quoted
quoted_plain v is = inner_plain v is

pub text_plain : (z : Bytes) → kind_of z ≡ Some kind.Text → list_all is_plain (value_of_text z)
    ≡ true
text_plain z is = within (is_kind z kind.Text is)
  where
    within : IsKind z kind.Text → list_all is_plain (value_of_text z) ≡ true
    within (of_text has) = quoted_plain (value_of_text z) (rw (quoted_back.spelling z has) has)

-- ---- the bytes of a token are plain

in_range_plain : (lo hi b : ℕ) → is_in_range lo hi b ≡ true → 32 ≤ lo → hi ≤ 126 → is_plain b ≡ true
in_range_plain lo hi b is low high =
    let parts = and_parts (nat_le lo b) (nat_le b hi) is in
    let bottom = leb-true lo b parts.0 in
    let top = leb-true b hi parts.1 in
    rw (le-leb 32 b (omega (arith, bottom, low)), le-leb b 126 (omega (arith, top, high))) refl

letter_plain : (b : ℕ) → (is_ascii_digit b ≡ true) ⊎ (is_in_range 65 90 b ≡ true) → is_plain b
    ≡ true
letter_plain b (inl d) = in_range_plain 48 57 b d (omega arith) (omega arith)
letter_plain b (inr u) = in_range_plain 65 90 b u (omega arith) (omega arith)

alphanumeric_plain : (b : ℕ) → ((is_in_range 48 57 b || is_in_range 65 90 b) ≡ true) ⊎
    (is_in_range 97 122 b ≡ true) → is_plain b ≡ true
alphanumeric_plain b (inl more) = letter_plain b
    (or_cases (is_in_range 48 57 b) (is_in_range 65 90 b) more)
alphanumeric_plain b (inr l) = in_range_plain 97 122 b l (omega arith) (omega arith)

word_byte_at : (b : ℕ) → ((is_in_range 48 57 b || is_in_range 65 90 b || is_in_range 97 122 b)
    ≡ true) ⊎ ((b == 95) ≡ true) → is_plain b ≡ true
word_byte_at b (inl more) = alphanumeric_plain b
    (or_cases (is_in_range 48 57 b || is_in_range 65 90 b) (is_in_range 97 122 b) more)
word_byte_at b (inr same) = same_plain b 95 same refl

word_byte_plain : (b : ℕ) → is_word_byte b ≡ true → is_plain b ≡ true
word_byte_plain b is = word_byte_at b (or_cases
    (is_in_range 48 57 b || is_in_range 65 90 b || is_in_range 97 122 b) (b == 95) is)

all_plain : (p : ℕ → Bool) → ((b : ℕ) → p b ≡ true → is_plain b ≡ true) → (z : Bytes) → list_all p z
    ≡ true → list_all is_plain z ≡ true
all_plain p each [] is = refl
all_plain p each (b ∷ z) is = (let parts = and_parts (p b) (list_all p z) is in rw
    (each b parts.0, all_plain p each z parts.1) refl)

name_plain : (z : Bytes) → is_name z ≡ true → list_all is_plain z ≡ true
unfolding is_name
name_plain z is =
    let a = (and_parts (is_ascii_alphabetic (slice_index z 0) && list_all is_word_byte z && nat_le
    (length z) name_limit) (not (is_among z reserved)) is).0 in
    let b = (and_parts (is_ascii_alphabetic (slice_index z 0) && list_all is_word_byte z)
    (nat_le (length z) name_limit) a).0 in
    all_plain is_word_byte word_byte_plain z (and_parts (is_ascii_alphabetic (slice_index z 0))
    (list_all is_word_byte z) b).1

first_plain : (z : Bytes) → is_plain (slice_index z 0) ≡ true → list_all is_plain (drop 1 z) ≡ true
    → list_all is_plain z ≡ true
first_plain [] first more = refl
first_plain (b ∷ z) first more = rw (first, more) refl

counting_plain : (z : Bytes) → is_counting z ≡ true → list_all is_plain z ≡ true
unfolding is_counting
counting_plain z is = all_plain is_ascii_digit
    (λ b d. in_range_plain 48 57 b d (omega arith) (omega arith)) z
    (and_parts (not (slice_index z 0 == 48) && nat_lt 0 (length z))
    (list_all is_ascii_digit z) is).1

number_plain : (z : Bytes) → IsNumber z → list_all is_plain z ≡ true
number_plain z (nought same) = rw same refl
number_plain z (counts is within) = counting_plain z is
number_plain z (negative minus is within) = first_plain z
    (same_plain (slice_index z 0) 45 minus refl) (counting_plain (drop 1 z) is)

rest_plain_at : (b : ℕ) (z : Bytes) (v : Bool) → (b == 34) ≡ v
    → ((e : Bool) → is_rest_of_text e z ≡ true → list_all is_plain z ≡ true) → is_rest_of_text false
    (b ∷ z) ≡ true → list_all is_plain (b ∷ z) ≡ true
rest_plain_at b [] true e more is = rw (same_plain b 34 e refl) refl
rest_plain_at b (c ∷ z) true e more is = absurd
    (let h = eqb-true (length (c ∷ z)) 0 (rw e at is) in omega (arith, h))
rest_plain_at b z false e more is =
    let parts = and_parts (is_plain b) (is_rest_of_text (b == 92) z) (rw e at is) in
    rw (parts.0, more (b == 92) parts.1) refl

rest_plain : (escape : Bool) (z : Bytes) → is_rest_of_text escape z ≡ true → list_all is_plain z
    ≡ true
rest_plain escape [] is = refl
rest_plain true (b ∷ z) is =
    let parts = and_parts (b == 34 || b == 92) (is_rest_of_text false z) is in
    rw (quote_plain b parts.0, rest_plain false z parts.1) refl
rest_plain false (b ∷ z) is = rest_plain_at b z (b == 34) refl (λ e. rest_plain e z) is

-- what holds of each of these holds of one of them
one_has : (p : ℕ → Bool) (b : ℕ) (xs : List ℕ) → list_any (λ s. s == b) xs ≡ true → list_all p xs
    ≡ true → p b ≡ true
one_has p b [] is all = absurd (false≢true is)
one_has p b (x ∷ xs) is all =
    let parts = and_parts (p x) (list_all p xs) all in
    elim (or_cases (x == b) (list_any (λ s. s == b) xs) is) [
      | inl here ↦ rw (← eqb-true x b here) parts.0
      | inr later ↦ one_has p b xs later parts.1
    ]

single_plain : (z : Bytes) → (length z == 1) ≡ true → is_plain (slice_index z 0) ≡ true
    → list_all is_plain z ≡ true
single_plain [] one is = refl
single_plain (b ∷ []) one is = rw is refl
single_plain (b ∷ c ∷ z) one is = absurd (let h = eqb-true (length (b ∷ c ∷ z)) 1 one in omega
    (arith, h))

sign_plain : (z : Bytes) → is_sign z ≡ true → list_all is_plain z ≡ true
unfolding is_sign
sign_plain z is =
    elim (or_cases (bytes_eq z (codes "==")) _ is) [
      | inl two ↦ rw ((bytes_eq-Decides z (codes "==")).0 two) refl
      | inr one ↦ (let parts = and_parts (length z == 1) _ one in single_plain z parts.0
          (one_has is_plain (slice_index z 0) (codes "(){}<>,:=.!?[]+") parts.1 refl))
    ]

at_name_plain : (z : Bytes) → is_at_name z ≡ true → list_all is_plain z ≡ true
unfolding is_at_name
at_name_plain z is = (let parts = and_parts (slice_index z 0 == 64)
    (is_name (drop 1 z)) is in first_plain z (same_plain (slice_index z 0) 64 parts.0 refl)
    (name_plain (drop 1 z) parts.1))

is_text_plain : (z : Bytes) → is_text z ≡ true → list_all is_plain z ≡ true
unfolding is_text
is_text_plain z is = (let parts = and_parts (slice_index z 0 == 34)
    (is_rest_of_text false (drop 1 z)) is in first_plain z
    (same_plain (slice_index z 0) 34 parts.0 refl) (rest_plain false (drop 1 z) parts.1))

plain_at : (z : Bytes) (k : TokenKind) → IsKind z k → list_all is_plain z ≡ true
plain_at z kind.Name (of_name is) = name_plain z is
plain_at z kind.Word (of_word is) = among_has (λ x. list_all is_plain x) z reserved is refl
plain_at z kind.AtName (of_at_name is) = at_name_plain z is
plain_at z kind.Integer (of_integer is) = number_plain z (is_number z is)
plain_at z kind.Text (of_text is) = is_text_plain z is
plain_at z kind.Sign (of_sign is) = sign_plain z is

pub kind_plain : (z : Bytes) (k : TokenKind) → kind_of z ≡ Some k → list_all is_plain z ≡ true
kind_plain z k is = plain_at z k (is_kind z k is)

-- ---- no token begins with `/`

no_sign_slash : (z : Bytes) → is_sign (47 ∷ z) ≡ false
unfolding is_sign
no_sign_slash z = and_right (length (47 ∷ z) == 1) false refl

no_text_slash : (z : Bytes) → is_text (47 ∷ z) ≡ false
unfolding is_text
no_text_slash z = refl

slash_at : (z : Bytes) (k : TokenKind) → IsKind (47 ∷ z) k → ⊥
slash_at z kind.Name (of_name is) = both_ways (is_name (47 ∷ z)) (sign_no_name 47 z refl) is
slash_at z kind.Word (of_word is) = both_ways (is_among (47 ∷ z) reserved)
    (sign_no_word 47 z refl) is
slash_at z kind.AtName (of_at_name is) = both_ways (is_at_name (47 ∷ z))
    (sign_no_at_name 47 z refl) is
slash_at z kind.Integer (of_integer is) = both_ways (is_integer (47 ∷ z))
    (sign_no_integer 47 z refl refl) is
slash_at z kind.Text (of_text is) = both_ways (is_text (47 ∷ z)) (no_text_slash z) is
slash_at z kind.Sign (of_sign is) = both_ways (is_sign (47 ∷ z)) (no_sign_slash z) is

pub no_slash : (b : ℕ) (z : Bytes) (k : TokenKind) → kind_of (b ∷ z) ≡ Some k → (b == 47) ≡ false
no_slash b z k is = refuted (b == 47) (λ same. slash_at z k
    (is_kind (47 ∷ z) k (ap (λ (n : ℕ). kind_of (n ∷ z)) (sym (eqb-true b 47 same)) ∙ is)))
