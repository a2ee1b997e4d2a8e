-- The tokens of a text that is put together from tokens, with a space before each where the one before it would go on.
use Rattle.std.proofs.Common.{ℕ, ◌≡◌, ◌+◌, ◌-◌, ◌<◌, Bool, true, false, ◌&&◌, ◌==◌, List, [], ◌∷◌, ◌++◌, length, take, drop, get_or, slice_index, map, Option, Some, None, Ok, refl, sym, ap, subst, ◌∙◌, inl, inr, length-append, append_assoc, lit<, arith}
use Rattle.std.specs.Prelude.{if◌then◌else◌, ◌||◌, not, codes, nat_lt, nat_le, ◌^◌}
use Rattle.std.specs.Char.{is_ascii_alphabetic, is_ascii_digit}
use Rattle.std.specs.List.{list_all, list_any, prefix_len}
use Rattle.std.specs.Str.{bytes_eq}
use Rattle.std.proofs.Math.Seq.{take-append_seam, drop-append_seam}
use Rattle.std.proofs.lemmas.Slice.Eq.{bytes_eq-Decides}
use Rattle.std.proofs.lemmas.Bool.{and_parts, or_cases, or_parts, and_left, and_right, eqb-true, false≢true, not-true}
use Rattle.dg_lex.specs.declared.token.Token.{Token}
use Rattle.dg_lex.specs.declared.token.TokenKind.{TokenKind}
use Rattle.dg_lex.specs.declared.token.TokenKind.TheVariants as kind
use Rattle.dg_lex.specs.Bytes.{Bytes, is_word_byte, is_among, is_plain, name_limit}
use Rattle.dg_lex.specs.Tokens.{reserved, is_name, is_at_name, is_counting, is_integer, is_rest_of_text, is_text, is_sign, kind_of, quoted_len, extent, value_of_digits, tokens_from, token_from}
use Rattle.dg_lex.specs.Lexemes.{Lexeme, lexeme_of, lexemes}
use Rattle.dg_lex.proofs.LongestLemmas.{begins_run, refuted}
use Rattle.dg_lex.proofs.TokenLemmas.{token_first}

-- ---- what may stand right behind a token

-- nothing stands there, or a byte that continues no token
abbrev pub starts_apart : Bytes → Bool
starts_apart [] = true
starts_apart (b ∷ z) = not (is_word_byte b || b == 61)

-- no byte behind a token of this kind and spelling continues it
abbrev pub closes : TokenKind → Bytes → Bool
closes kind.Text z = true
closes kind.Sign z = not (bytes_eq z (codes "="))
closes other z = false

-- these bytes may stand right behind this token
abbrev pub may_touch : Lexeme → Bytes → Bool
may_touch l after = closes l.kind l.spelling || starts_apart after

or_true : (v : Bool) → (v || true) ≡ true
or_true true = refl
or_true false = refl

glue : {x y : Lexeme} {xs ys : List Lexeme} → x ≡ y → xs ≡ ys → x ∷ xs ≡ y ∷ ys
glue {y = y} {xs = xs} e f = ap (λ (l : Lexeme). l ∷ xs) e ∙ ap (λ (ls : List Lexeme). y ∷ ls) f

-- ---- how far each kind reaches

apart_no_word : (b : ℕ) → not (is_word_byte b || b == 61) ≡ true → is_word_byte b ≡ false
apart_no_word b apart = (or_parts (is_word_byte b) (b == 61) (not-true (is_word_byte b || b == 61) apart)).0

-- a front of word bytes ends where none stands behind it
run_reaches : (z after : Bytes) → list_all is_word_byte z ≡ true → starts_apart after ≡ true → prefix_len is_word_byte (z ++ after) ≡ length z
run_reaches [] [] all apart = refl
run_reaches [] (b ∷ after) all apart = rw (apart_no_word b apart) refl
run_reaches (b ∷ z) after all apart =
    let parts = and_parts (is_word_byte b) (list_all is_word_byte z) all in
    rw (parts.0, run_reaches z after parts.1 apart) (omega arith)

-- a token that ends with the run
record IsRun (z : Bytes) : Type 0 where
  pub first : ℕ
  pub more : Bytes
  pub is : z ≡ first ∷ more
  begins : begins_run first ≡ true
  all : list_all is_word_byte more ≡ true

run_extent : (z after : Bytes) → IsRun z → starts_apart after ≡ true → extent (z ++ after) ≡ length z
unfolding extent
run_extent z after r apart = rw (r.is, r.begins, run_reaches r.more after r.all apart) (omega arith)

word_begins : (b : ℕ) → is_word_byte b ≡ true → begins_run b ≡ true
word_begins b word = rw word refl

all_words : (z : Bytes) → 0 < length z → list_all is_word_byte z ≡ true → IsRun z
all_words [] some all = absurd (omega arith)
all_words (b ∷ z) some all =
    let parts = and_parts (is_word_byte b) (list_all is_word_byte z) all in
    record { first = b; more = z; is = refl; begins = word_begins b parts.0; all = parts.1 }

name_words : (z : Bytes) → is_name z ≡ true → list_all is_word_byte z ≡ true
unfolding is_name
name_words z is =
    let a = (and_parts (is_ascii_alphabetic (slice_index z 0) && list_all is_word_byte z && nat_le (length z) name_limit) (not (is_among z reserved)) is).0 in
    let b = (and_parts (is_ascii_alphabetic (slice_index z 0) && list_all is_word_byte z) (nat_le (length z) name_limit) a).0 in
    (and_parts (is_ascii_alphabetic (slice_index z 0)) (list_all is_word_byte z) b).1

name_some : (z : Bytes) → is_name z ≡ true → 0 < length z
unfolding is_name
name_some [] is = absurd (false≢true is)
name_some (b ∷ z) is = omega arith

name_runs : (z : Bytes) → is_name z ≡ true → IsRun z
name_runs z is = all_words z (name_some z is) (name_words z is)

same_bytes : (z r : Bytes) → bytes_eq z r ≡ true → z ≡ r
same_bytes z r e = (bytes_eq-Decides z r).0 e

run_of : (z r : Bytes) → IsRun r → bytes_eq z r ≡ true → IsRun z
run_of z r is e = subst IsRun (sym (same_bytes z r e)) is

word_runs : (z : Bytes) → is_among z reserved ≡ true → IsRun z
word_runs z is =
    elim (or_cases (bytes_eq z (codes "new")) _ is) [
      | inl a ↦ run_of z (codes "new") (all_words (codes "new") (lit< tt) refl) a
      | inr more ↦ elim (or_cases (bytes_eq z (codes "if")) _ more) [
        | inl a ↦ run_of z (codes "if") (all_words (codes "if") (lit< tt) refl) a
        | inr more2 ↦ elim (or_cases (bytes_eq z (codes "then")) _ more2) [
          | inl a ↦ run_of z (codes "then") (all_words (codes "then") (lit< tt) refl) a
          | inr more3 ↦ elim (or_cases (bytes_eq z (codes "else")) _ more3) [
            | inl a ↦ run_of z (codes "else") (all_words (codes "else") (lit< tt) refl) a
            | inr more4 ↦ elim (or_cases (bytes_eq z (codes "await")) _ more4) [
              | inl a ↦ run_of z (codes "await") (all_words (codes "await") (lit< tt) refl) a
              | inr none ↦ absurd (false≢true none)
            ]
          ]
        ]
      ]
    ]

at_name_runs : (z : Bytes) → is_at_name z ≡ true → IsRun z
unfolding is_at_name
at_name_runs [] is = absurd (false≢true is)
at_name_runs (b ∷ z) is =
    let parts = and_parts (b == 64) (is_name z) is in
    record { first = b; more = z; is = refl; begins = rw (eqb-true b 64 parts.0) refl; all = name_words z parts.1 }

digit_word : (b : ℕ) → is_ascii_digit b ≡ true → is_word_byte b ≡ true
digit_word b digit = rw digit refl

digit_words : (z : Bytes) → list_all is_ascii_digit z ≡ true → list_all is_word_byte z ≡ true
digit_words [] all = refl
digit_words (b ∷ z) all =
    let parts = and_parts (is_ascii_digit b) (list_all is_ascii_digit z) all in
    rw (digit_word b parts.0) (digit_words z parts.1)

counting_words : (z : Bytes) → is_counting z ≡ true → list_all is_word_byte z ≡ true
unfolding is_counting
counting_words z is = digit_words z (and_parts (not (slice_index z 0 == 48) && nat_lt 0 (length z)) (list_all is_ascii_digit z) is).1

counting_some : (z : Bytes) → is_counting z ≡ true → 0 < length z
unfolding is_counting
counting_some [] is = absurd (false≢true is)
counting_some (b ∷ z) is = omega arith

negative_runs : (z : Bytes) → (slice_index z 0 == 45) ≡ true → is_counting (drop 1 z) ≡ true → IsRun z
negative_runs [] minus is = absurd (false≢true minus)
negative_runs (b ∷ z) minus is = record { first = b; more = z; is = refl; begins = rw (eqb-true b 45 minus) refl; all = counting_words z is }

integer_runs : (z : Bytes) → is_integer z ≡ true → IsRun z
unfolding is_integer
integer_runs z is =
    elim (or_cases (bytes_eq z (codes "0") || (is_counting z && nat_lt (value_of_digits z) (2 ^ 63))) _ is) [
      | inl positive ↦ elim (or_cases (bytes_eq z (codes "0")) _ positive) [
        | inl nought ↦ run_of z (codes "0") (all_words (codes "0") (lit< tt) refl) nought
        | inr counts ↦ (let parts = and_parts (is_counting z) (nat_lt (value_of_digits z) (2 ^ 63)) counts in all_words z (counting_some z parts.0) (counting_words z parts.0))
      ]
      | inr negative ↦ (let outer = and_parts (slice_index z 0 == 45 && is_counting (drop 1 z)) (nat_le (value_of_digits (drop 1 z)) (2 ^ 63)) negative in
          let parts = and_parts (slice_index z 0 == 45) (is_counting (drop 1 z)) outer.0 in
          negative_runs z parts.0 parts.1)
    ]

closed_at : (b : ℕ) (z after : Bytes) (v : Bool) → (b == 34) ≡ v → is_rest_of_text false (b ∷ z) ≡ true → (is_rest_of_text (b == 92) z ≡ true → quoted_len (b == 92) (z ++ after) ≡ length z) → quoted_len false (b ∷ (z ++ after)) ≡ length (b ∷ z)
closed_at b z after true e is more = rw e (let last = eqb-true (length z) 0 (rw e at is) in omega (arith, last))
closed_at b z after false e is more =
    rw e (let rest = more (and_parts (is_plain b) (is_rest_of_text (b == 92) z) (rw e at is)).1 in omega (arith, rest))

-- the closing quote ends a text
closed_len : (before : Bool) (z after : Bytes) → is_rest_of_text before z ≡ true → quoted_len before (z ++ after) ≡ length z
closed_len before [] after is = absurd (false≢true is)
closed_len true (b ∷ z) after is =
    let both = and_parts (b == 34 || b == 92) (is_rest_of_text false z) is in
    let more = closed_len false z after both.1 in
    omega (arith, more)
closed_len false (b ∷ z) after is = closed_at b z after (b == 34) refl is (λ h. closed_len (b == 92) z after h)

text_extent : (z after : Bytes) → is_text z ≡ true → extent (z ++ after) ≡ length z
unfolding is_text extent
text_extent [] after is = absurd (false≢true is)
text_extent (b ∷ z) after is =
    let both = and_parts (b == 34) (is_rest_of_text false z) is in
    let first : b ≡ 34 = eqb-true b 34 both.0 in
    rw (first, closed_len false z after both.1) (omega arith)

-- what holds of each of these holds of one of them
one_has : (p : ℕ → Bool) (b : ℕ) (xs : List ℕ) → list_any (λ s. s == b) xs ≡ true → list_all p xs ≡ true → p b ≡ true
one_has p b [] is all = absurd (false≢true is)
one_has p b (x ∷ xs) is all =
    let parts = and_parts (p x) (list_all p xs) all in
    elim (or_cases (x == b) (list_any (λ s. s == b) xs) is) [
      | inl here ↦ rw (← eqb-true x b here) parts.0
      | inr later ↦ one_has p b xs later parts.1
    ]

-- neither the first byte of a run nor a quote
abbrev begins_sign : ℕ → Bool
begins_sign b = not (begins_run b || b == 34)

and_true : (v : Bool) → (v && true) ≡ false → v ≡ false
and_true true e = e
and_true false e = refl

no_second : (b : ℕ) (after : Bytes) → starts_apart after ≡ true → (b == 61 && slice_index after 0 == 61) ≡ false
no_second b [] apart = and_right (b == 61) false refl
no_second b (c ∷ after) apart = and_right (b == 61) (c == 61) (or_parts (is_word_byte c) (c == 61) (not-true (is_word_byte c || c == 61) apart)).1

no_double : (b : ℕ) (after : Bytes) → (not (bytes_eq (b ∷ []) (codes "=")) || starts_apart after) ≡ true → (b == 61 && slice_index after 0 == 61) ≡ false
no_double b after touch =
    elim (or_cases (not (bytes_eq (b ∷ []) (codes "="))) (starts_apart after) touch) [
      | inl other ↦ and_left (b == 61) (slice_index after 0 == 61) (and_true (b == 61) (not-true (bytes_eq (b ∷ []) (codes "=")) other))
      | inr apart ↦ no_second b after apart
    ]

single_extent : (b : ℕ) (after : Bytes) → begins_sign b ≡ true → (b == 61 && slice_index after 0 == 61) ≡ false → extent (b ∷ after) ≡ 1
unfolding extent
single_extent b after begins other =
    let parts = or_parts (begins_run b) (b == 34) (not-true (begins_run b || b == 34) begins) in
    rw (parts.0, parts.1, other) refl

double_extent : (after : Bytes) → extent (61 ∷ 61 ∷ after) ≡ 2
unfolding extent
double_extent after = refl

single : (z after : Bytes) → (length z == 1) ≡ true → list_any (λ s. s == slice_index z 0) (codes "(){}<>,:=.!?[]+") ≡ true → (closes kind.Sign z || starts_apart after) ≡ true → extent (z ++ after) ≡ length z
single [] after one is touch = absurd (false≢true one)
single (b ∷ []) after one is touch = single_extent b after (one_has begins_sign b (codes "(){}<>,:=.!?[]+") is refl) (no_double b after touch)
single (b ∷ c ∷ z) after one is touch = absurd (let h = eqb-true (length (b ∷ c ∷ z)) 1 one in omega (arith, h))

sign_extent : (z after : Bytes) → is_sign z ≡ true → (closes kind.Sign z || starts_apart after) ≡ true → extent (z ++ after) ≡ length z
unfolding is_sign
sign_extent z after is touch =
    elim (or_cases (bytes_eq z (codes "==")) _ is) [
      | inl two ↦ rw (same_bytes z (codes "==") two) (double_extent after)
      | inr one ↦ (let parts = and_parts (length z == 1) _ one in single z after parts.0 parts.1 touch)
    ]

-- ---- any token

-- what bytes are a token of this kind
pub data IsKind (z : Bytes) : TokenKind → Type 0 where
  of_name : is_name z ≡ true → IsKind z kind.Name
  of_word : is_among z reserved ≡ true → IsKind z kind.Word
  of_at_name : is_at_name z ≡ true → IsKind z kind.AtName
  of_integer : is_integer z ≡ true → IsKind z kind.Integer
  of_text : is_text z ≡ true → IsKind z kind.Text
  of_sign : is_sign z ≡ true → IsKind z kind.Sign

abbrev kind_or : TokenKind → Option TokenKind → TokenKind
kind_or other None = other
kind_or other (Some k) = k

sign_kind : (z : Bytes) (k : TokenKind) (v : Bool) → is_sign z ≡ v → (if v then Some kind.Sign else None) ≡ Some k → IsKind z k
sign_kind z k true e is = subst (IsKind z) (ap (kind_or k) is) (of_sign e)
sign_kind z k false e is = absurd cc

text_kind : (z : Bytes) (k : TokenKind) (v : Bool) → is_text z ≡ v → (if v then Some kind.Text else (if is_sign z then Some kind.Sign else None)) ≡ Some k → IsKind z k
text_kind z k true e is = subst (IsKind z) (ap (kind_or k) is) (of_text e)
text_kind z k false e is = sign_kind z k (is_sign z) refl is

integer_kind : (z : Bytes) (k : TokenKind) (v : Bool) → is_integer z ≡ v → (if v then Some kind.Integer else (if is_text z then Some kind.Text else (if is_sign z then Some kind.Sign else None))) ≡ Some k → IsKind z k
integer_kind z k true e is = subst (IsKind z) (ap (kind_or k) is) (of_integer e)
integer_kind z k false e is = text_kind z k (is_text z) refl is

at_name_kind : (z : Bytes) (k : TokenKind) (v : Bool) → is_at_name z ≡ v → (if v then Some kind.AtName else (if is_integer z then Some kind.Integer else (if is_text z then Some kind.Text else (if is_sign z then Some kind.Sign else None)))) ≡ Some k → IsKind z k
at_name_kind z k true e is = subst (IsKind z) (ap (kind_or k) is) (of_at_name e)
at_name_kind z k false e is = integer_kind z k (is_integer z) refl is

word_kind : (z : Bytes) (k : TokenKind) (v : Bool) → is_among z reserved ≡ v → (if v then Some kind.Word else (if is_at_name z then Some kind.AtName else (if is_integer z then Some kind.Integer else (if is_text z then Some kind.Text else (if is_sign z then Some kind.Sign else None))))) ≡ Some k → IsKind z k
word_kind z k true e is = subst (IsKind z) (ap (kind_or k) is) (of_word e)
word_kind z k false e is = at_name_kind z k (is_at_name z) refl is

name_kind : (z : Bytes) (k : TokenKind) (v : Bool) → is_name z ≡ v → (if v then Some kind.Name else (if is_among z reserved then Some kind.Word else (if is_at_name z then Some kind.AtName else (if is_integer z then Some kind.Integer else (if is_text z then Some kind.Text else (if is_sign z then Some kind.Sign else None)))))) ≡ Some k → IsKind z k
name_kind z k true e is = subst (IsKind z) (ap (kind_or k) is) (of_name e)
name_kind z k false e is = word_kind z k (is_among z reserved) refl is

pub is_kind : (z : Bytes) (k : TokenKind) → kind_of z ≡ Some k → IsKind z k
unfolding kind_of
is_kind z k is = name_kind z k (is_name z) refl is

reaches : (z after : Bytes) (k : TokenKind) → IsKind z k → (closes k z || starts_apart after) ≡ true → extent (z ++ after) ≡ length z
reaches z after kind.Name (of_name is) touch = run_extent z after (name_runs z is) touch
reaches z after kind.Word (of_word is) touch = run_extent z after (word_runs z is) touch
reaches z after kind.AtName (of_at_name is) touch = run_extent z after (at_name_runs z is) touch
reaches z after kind.Integer (of_integer is) touch = run_extent z after (integer_runs z is) touch
reaches z after kind.Text (of_text is) touch = text_extent z after is
reaches z after kind.Sign (of_sign is) touch = sign_extent z after is touch

-- ---- how a token begins

-- a token begins with something other than a space
pub record Begins (z : Bytes) : Type 0 where
  pub first : ℕ
  pub more : Bytes
  pub is : z ≡ first ∷ more
  pub no_space : (first == 32) ≡ false

other_byte : (p : ℕ → Bool) (b c : ℕ) → p b ≡ true → p c ≡ false → (b == c) ≡ false
other_byte p b c has lacks = refuted (b == c) (λ same. false≢true (sym lacks ∙ sym (ap p (eqb-true b c same)) ∙ has))

run_first : (z : Bytes) → IsRun z → Begins z
run_first z r = record { first = r.first; more = r.more; is = r.is; no_space = other_byte begins_run r.first 32 r.begins refl }

text_first : (z : Bytes) → is_text z ≡ true → Begins z
unfolding is_text
text_first [] is = absurd (false≢true is)
text_first (b ∷ z) is =
    let both = and_parts (b == 34) (is_rest_of_text false z) is in
    record { first = b; more = z; is = refl; no_space = rw (eqb-true b 34 both.0) refl }

single_first : (z : Bytes) → (length z == 1) ≡ true → list_any (λ s. s == slice_index z 0) (codes "(){}<>,:=.!?[]+") ≡ true → Begins z
single_first [] one is = absurd (false≢true one)
single_first (b ∷ z) one is =
    record { first = b; more = z; is = refl; no_space = not-true (b == 32) (one_has (λ c. not (c == 32)) b (codes "(){}<>,:=.!?[]+") is refl) }

sign_first : (z : Bytes) → is_sign z ≡ true → Begins z
unfolding is_sign
sign_first z is =
    elim (or_cases (bytes_eq z (codes "==")) _ is) [
      | inl two ↦ record { first = 61; more = 61 ∷ []; is = same_bytes z (codes "==") two; no_space = refl }
      | inr one ↦ (let parts = and_parts (length z == 1) _ one in single_first z parts.0 parts.1)
    ]

pub begins : (z : Bytes) (k : TokenKind) → IsKind z k → Begins z
begins z kind.Name (of_name is) = run_first z (name_runs z is)
begins z kind.Word (of_word is) = run_first z (word_runs z is)
begins z kind.AtName (of_at_name is) = run_first z (at_name_runs z is)
begins z kind.Integer (of_integer is) = run_first z (integer_runs z is)
begins z kind.Text (of_text is) = text_first z is
begins z kind.Sign (of_sign is) = sign_first z is

-- ---- tokens with spaces between

-- a token, and whether a space stands before it
pub record Piece : Type 0 where
  pub token : Lexeme
  pub apart : Bool

abbrev pub text_of : List Piece → Bytes
text_of [] = []
text_of (p ∷ ps) = (if p.apart then 32 ∷ [] else []) ++ (p.token.spelling ++ text_of ps)

abbrev pub tokens_in : List Piece → List Lexeme
tokens_in ps = map (λ p. p.token) ps

-- each is spelled as its kind says
abbrev pub AreTokens : List Piece → Type 0
AreTokens [] = Unit {0}
AreTokens (p ∷ ps) = (kind_of p.token.spelling ≡ Some p.token.kind) × AreTokens ps

-- where no space stands before a token, it may stand right behind the one before it
abbrev pub AreParted : List Piece → Type 0
AreParted [] = Unit {0}
AreParted (p ∷ []) = Unit {0}
AreParted (p ∷ q ∷ ps) = ((q.apart || may_touch p.token q.token.spelling) ≡ true) × AreParted (q ∷ ps)

-- the rest of a text right behind a token
abbrev touches_rest : Lexeme → List Piece → Bool
touches_rest t ps = may_touch t (text_of ps)

more_apart : (z after : Bytes) → Begins z → starts_apart z ≡ true → starts_apart (z ++ after) ≡ true
more_apart z after b apart = rw b.is (rw b.is at apart)

touch_more : (t : Lexeme) (z after : Bytes) → Begins z → may_touch t z ≡ true → may_touch t (z ++ after) ≡ true
touch_more t z after b touch =
    elim (or_cases (closes t.kind t.spelling) (starts_apart z) touch) [
      | inl closed ↦ rw closed refl
      | inr apart ↦ rw (more_apart z after b apart, or_true (closes t.kind t.spelling)) refl
    ]

touch_at : (t : Lexeme) (q : Piece) (ps : List Piece) (v : Bool) → q.apart ≡ v → Begins q.token.spelling → (q.apart || may_touch t q.token.spelling) ≡ true → touches_rest t (q ∷ ps) ≡ true
touch_at t q ps true e b touch = rw (e, or_true (closes t.kind t.spelling)) refl
touch_at t q ps false e b touch = rw e (touch_more t q.token.spelling (text_of ps) b (rw e at touch))

touch_rest : (p : Piece) (ps : List Piece) → AreTokens ps → AreParted (p ∷ ps) → touches_rest p.token ps ≡ true
touch_rest p [] are parted = or_true (closes p.token.kind p.token.spelling)
touch_rest p (q ∷ ps) are parted = touch_at p.token q ps q.apart refl (begins q.token.spelling q.token.kind (is_kind q.token.spelling q.token.kind are.0)) parted.0

later_parted : (p : Piece) (ps : List Piece) → AreParted (p ∷ ps) → AreParted ps
later_parted p [] parted = tt
later_parted p (q ∷ ps) parted = parted.1

-- the tokens of a text from a place on are these
pub record AreFound (line : Bytes) (at : ℕ) (z : Bytes) (ls : List Lexeme) : Type 0 where
  pub tokens : List Token
  pub found : tokens_from 0 at z ≡ Ok tokens
  pub spelled : lexemes line tokens ≡ ls

first_byte : (z after : Bytes) → Begins z → (get_or (z ++ after) 0 0 == 32) ≡ false
first_byte z after b = rw b.is b.no_space

begins_some : (z after : Bytes) → Begins z → 0 < length (z ++ after)
begins_some z after b = rw b.is (omega arith)

size_some : (z : Bytes) → Begins z → 0 < length z
size_some z b = rw b.is (omega arith)

lexeme_there : (front z after : Bytes) (k : TokenKind) → lexeme_of (front ++ (z ++ after)) (token_from k (length front) (length z)) ≡ record { kind = k; spelling = z }
lexeme_there front z after k =
    let size : length front + length z - length front ≡ length z = omega arith in
    rw (size, drop-append_seam front (z ++ after), take-append_seam z after) refl

found_token : (front z after line : Bytes) (k : TokenKind) (ls : List Lexeme) → line ≡ front ++ (z ++ after) → kind_of z ≡ Some k → (closes k z || starts_apart after) ≡ true → AreFound line (length (front ++ z)) after ls → AreFound line (length front) (z ++ after) (record { kind = k; spelling = z } ∷ ls)
found_token front z after line k ls same is touch rest =
    let b = begins z k (is_kind z k is) in
    let found : kind_of (take (length z) (z ++ after)) ≡ Some k = rw (take-append_seam z after) is in
    let first = token_first (length front) (length z) (z ++ after) k (begins_some z after b) (first_byte z after b) (reaches z after k (is_kind z k is) touch) (size_some z b) found in
    let one : lexeme_of line (token_from k (length front) (length z)) ≡ record { kind = k; spelling = z } = rw same (lexeme_there front z after k) in
    let later : tokens_from 0 (length front + length z) after ≡ Ok rest.tokens = rw (← length-append front z) rest.found in
    record {
      tokens = token_from k (length front) (length z) ∷ rest.tokens;
      found = sym first ∙ rw (drop-append_seam z after, later) refl;
      spelled = glue one rest.spelled;
    }

found_piece : (p : Piece) (ps : List Piece) (front line : Bytes) (v : Bool) → p.apart ≡ v → line ≡ front ++ text_of (p ∷ ps) → kind_of p.token.spelling ≡ Some p.token.kind → touches_rest p.token ps ≡ true → ((before : Bytes) → line ≡ before ++ text_of ps → AreFound line (length before) (text_of ps) (tokens_in ps)) → AreFound line (length front) (text_of (p ∷ ps)) (tokens_in (p ∷ ps))
found_piece p ps front line true e same is touch more =
    let z = p.token.spelling in
    let there : line ≡ (front ++ (32 ∷ [])) ++ (z ++ text_of ps) = rw e at same ∙ sym (append_assoc front (32 ∷ []) (z ++ text_of ps)) in
    let here = found_token (front ++ (32 ∷ [])) z (text_of ps) line p.token.kind (tokens_in ps) there is touch
    (more ((front ++ (32 ∷ [])) ++ z) (there ∙ sym (append_assoc (front ++ (32 ∷ [])) z (text_of ps)))) in
    let at : length (front ++ (32 ∷ [])) ≡ length front + 1 = omega (arith, length-append front (32 ∷ [])) in
    rw e record { tokens = here.tokens; found = rw at at here.found; spelled = here.spelled }
found_piece p ps front line false e same is touch more =
    let z = p.token.spelling in
    let there : line ≡ front ++ (z ++ text_of ps) = rw e at same in
    rw e (found_token front z (text_of ps) line p.token.kind (tokens_in ps) there is touch
    (more (front ++ z) (there ∙ sym (append_assoc front z (text_of ps)))))

pub found_all : (ps : List Piece) (front line : Bytes) → line ≡ front ++ text_of ps → AreTokens ps → AreParted ps → AreFound line (length front) (text_of ps) (tokens_in ps)
found_all [] front line same are parted = record { tokens = []; found = refl; spelled = refl }
found_all (p ∷ ps) front line same are parted =
    found_piece p ps front line p.apart refl same are.0 (touch_rest p ps are.1 parted) (λ before there. found_all ps before line there are.1 (later_parted p ps parted))

-- the tokens of the text are those of which it is made
pub pieces_found : (ps : List Piece) → AreTokens ps → AreParted ps → AreFound (text_of ps) 0 (text_of ps) (tokens_in ps)
pieces_found ps are parted = found_all ps [] (text_of ps) refl are parted
