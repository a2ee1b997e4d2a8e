-- The tokens of a line lie in order, and only spaces stand between them.
use Rattle.std.proofs.Common.{ℕ, zero, suc, ◌≡◌, ◌+◌, ◌-◌, ◌≤◌, ◌<◌, Bool, true, false, ◌&&◌, ◌==◌, List, [], ◌∷◌, length, take, drop, get_or, slice_index, Option, Some, None, Result, Ok, Err, refl, sym, ap, subst, inl, inr, length-drop, arith}
use Rattle.std.specs.Prelude.{if◌then◌else◌, ◌||◌}
use Rattle.std.specs.List.{prefix_len}
use Rattle.std.proofs.lemmas.Bool.{cases_lt, or_parts, both_ways, and_right}
use Rattle.std.proofs.lemmas.List.{drop_more, drop-drop, at_drop_all, get_or_past, get_or-drop}
use Rattle.std.proofs.lemmas.List.Sums.{prefix_len_stops, prefix_len-le-length}
use Rattle.dg_lex.specs.declared.token.Token.{Token}
use Rattle.dg_lex.specs.declared.token.TokenKind.{TokenKind}
use Rattle.dg_lex.specs.declared.token.TokenKind.TheVariants as kind
use Rattle.dg_lex.specs.Bytes.{Bytes, is_word_byte, is_among}
use Rattle.dg_lex.specs.Tokens.{reserved, is_name, is_at_name, is_integer, is_text, is_sign, kind_of, quoted_len, extent, before, token_from, tokens_from, tokens_of}
use Rattle.dg_lex.specs.LexLaws.{takes_run, are_spaces, IsTokenOf, LieInOrder, TokensLieInOrder, NoTokenAt, NoTokenBegins}
use Rattle.dg_lex.proofs.TokenLemmas.{bad_first, token_first, not_space}
use Rattle.dg_lex.proofs.LongestLemmas.{begins_run, longest, no_name_34, no_at_name_34, no_integer_34, sign_no_name, sign_no_word, sign_no_at_name, sign_no_integer}

-- ---- how many bytes a token takes

quoted_at : (b : ℕ) (z : Bytes) (v : Bool) → quoted_len (b == 92) z ≤ length z → (if v then 1 else 1 + quoted_len (b == 92) z) ≤ length (b ∷ z)
quoted_at b z true more = omega arith
quoted_at b z false more = omega (arith, more)

quoted_within : (escaped : Bool) (z : Bytes) → quoted_len escaped z ≤ length z
quoted_within escaped [] = omega arith
quoted_within true (b ∷ z) = omega (arith, quoted_within false z)
quoted_within false (b ∷ z) = quoted_at b z (b == 34) (quoted_within (b == 92) z)

two_within : (b : ℕ) (z : Bytes) (v : Bool) → (b == 61 && slice_index z 0 == 61) ≡ v → (if v then 2 else 1) ≤ length (b ∷ z)
two_within b [] true e = absurd (both_ways (b == 61 && false) (and_right (b == 61) false refl) e)
two_within b (c ∷ z) true e = omega arith
two_within b z false e = omega arith

extent_at : (b : ℕ) (z : Bytes) (u v : Bool) → (if u then 1 + prefix_len is_word_byte z else (if v then 1 + quoted_len false z else (if b == 61 && slice_index z 0 == 61 then 2 else 1))) ≤ length (b ∷ z)
extent_at b z true v = omega (arith, prefix_len-le-length is_word_byte z)
extent_at b z false true = omega (arith, quoted_within false z)
extent_at b z false false = two_within b z (b == 61 && slice_index z 0 == 61) refl

extent_within : (z : Bytes) → extent z ≤ length z
unfolding extent
extent_within [] = omega arith
extent_within (b ∷ z) = extent_at b z (begins_run b) (b == 34)

some_at : (b : ℕ) (z : Bytes) (u v w : Bool) → 0 < (if u then 1 + prefix_len is_word_byte z else (if v then 1 + quoted_len false z else (if w then 2 else 1)))
some_at b z true v w = omega arith
some_at b z false true w = omega arith
some_at b z false false true = omega arith
some_at b z false false false = omega arith

extent_some : (z : Bytes) → 0 < length z → 0 < extent z
unfolding extent
extent_some [] some = absurd (omega arith)
extent_some (b ∷ z) some = some_at b z (begins_run b) (b == 34) (b == 61 && slice_index z 0 == 61)

-- ---- the whole run

run_stops : (z : Bytes) → is_word_byte (slice_index z (prefix_len is_word_byte z)) ≡ false
run_stops z =
    elim (cases_lt (prefix_len is_word_byte z) (length z)) [
      | inl within ↦ prefix_len_stops is_word_byte z 0 within
      | inr past ↦ rw (get_or_past z (prefix_len is_word_byte z) 0 past) refl
    ]

-- the kind that was found takes the run
abbrev found_run : Option TokenKind → Bool
found_run (Some k) = takes_run k
found_run None = false

text_or_sign_at : (k : TokenKind) (u v : Bool) → (if u then Some kind.Text else (if v then Some kind.Sign else None)) ≡ Some k → takes_run k ≡ false
text_or_sign_at k true v is = ap found_run (sym is)
text_or_sign_at k false true is = ap found_run (sym is)
text_or_sign_at k false false is = ap found_run (sym is)

text_or_sign : (z : Bytes) (k : TokenKind) → is_name z ≡ false → is_among z reserved ≡ false → is_at_name z ≡ false → is_integer z ≡ false → kind_of z ≡ Some k → takes_run k ≡ false
unfolding kind_of
text_or_sign z k a b c d is = text_or_sign_at k (is_text z) (is_sign z) (rw (a, b, c, d) at is)

run_at_34 : (z : Bytes) (k : TokenKind) → kind_of (34 ∷ z) ≡ Some k → takes_run k ≡ false
run_at_34 z k is = text_or_sign (34 ∷ z) k (no_name_34 z) refl (no_at_name_34 z) (no_integer_34 z) is

run_at_sign : (b : ℕ) (z : Bytes) (k : TokenKind) → begins_run b ≡ false → kind_of (b ∷ z) ≡ Some k → takes_run k ≡ false
run_at_sign b z k other is =
    let word : is_word_byte b ≡ false = (or_parts (is_word_byte b) (b == 64) (or_parts (is_word_byte b || b == 64) (b == 45) other).0).0 in
    text_or_sign (b ∷ z) k (sign_no_name b z word) (sign_no_word b z other) (sign_no_at_name b z other) (sign_no_integer b z other word) is

-- what a token takes behind its first byte, by what that byte is
abbrev extent_of : Bool → Bool → ℕ → Bytes → ℕ
extent_of u v b z = if u then 1 + prefix_len is_word_byte z else (if v then 1 + quoted_len false z else (if b == 61 && slice_index z 0 == 61 then 2 else 1))

whole_at : (b : ℕ) (z w : Bytes) (k : TokenKind) (u : Bool) → begins_run b ≡ u → takes_run k ≡ true → kind_of (b ∷ w) ≡ Some k → is_word_byte (slice_index (b ∷ z) (extent_of u (b == 34) b z)) ≡ false
whole_at b z w k true e run is = (let next : 1 + prefix_len is_word_byte z ≡ suc (prefix_len is_word_byte z) = omega arith in rw next (run_stops z))
whole_at b z w k false e run is = absurd (both_ways (takes_run k) (run_at_sign b w k e is) run)

front_some : (b : ℕ) (z : Bytes) (n : ℕ) → 0 < n → take n (b ∷ z) ≡ b ∷ take (n - 1) z
front_some b z zero some = absurd (omega arith)
front_some b z (suc n) some = (let same : suc n - 1 ≡ n = omega arith in rw same refl)

whole_run : (z : Bytes) (k : TokenKind) → 0 < length z → takes_run k ≡ true → kind_of (take (extent z) z) ≡ Some k → is_word_byte (slice_index z (extent z)) ≡ false
unfolding extent
whole_run [] k some run is = absurd (omega arith)
whole_run (b ∷ z) k some run is =
    whole_at b z (take (extent (b ∷ z) - 1) z) k (begins_run b) refl run (rw (front_some b z (extent (b ∷ z)) (extent_some (b ∷ z) some)) at is)

-- ---- one token or space after another

-- what the tokens from a place on are: they lie in order, or there is a place at which none begins
abbrev Outcome : Bytes → ℕ → Result (List Token) ℕ → Type 0
Outcome line at (Ok ts) = LieInOrder line at ts
Outcome line at (Err p) = NoTokenAt line p

abbrev is_space : Bytes → ℕ → Bool
is_space line at = get_or line at 0 == 32

space_before : (line : Bytes) (at : ℕ) (r : Result (List Token) ℕ) → at < length line → is_space line at ≡ true → Outcome line (at + 1) r → Outcome line at r
space_before line at (Err p) within space rest = rest
space_before line at (Ok []) within space rest = rw (drop_more line at 0 within, space) rest
space_before line at (Ok (t ∷ ts)) within space rest =
    let le : at + 1 ≤ t.from = rest.0 in
    let size : t.from - at ≡ suc (t.from - (at + 1)) = omega arith in
    (omega (arith, le), rw (size, drop_more line at 0 within, space) rest.1, rest.2, rest.3)

none_at_all : (z : Bytes) → are_spaces (take 0 z) ≡ true
none_at_all z = refl

token_before : (line : Bytes) (t : Token) (r : Result (List Token) ℕ) → IsTokenOf line t → Outcome line t.to r → Outcome line t.from (before t r)
token_before line t (Err p) is rest = rest
token_before line t (Ok ts) is rest =
    let same : t.from - t.from ≡ 0 = omega arith in
    (omega arith, rw same refl, is, rest)

is_token : (line : Bytes) (at len : ℕ) (k : TokenKind) → at < length line → extent (drop at line) ≡ len → kind_of (take len (drop at line)) ≡ Some k → IsTokenOf line (token_from k at len)
is_token line at len k within is found =
    let size : at + len - at ≡ len = omega arith in
    let some : 0 < length (drop at line) = omega (arith, length-drop at line) in
    let moves : 0 < len = rw is at (extent_some (drop at line) some) in
    let le : len ≤ length (drop at line) = rw is at (extent_within (drop at line)) in
    record {
      some = omega arith;
      within = omega (arith, length-drop at line);
      kind = rw size found;
      longest = λ n lt below. longest (drop at line) n (rw is (rw size at lt)) below;
      whole = λ run. (let here = whole_run (drop at line) k some run (rw is found) in rw (← get_or-drop at line len 0) (rw is at here));
    }

space_step : (line : Bytes) (at : ℕ) → at < length line → is_space line at ≡ true → tokens_from 0 at (drop at line) ≡ tokens_from 0 (at + 1) (drop (at + 1) line)
space_step line at within space = rw (drop_more line at 0 within, space) refl

token_step : (line : Bytes) (at : ℕ) (o : Option TokenKind) → at < length line → is_space line at ≡ false → kind_of (take (extent (drop at line)) (drop at line)) ≡ o → ((to : ℕ) → at < to → Outcome line to (tokens_from 0 to (drop to line))) → Outcome line at (tokens_from 0 at (drop at line))
token_step line at None within other found more =
    rw (bad_first at (extent (drop at line)) (drop at line) (omega (arith, length-drop at line)) (not_space at line within other) refl found)
    record { within = within; no_space = other; no_token = found }
token_step line at (Some k) within other found more =
    let len = extent (drop at line) in
    let moves : 0 < extent (drop at line) = extent_some (drop at line) (omega (arith, length-drop at line)) in
    let first = token_first at len (drop at line) k (omega (arith, length-drop at line)) (not_space at line within other) refl moves found in
    subst (Outcome line at) first
    (token_before line (token_from k at len) (tokens_from 0 (at + len) (drop len (drop at line))) (is_token line at len k within refl found)
    (rw (drop-drop len at line) (more (at + len) (omega arith))))

outcome_at : (line : Bytes) (at : ℕ) (v : Bool) → at < length line → is_space line at ≡ v → ((to : ℕ) → at < to → Outcome line to (tokens_from 0 to (drop to line))) → Outcome line at (tokens_from 0 at (drop at line))
outcome_at line at true within space more =
    space_before line at (tokens_from 0 at (drop at line)) within space (rw (space_step line at within space) (more (at + 1) (omega arith)))
outcome_at line at false within other more =
    token_step line at (kind_of (take (extent (drop at line)) (drop at line))) within other refl more

past_end : (line : Bytes) (at : ℕ) → length line ≤ at → Outcome line at (tokens_from 0 at (drop at line))
past_end line at past =
    let nothing : drop at line ≡ [] = at_drop_all (λ (rest : Bytes). rest) line at past in
    rw (nothing, nothing) refl

outcome : (n : ℕ) (line : Bytes) (at : ℕ) → length line ≤ at + n → Outcome line at (tokens_from 0 at (drop at line))
outcome zero line at short = past_end line at (omega (arith, short))
outcome (suc n) line at short =
    elim (cases_lt at (length line)) [
      | inl within ↦ outcome_at line at (is_space line at) within refl (λ to lt. outcome n line to (omega (arith, short, lt)))
      | inr past ↦ past_end line at past
    ]

of_line : (line : Bytes) → Outcome line 0 (tokens_of line)
unfolding tokens_of
of_line line = outcome (length line) line 0 (omega arith)

pub in_order : TokensLieInOrder
in_order line ts found = subst (Outcome line 0) found (of_line line)

pub bad_byte : NoTokenBegins
bad_byte line at found = subst (Outcome line 0) found (of_line line)
