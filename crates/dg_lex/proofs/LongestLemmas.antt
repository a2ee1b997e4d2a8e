-- No front longer than what the token in front takes is a token.
use Rattle.std.proofs.Common.{ℕ, zero, suc, ◌≡◌, ◌+◌, ◌≤◌, ◌<◌, Bool, true, false, ◌&&◌, ◌==◌, [], ◌∷◌, length, take, drop, slice_index, None, length-take-le, refl, sym, ap, ◌∙◌, arith}
use Rattle.std.specs.Prelude.{if◌then◌else◌, ◌||◌, codes, nat_lt, not}
use Rattle.std.specs.Char.{is_ascii_digit, is_ascii_alphabetic}
use Rattle.std.specs.Int.{is_in_range}
use Rattle.std.specs.List.{list_all, prefix_len}
use Rattle.std.specs.Str.{bytes_eq}
use Rattle.std.proofs.lemmas.Slice.Eq.{bytes_eq-Decides}
use Rattle.std.proofs.lemmas.Bool.{and_right, both_ways, eqb-true, false≢true, or_parts}
use Rattle.dg_lex.specs.Bytes.{Bytes, is_word_byte, is_among, is_plain}
use Rattle.dg_lex.specs.Tokens.{is_name, is_at_name, is_counting, is_integer, is_rest_of_text, is_text, is_sign, kind_of, reserved, quoted_len, extent}
use Rattle.dg_lex.specs.LexLaws.{NoLongerToken}

-- what can't be true is false
pub refuted : (v : Bool) → (v ≡ true → ⊥) → v ≡ false
refuted true isnt = absurd (isnt refl)
refuted false isnt = refl

none_of_kinds : (z : Bytes) → is_name z ≡ false → is_among z reserved ≡ false → is_at_name z ≡ false → is_integer z ≡ false → is_text z ≡ false → is_sign z ≡ false → kind_of z ≡ None
unfolding kind_of
none_of_kinds z a b c d e f = rw (a, b, c, d, e, f) refl

-- ---- a front with a byte that no word has

run_ends_at : (p : ℕ → Bool) (b : ℕ) (z : Bytes) (m : ℕ) (v : Bool) → p b ≡ v → (prefix_len p z < m → list_all p (take m z) ≡ false) → prefix_len p (b ∷ z) < suc m → list_all p (take (suc m) (b ∷ z)) ≡ false
run_ends_at p b z m true e more lt = rw e (more (let h = rw e at lt in omega (arith, h)))
run_ends_at p b z m false e more lt = rw e refl

run_ends : (p : ℕ → Bool) (z : Bytes) (m : ℕ) → prefix_len p z < m → m ≤ length z → list_all p (take m z) ≡ false
run_ends p z zero lt le = absurd (omega arith)
run_ends p [] (suc m) lt le = absurd (omega arith)
run_ends p (b ∷ z) (suc m) lt le = run_ends_at p b z m (p b) refl (λ h. run_ends p z m h (omega arith)) lt

-- a text of word bytes alone isn't one with another byte
not_among_words : (z r : Bytes) → list_all is_word_byte z ≡ false → list_all is_word_byte r ≡ true → bytes_eq z r ≡ false
not_among_words z r other all =
    refuted (bytes_eq z r) (λ same. false≢true (sym other ∙ ap (list_all is_word_byte) ((bytes_eq-Decides z r).0 same) ∙ all))

no_word : (z : Bytes) → list_all is_word_byte z ≡ false → is_among z reserved ≡ false
no_word z other =
    rw (not_among_words z (codes "new") other refl, not_among_words z (codes "if") other refl, not_among_words z (codes "then") other refl, not_among_words z (codes "else") other refl, not_among_words z (codes "await") other refl) refl

no_name : (z : Bytes) → list_all is_word_byte z ≡ false → is_name z ≡ false
unfolding is_name
no_name z other =
    rw (other, and_right (is_ascii_alphabetic (slice_index z 0)) false refl) refl

digit_is_word : (b : ℕ) → is_ascii_digit b ≡ true → is_word_byte b ≡ true
digit_is_word b digit = rw digit refl

digits_at : (b : ℕ) (z : Bytes) (v : Bool) → is_ascii_digit b ≡ v → (list_all is_word_byte z ≡ false → list_all is_ascii_digit z ≡ false) → list_all is_word_byte (b ∷ z) ≡ false → list_all is_ascii_digit (b ∷ z) ≡ false
digits_at b z true e more other = rw e (more (rw (digit_is_word b e) at other))
digits_at b z false e more other = rw e refl

no_digits : (z : Bytes) → list_all is_word_byte z ≡ false → list_all is_ascii_digit z ≡ false
no_digits [] other = absurd (false≢true (sym other))
no_digits (b ∷ z) other = digits_at b z (is_ascii_digit b) refl (no_digits z) other

no_counting : (z : Bytes) → list_all is_word_byte z ≡ false → is_counting z ≡ false
unfolding is_counting
no_counting z other = rw (no_digits z other) (and_right (not (slice_index z 0 == 48) && nat_lt 0 (length z)) false refl)

no_integer : (z : Bytes) → list_all is_word_byte z ≡ false → list_all is_word_byte (drop 1 z) ≡ false → is_integer z ≡ false
unfolding is_integer
no_integer z other rest =
    rw (not_among_words z (codes "0") other refl, no_counting z other, no_counting (drop 1 z) rest, and_right (slice_index z 0 == 45) false refl) refl

-- the first byte of a token that ends with the run of letters, digits and `_`
abbrev pub begins_run : ℕ → Bool
begins_run b = is_word_byte b || b == 64 || b == 45

not_byte : (b c : ℕ) → begins_run b ≡ true → begins_run c ≡ false → (b == c) ≡ false
not_byte b c begins isnt = refuted (b == c) (λ same. false≢true (sym isnt ∙ sym (ap begins_run (eqb-true b c same)) ∙ begins))

long_text : (b c : ℕ) (z : Bytes) → (length (b ∷ c ∷ z) == 1) ≡ false
long_text b c z = refuted (length (b ∷ c ∷ z) == 1) (λ same. (let e = eqb-true (length (b ∷ c ∷ z)) 1 same in omega (arith, e)))

sign_first : (b c : ℕ) (z : Bytes) → (b == 61) ≡ false → is_sign (b ∷ c ∷ z) ≡ false
unfolding is_sign
sign_first b c z isnt = rw (isnt, long_text b c z) refl

sign_past : (b : ℕ) (z : Bytes) → begins_run b ≡ true → list_all is_word_byte z ≡ false → is_sign (b ∷ z) ≡ false
sign_past b [] begins other = absurd (false≢true (sym other))
sign_past b (c ∷ z) begins other = sign_first b c z (not_byte b 61 begins refl)

text_past : (b : ℕ) (z : Bytes) → (b == 34) ≡ false → is_text (b ∷ z) ≡ false
unfolding is_text
text_past b z isnt = rw isnt refl

at_name_past : (b : ℕ) (z : Bytes) → list_all is_word_byte z ≡ false → is_at_name (b ∷ z) ≡ false
unfolding is_at_name
at_name_past b z other = rw (no_name z other) (and_right (b == 64) false refl)

past_run : (b : ℕ) (z : Bytes) → begins_run b ≡ true → list_all is_word_byte z ≡ false → kind_of (b ∷ z) ≡ None
past_run b z begins other =
    let whole : list_all is_word_byte (b ∷ z) ≡ false = rw other (and_right (is_word_byte b) false refl) in
    none_of_kinds (b ∷ z) (no_name (b ∷ z) whole) (no_word (b ∷ z) whole) (at_name_past b z other) (no_integer (b ∷ z) whole other) (text_past b z (not_byte b 34 begins refl)) (sign_past b z begins other)

-- ---- a front with bytes behind the closing quote

nonempty : (m : ℕ) (z : Bytes) → 0 < m → m ≤ length z → (length (take m z) == 0) ≡ false
nonempty m z some le =
    refuted (length (take m z) == 0) (λ same. (let e = eqb-true (length (take m z)) 0 same in let f = length-take-le m z le in omega (arith, e, f)))

closed_at : (b m : ℕ) (z : Bytes) (v : Bool) → (b == 34) ≡ v → m ≤ length z → (quoted_len (b == 92) z < m → is_rest_of_text (b == 92) (take m z) ≡ false) → quoted_len false (b ∷ z) < suc m → is_rest_of_text false (b ∷ take m z) ≡ false
closed_at b m z true e le more lt = rw e (nonempty m z (let h = rw e at lt in omega (arith, h)) le)
closed_at b m z false e le more lt =
    rw e (and_right (is_plain b) (is_rest_of_text (b == 92) (take m z)) (more (let h = rw e at lt in omega (arith, h))))

closed : (escaped : Bool) (z : Bytes) (m : ℕ) → quoted_len escaped z < m → m ≤ length z → is_rest_of_text escaped (take m z) ≡ false
closed escaped [] m lt le = absurd (omega arith)
closed escaped (b ∷ z) zero lt le = absurd (omega arith)
closed true (b ∷ z) (suc m) lt le = and_right (b == 34 || b == 92) (is_rest_of_text false (take m z)) (closed false z m (omega (arith, lt)) (omega arith))
closed false (b ∷ z) (suc m) lt le = closed_at b m z (b == 34) refl (omega arith) (λ h. closed (b == 92) z m h (omega arith)) lt

pub no_name_34 : (z : Bytes) → is_name (34 ∷ z) ≡ false
unfolding is_name
no_name_34 z = refl

pub no_at_name_34 : (z : Bytes) → is_at_name (34 ∷ z) ≡ false
unfolding is_at_name
no_at_name_34 z = refl

pub no_integer_34 : (z : Bytes) → is_integer (34 ∷ z) ≡ false
unfolding is_integer is_counting
no_integer_34 z = rw (and_right (nat_lt 0 (length (34 ∷ z))) false refl) refl

no_text_34 : (z : Bytes) → is_rest_of_text false z ≡ false → is_text (34 ∷ z) ≡ false
unfolding is_text
no_text_34 z isnt = isnt

no_sign_34 : (z : Bytes) → is_sign (34 ∷ z) ≡ false
unfolding is_sign
no_sign_34 z = and_right (length (34 ∷ z) == 1) false refl

past_quote : (z : Bytes) → is_rest_of_text false z ≡ false → kind_of (34 ∷ z) ≡ None
past_quote z isnt = none_of_kinds (34 ∷ z) (no_name_34 z) refl (no_at_name_34 z) (no_integer_34 z) (no_text_34 z isnt) (no_sign_34 z)

-- ---- a front longer than a sign

letters : (p q r s : Bool) → (q || r) ≡ true → (p || q || r || s) ≡ true
letters true q r s letter = refl
letters false true r s letter = refl
letters false false true s letter = refl
letters false false false s letter = absurd (false≢true letter)

letter_is_word : (b : ℕ) → is_word_byte b ≡ false → is_ascii_alphabetic b ≡ false
letter_is_word b isnt = refuted (is_ascii_alphabetic b) (λ letter. both_ways (is_word_byte b) isnt (letters (is_in_range 48 57 b) (is_in_range 65 90 b) (is_in_range 97 122 b) (b == 95) letter))

digit_no : (b : ℕ) → is_word_byte b ≡ false → is_ascii_digit b ≡ false
digit_no b isnt = refuted (is_ascii_digit b) (λ digit. both_ways (is_word_byte b) isnt (digit_is_word b digit))

-- not the first byte of a word or of an integer
first_no : (b c : ℕ) → begins_run b ≡ false → begins_run c ≡ true → (b == c) ≡ false
first_no b c isnt begins = refuted (b == c) (λ same. false≢true (sym isnt ∙ ap begins_run (eqb-true b c same) ∙ begins))

pub sign_no_name : (b : ℕ) (z : Bytes) → is_word_byte b ≡ false → is_name (b ∷ z) ≡ false
unfolding is_name
sign_no_name b z isnt = rw (letter_is_word b isnt) refl

pub sign_no_word : (b : ℕ) (z : Bytes) → begins_run b ≡ false → is_among (b ∷ z) reserved ≡ false
sign_no_word b z isnt = rw (first_no b 110 isnt refl, first_no b 105 isnt refl, first_no b 116 isnt refl, first_no b 101 isnt refl, first_no b 97 isnt refl) refl

pub sign_no_at_name : (b : ℕ) (z : Bytes) → begins_run b ≡ false → is_at_name (b ∷ z) ≡ false
unfolding is_at_name
sign_no_at_name b z isnt = rw (first_no b 64 isnt refl) refl

pub sign_no_integer : (b : ℕ) (z : Bytes) → begins_run b ≡ false → is_word_byte b ≡ false → is_integer (b ∷ z) ≡ false
unfolding is_integer is_counting
sign_no_integer b z isnt word =
    rw (first_no b 48 isnt refl, digit_no b word, and_right (nat_lt 0 (length (b ∷ z))) false refl, first_no b 45 isnt refl) refl

past_sign : (b : ℕ) (z : Bytes) → begins_run b ≡ false → (b == 34) ≡ false → is_sign (b ∷ z) ≡ false → kind_of (b ∷ z) ≡ None
past_sign b z isnt quote sign =
    let word : is_word_byte b ≡ false = (or_parts (is_word_byte b) (b == 64) (or_parts (is_word_byte b || b == 64) (b == 45) isnt).0).0 in
    none_of_kinds (b ∷ z) (sign_no_name b z word) (sign_no_word b z isnt) (sign_no_at_name b z isnt) (sign_no_integer b z isnt word) (text_past b z quote) sign

and_three : (p q r : Bool) → (p && q) ≡ false → (p && (q && r)) ≡ false
and_three true true r isnt = absurd (false≢true (sym isnt))
and_three true false r isnt = refl
and_three false q r isnt = refl

two_no_sign : (b c : ℕ) (z : Bytes) → (b == 61 && c == 61) ≡ false → is_sign (b ∷ c ∷ z) ≡ false
unfolding is_sign
two_no_sign b c z isnt = rw (and_three (b == 61) (c == 61) (bytes_eq z []) isnt, long_text b c z) refl

three_no_sign : (b c d : ℕ) (z : Bytes) → is_sign (b ∷ c ∷ d ∷ z) ≡ false
unfolding is_sign
three_no_sign b c d z = rw (and_right (c == 61) false refl, and_right (b == 61) false refl, long_text b c (d ∷ z)) refl

-- ---- any front

longest_sign : (b : ℕ) (z : Bytes) (m : ℕ) (v : Bool) → (b == 61 && slice_index z 0 == 61) ≡ v → (if v then 2 else 1) < suc m → m ≤ length z → is_sign (b ∷ take m z) ≡ false
longest_sign b z zero true e lt le = absurd (omega (arith, lt))
longest_sign b z zero false e lt le = absurd (omega (arith, lt))
longest_sign b [] (suc m) v e lt le = absurd (omega arith)
longest_sign b (c ∷ z) (suc m) false e lt le = two_no_sign b c (take m z) e
longest_sign b (c ∷ z) (suc zero) true e lt le = absurd (omega (arith, lt))
longest_sign b (c ∷ []) (suc (suc m)) true e lt le = absurd (omega arith)
longest_sign b (c ∷ d ∷ z) (suc (suc m)) true e lt le = three_no_sign b c d (take m z)

longest_other : (b : ℕ) (z : Bytes) (m : ℕ) (v : Bool) → (b == 34) ≡ v → begins_run b ≡ false → (if v then 1 + quoted_len false z else (if b == 61 && slice_index z 0 == 61 then 2 else 1)) < suc m → m ≤ length z → kind_of (b ∷ take m z) ≡ None
longest_other b z m true e isnt lt le =
    rw (eqb-true b 34 e) (past_quote (take m z) (closed false z m (omega (arith, lt)) le))
longest_other b z m false e isnt lt le =
    past_sign b (take m z) isnt e (longest_sign b z m (b == 61 && slice_index z 0 == 61) refl lt le)

longest_at : (b : ℕ) (z : Bytes) (m : ℕ) (v : Bool) → begins_run b ≡ v → (if v then 1 + prefix_len is_word_byte z else (if b == 34 then 1 + quoted_len false z else (if b == 61 && slice_index z 0 == 61 then 2 else 1))) < suc m → m ≤ length z → kind_of (b ∷ take m z) ≡ None
longest_at b z m true e lt le = past_run b (take m z) e (run_ends is_word_byte z m (omega (arith, lt)) le)
longest_at b z m false e lt le = longest_other b z m (b == 34) refl e lt le

pub longest : NoLongerToken
unfolding extent
longest z zero lt le = absurd (omega arith)
longest [] (suc m) lt le = absurd (omega arith)
longest (b ∷ z) (suc m) lt le = longest_at b z m (begins_run b) refl lt (omega arith)
