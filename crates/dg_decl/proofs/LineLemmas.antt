-- The bytes of a document are its lines, each with its LF, and then the rest.
use Rattle.std.proofs.Common.{◌≡◌, ℕ, Bool, true, false, ◌==◌, List, [], ◌∷◌, ◌++◌, refl, sym, ap, ◌∙◌}
use Rattle.std.specs.Prelude.{◌≢◌}
use Rattle.std.specs.List.{list_any, list_all, flat_map}
use Rattle.std.proofs.lemmas.Bool.{eqb-true, false≢true}
use Rattle.dg_lex.specs.Bytes.{Bytes, line_end}
use Rattle.dg_decl.specs.Lines.{lines_of, rest_of, with_first, with_end, has_no_end, LinesAndRest}

-- an LF stands somewhere
abbrev ends : Bytes → Bool
ends z = list_any (λ c. c == line_end) z

no_lines_at : (b : ℕ) (z : Bytes) (v : Bool) → (b == line_end) ≡ v → (ends z ≡ false → lines_of z ≡ []) → ends (b ∷ z) ≡ false → lines_of (b ∷ z) ≡ []
no_lines_at b z true e more h = absurd (false≢true (sym (rw e at h)))
no_lines_at b z false e more h = rw (e, more (rw e at h)) refl

no_lines : (z : Bytes) → ends z ≡ false → lines_of z ≡ []
no_lines [] h = refl
no_lines (b ∷ z) h = no_lines_at b z (b == line_end) refl (no_lines z) h

with_first_some : (b : ℕ) (lines : List Bytes) → lines ≢ [] → with_first b lines ≢ []
with_first_some b [] some = λ none. some refl
with_first_some b (line ∷ lines) some = λ none. cc

some_lines_at : (b : ℕ) (z : Bytes) (v : Bool) → (b == line_end) ≡ v → (ends z ≡ true → lines_of z ≢ []) → ends (b ∷ z) ≡ true → lines_of (b ∷ z) ≢ []
some_lines_at b z true e more h = rw e (λ none. cc)
some_lines_at b z false e more h = rw e (with_first_some b (lines_of z) (more (rw e at h)))

some_lines : (z : Bytes) → ends z ≡ true → lines_of z ≢ []
some_lines [] h = absurd (false≢true h)
some_lines (b ∷ z) h = some_lines_at b z (b == line_end) refl (some_lines z) h

joined_first : (b : ℕ) (lines : List Bytes) (rest : Bytes) → lines ≢ [] → flat_map with_end (with_first b lines) ++ rest ≡ b ∷ (flat_map with_end lines ++ rest)
joined_first b [] rest some = absurd (some refl)
joined_first b (line ∷ lines) rest some = refl

joined_at : (b : ℕ) (z : Bytes) (v w : Bool) → (b == line_end) ≡ v → ends z ≡ w → flat_map with_end (lines_of z) ++ rest_of z ≡ z → flat_map with_end (lines_of (b ∷ z)) ++ rest_of (b ∷ z) ≡ b ∷ z
joined_at b z true w e f same =
    let is : b ≡ line_end = eqb-true b line_end e in
    rw e (ap (λ (t : Bytes). line_end ∷ t) same ∙ ap (λ (n : ℕ). n ∷ z) (sym is))
joined_at b z false true e f same = rw (e, f) (joined_first b (lines_of z) (rest_of z) (some_lines z f) ∙ ap (λ (t : Bytes). b ∷ t) same)
joined_at b z false false e f same = rw (e, f, no_lines z f) refl

joined : (z : Bytes) → flat_map with_end (lines_of z) ++ rest_of z ≡ z
joined [] = refl
joined (b ∷ z) = joined_at b z (b == line_end) (ends z) refl refl (joined z)

first_without : (b : ℕ) (lines : List Bytes) → (b == line_end) ≡ false → list_all has_no_end lines ≡ true → list_all has_no_end (with_first b lines) ≡ true
first_without b [] e all = refl
first_without b (line ∷ lines) e all = rw e all

lines_at : (b : ℕ) (z : Bytes) (v : Bool) → (b == line_end) ≡ v → list_all has_no_end (lines_of z) ≡ true → list_all has_no_end (lines_of (b ∷ z)) ≡ true
lines_at b z true e all = rw e all
lines_at b z false e all = rw e (first_without b (lines_of z) e all)

lines_without : (z : Bytes) → list_all has_no_end (lines_of z) ≡ true
lines_without [] = refl
lines_without (b ∷ z) = lines_at b z (b == line_end) refl (lines_without z)

none_at : (b : ℕ) (z : Bytes) (v : Bool) → (b == line_end) ≡ v → (ends z ≡ false → has_no_end z ≡ true) → ends (b ∷ z) ≡ false → has_no_end (b ∷ z) ≡ true
none_at b z true e more h = absurd (false≢true (sym (rw e at h)))
none_at b z false e more h = rw e (more (rw e at h))

none_ends : (z : Bytes) → ends z ≡ false → has_no_end z ≡ true
none_ends [] h = refl
none_ends (b ∷ z) h = none_at b z (b == line_end) refl (none_ends z) h

rest_at : (b : ℕ) (z : Bytes) (w : Bool) → ends (b ∷ z) ≡ w → has_no_end (rest_of z) ≡ true → has_no_end (rest_of (b ∷ z)) ≡ true
rest_at b z true f more = rw f more
rest_at b z false f more = rw f (none_ends (b ∷ z) f)

rest_without : (z : Bytes) → has_no_end (rest_of z) ≡ true
rest_without [] = refl
rest_without (b ∷ z) = rest_at b z (ends (b ∷ z)) refl (rest_without z)

pub split_lines : LinesAndRest
split_lines bytes = record { joined = joined bytes; lines = lines_without bytes; rest = rest_without bytes }
