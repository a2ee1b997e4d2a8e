-- The objects that appeared, as the keys of a set.
use Rattle.std.proofs.Common.{◌≡◌, ℕ, zero, suc, ◌+◌, ◌≤◌, Bool, true, false, cond, not, ◌||◌, nat_lt, List, [], ◌∷◌, ◌++◌, length, take, drop, position, Option, Some, None, is_some, if◌then◌else◌, refl, sym, ap, subst, ◌∙◌, append_assoc, length-append, arith, codes, ◌<◌, ◌-◌}
use Rattle.std.specs.List.{list_any, position_or_len}
use Rattle.std.proofs.lemmas.Bool.{lt-ltb, le-ltb, ltb-true, ltb-false}
use Rattle.indexmap.specs.IndexSet.{insert_key}
use Rattle.dg_lex.specs.Bytes.{Bytes}
use Rattle.dg_value.specs.declared.place.Place.{Place}
use Rattle.dg_eval.specs.Report.{seen_at, print_limit, cut}
use Rattle.dg_report.specs.Output.{Output, noted, with_cut}
use Rattle.dg_report.specs.Packed.{packed_eq}
use Rattle.dg_report.proofs.PackedLemmas.{packed_same}

abbrev output : Bytes → List Place → List Place → Option ℕ → Output
output t s b l = record { text = t; seen = s; before = b; limit = l }

-- ---- where an object stands

pub place_found : (seen : List Place) (p : Place) (o : Option ℕ)
    → o ≡ position (packed_eq p) seen → o ≡ seen_at p seen
place_found seen p o e = e ∙ (λ i. position (λ (q : Place). packed_same p q i) seen)

-- ---- an object more

some_cond : (b : Bool) (n : ℕ) → is_some (cond b (Some n) None) ≡ b
some_cond true n = refl
some_cond false n = refl

lt_step : (a b : ℕ) → nat_lt (1 + a) (suc b) ≡ nat_lt a b
lt_step a b = by (nat_lt a b) refl
  where
    by : (t : Bool) → nat_lt a b ≡ t → nat_lt (1 + a) (suc b) ≡ nat_lt a b
    by true e =
        let lt : a < b = ltb-true a b e in
        lt-ltb (1 + a) (suc b) (omega (arith, lt)) ∙ sym e
    by false e =
        let le : b ≤ a = ltb-false a b e in
        le-ltb (1 + a) (suc b) (omega (arith, le)) ∙ sym e

stands_before : (p : Place → Bool) (xs : List Place)
    → nat_lt (position_or_len p xs) (length xs) ≡ list_any p xs
stands_before p [] = refl
stands_before p (x ∷ xs) = by (p x) (stands_before p xs)
  where
    by : (b : Bool) → nat_lt (position_or_len p xs) (length xs) ≡ list_any p xs
        → nat_lt (cond (not b) (1 + position_or_len p xs) 0) (suc (length xs)) ≡ (b || list_any p xs)
    by true more = lt-ltb 0 (suc (length xs)) (omega arith)
    by false more = lt_step (position_or_len p xs) (length xs) ∙ more

found_any : (p : Place → Bool) (xs : List Place) → is_some (position p xs) ≡ list_any p xs
found_any p xs =
    some_cond (nat_lt (position_or_len p xs) (length xs)) (position_or_len p xs)
    ∙ stands_before p xs

not_true : (b : Bool) → not b ≡ true → b ≡ false
not_true true e = cc
not_true false e = refl

pub one_more : (seen new : List Place) (p : Place) → not (is_some (seen_at p seen)) ≡ true
    → new ≡ insert_key packed_eq seen p → new ≡ seen ++ p ∷ []
one_more seen new p fresh e =
    let none : list_any (packed_eq p) seen ≡ false =
    sym (found_any (packed_eq p) seen)
    ∙ ap is_some (place_found seen p (position (packed_eq p) seen) refl)
    ∙ not_true (is_some (seen_at p seen)) fresh in
    e ∙ ap (λ (b : Bool). if b then seen else seen ++ p ∷ []) none

-- ---- what stands in front

pub take_front : {A : Type 0} (n : ℕ) (xs ys : List A) → n ≤ length xs → take n (xs ++ ys) ≡ take n xs
take_front zero xs ys le = refl
take_front (suc n) [] ys le = absurd (omega arith)
take_front (suc n) (x ∷ xs) ys le = ap (λ (l : List _). x ∷ l) (take_front n xs ys (omega arith))

pub take_all : {A : Type 0} (xs : List A) → take (length xs) xs ≡ xs
take_all [] = refl
take_all (x ∷ xs) = ap (λ (l : List _). x ∷ l) (take_all xs)

pub noted_made : (text : Bytes) (seen new : List Place) (n : ℕ) (limit : Option ℕ) (p : Place)
    (o : Output)
    → record { text = text; seen = seen; before = take n seen; limit = limit } ≡ o
    → n ≤ length seen → new ≡ seen ++ p ∷ []
    → record { text = text; seen = new; before = take n new; limit = limit } ≡ noted o p
noted_made text seen new n limit p o is within e =
    ap (λ (xs : List Place). output text xs (take n xs) limit) e
    ∙ ap (λ (xs : List Place). output text (seen ++ p ∷ []) xs limit)
    (take_front n seen (p ∷ []) within)
    ∙ ap (λ (x : Output). noted x p) is

pub number_made : (text : Bytes) (seen new : List Place) (n r : ℕ) (limit : Option ℕ) (p : Place)
    (o : Output)
    → record { text = text; seen = seen; before = take n seen; limit = limit } ≡ o
    → r ≡ length new → new ≡ seen ++ p ∷ [] → r ≡ suc (length o.seen)
number_made text seen new n r limit p o is count e =
    let more = length-append seen (p ∷ []) in
    let one : r ≡ length (seen ++ p ∷ []) = count ∙ ap length e in
    let all : r ≡ suc (length seen) = omega (arith, one, more) in
    all ∙ ap (λ (x : Output). suc (length x.seen)) is

take_past : {A : Type 0} (n m : ℕ) (xs : List A) → n ≤ length xs
    → take (n + m) xs ≡ take n xs ++ take m (drop n xs)
take_past zero m xs le = ap (λ (k : ℕ). take k xs) (omega arith)
take_past (suc n) m [] le = absurd (omega arith)
take_past (suc n) m (x ∷ xs) le =
    let more : suc n + m ≡ suc (n + m) = omega arith in
    ap (λ (k : ℕ). take k (x ∷ xs)) more
    ∙ ap (λ (l : List _). x ∷ l) (take_past n m xs (omega arith))

both_parts : {A : Type 0} (n : ℕ) (xs : List A) → take n xs ++ drop n xs ≡ xs
both_parts zero xs = refl
both_parts (suc n) [] = refl
both_parts (suc n) (x ∷ xs) = ap (λ (l : List _). x ∷ l) (both_parts n xs)

left_over : {A : Type 0} (n : ℕ) (xs : List A) → n ≤ length xs → n + length (drop n xs) ≡ length xs
left_over zero xs le = omega arith
left_over (suc n) [] le = absurd (omega arith)
left_over (suc n) (x ∷ xs) le =
    let more = left_over n xs (omega arith) in
    omega (arith, more)

lt_true : (m n : ℕ) → m < n → nat_lt m n ≡ true
lt_true m n lt = lt-ltb m n lt

pub cut_long : (start : ℕ) (t new : Bytes) → start ≤ length t → print_limit < length t - start
    → new ≡ take (start + print_limit) t ++ codes ".." → new ≡ take start t ++ cut (drop start t)
cut_long start t new within long e =
    let more = left_over start t within in
    let over : nat_lt print_limit (length (drop start t)) ≡ true = lt_true print_limit (length (drop start t)) (omega arith) in
    e ∙ ap (λ (x : Bytes). x ++ codes "..") (take_past start print_limit t within)
    ∙ append_assoc (take start t) (take print_limit (drop start t)) (codes "..")
    ∙ ap (λ (b : Bool). take start t ++ (if b then take print_limit (drop start t) ++ codes ".." else drop start t)) (sym over)

-- what is cut behind a text
pub cut_behind : (front t : Bytes) → take (length front) (front ++ t) ++ cut (drop (length front) (front ++ t)) ≡ front ++ cut t
cut_behind front t =
    λ i. (take_front (length front) front t (omega arith) ∙ take_all front) i ++ cut (gone front i)
  where
    gone : (xs : Bytes) → drop (length xs) (xs ++ t) ≡ t
    gone [] = refl
    gone (x ∷ xs) = gone xs

pub cut_made : (text new : Bytes) (seen before : List Place) (start : ℕ) (limit : Option ℕ)
    (o : Output) → record { text = text; seen = seen; before = before; limit = limit } ≡ o
    → start ≤ length o.text → print_limit < length text - start
    → new ≡ take (start + print_limit) text ++ codes ".."
    → record { text = new; seen = seen; before = before; limit = None } ≡ with_cut start o
unfolding with_cut
cut_made text new seen before start limit o is within long e =
    let here : start ≤ length text = subst (λ (x : Output). start ≤ length x.text) (sym is) within in
    ap (λ (t : Bytes). output t seen before None) (cut_long start text new here long e)
    ∙ ap (with_cut start) is
