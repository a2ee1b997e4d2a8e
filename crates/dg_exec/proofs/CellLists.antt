-- Lists of cells that grow by those that are new.
use Rattle.std.proofs.Common.{◌≡◌, ◌⊎◌, inl, inr, ℕ, ◌==◌, Bool, true, false, cond, not, ◌&&◌, ◌||◌, List, [], ◌∷◌, ◌++◌, map, filter, Contains, append_assoc, append-nil, refl, sym, ap, subst, ◌∙◌}
use Rattle.std.proofs.lemmas.Bool.{eqb-true, eq-eqb}
use Rattle.std.proofs.lemmas.List.Elements.{Contains-append_left, Contains-append_right, Contains-append_cases}
use Rattle.std.proofs.lemmas.List.Folds.{list_any-append}
use Rattle.dg_decl.proofs.MemberLemmas.{none_in, in_front, first_or_rest, the_one}
use Rattle.dg_decl.proofs.NodeEquality.{first_so, second_so, both_so}
use Rattle.dg_decl.proofs.NodeWalks.{Decides, in_rest, any_is}
use Rattle.dg_decl.proofs.OnceLemmas.{Once}
use Rattle.dg_eval.specs.Asks.{CellName as Cell, same_cell, each_once}
use Rattle.dg_exec.specs.declared.cells.CellName.{CellName}
use Rattle.dg_exec.specs.Tables.{as_cell, as_name, cell_at, same_name, has_cell, with_cell, with_cells}
use Rattle.dg_exec.proofs.FitLemmas.{cells_tell}

-- ---- one cell among others

at_same : (i k j l : ℕ) → i ≡ j → k ≡ l → cell_at i k ≡ cell_at j l
at_same i k j l e f = ap (λ (n : ℕ). cell_at n k) e ∙ ap (cell_at j) f

pub names_tell : Decides same_name
names_tell a b = (
  λ e. at_same a.inst a.slot b.inst b.slot
      (eqb-true a.inst b.inst (first_so (a.inst == b.inst) (a.slot == b.slot) e))
      (eqb-true a.slot b.slot (second_so (a.inst == b.inst) (a.slot == b.slot) e)),
  λ e. both_so (a.inst == b.inst) (a.slot == b.slot)
      (eq-eqb a.inst b.inst (ap (λ (c : CellName). c.inst) e))
      (eq-eqb a.slot b.slot (ap (λ (c : CellName). c.slot) e)),
)

or_second : (a b : Bool) → b ≡ true → (a || b) ≡ true
or_second true b e = refl
or_second false b e = e

pub has_among : (cells : List CellName) (c : CellName) → Contains cells c
    → has_cell cells c ≡ true
has_among [] c h = absurd (none_in c h)
has_among (x ∷ xs) c h =
    elim (first_or_rest c x xs h) [
      | inl e ↦ ap (λ (b : Bool). b || has_cell xs c) ((names_tell c x).1 (sym e))
      | inr r ↦ or_second (same_name c x) (has_cell xs c) (has_among xs c r)
    ]

pub among_has : (cells : List CellName) (c : CellName) → has_cell cells c ≡ true
    → Contains cells c
among_has cells c e = any_is same_name names_tell cells c e

pub with_there : (cells : List CellName) (c : CellName) → has_cell cells c ≡ true
    → with_cell cells c ≡ cells
with_there cells c e = ap (λ (b : Bool). cond b cells (cells ++ c ∷ [])) e

pub with_new : (cells : List CellName) (c : CellName) → has_cell cells c ≡ false
    → with_cell cells c ≡ cells ++ c ∷ []
with_new cells c e = ap (λ (b : Bool). cond b cells (cells ++ c ∷ [])) e

pub kept_one : (cells : List CellName) (x c : CellName) → Contains cells c
    → Contains (with_cell cells x) c
kept_one cells x c h = by_test (has_cell cells x) refl
  where
    by_test : (b : Bool) → has_cell cells x ≡ b → Contains (with_cell cells x) c
    by_test true e =
        let P : List CellName → Type 0 = λ l. Contains l c in
        subst P (sym (with_there cells x e)) h
    by_test false e =
        let P : List CellName → Type 0 = λ l. Contains l c in
        subst P (sym (with_new cells x e)) (Contains-append_left cells (x ∷ []) c h)

pub added_one : (cells : List CellName) (x : CellName) → Contains (with_cell cells x) x
added_one cells x = by_test (has_cell cells x) refl
  where
    by_test : (b : Bool) → has_cell cells x ≡ b → Contains (with_cell cells x) x
    by_test true e =
        let P : List CellName → Type 0 = λ l. Contains l x in
        subst P (sym (with_there cells x e)) (among_has cells x e)
    by_test false e =
        let P : List CellName → Type 0 = λ l. Contains l x in
        subst P (sym (with_new cells x e))
        (Contains-append_right cells (x ∷ []) x (in_front x []))

-- what is there after one more was there before, or is the one
pub out_one : (cells : List CellName) (x c : CellName) → Contains (with_cell cells x) c
    → Contains cells c ⊎ (x ≡ c)
out_one cells x c h = by_test (has_cell cells x) refl
  where
    by_test : (b : Bool) → has_cell cells x ≡ b → Contains cells c ⊎ (x ≡ c)
    by_test true e =
        let P : List CellName → Type 0 = λ l. Contains l c in
        inl (subst P (with_there cells x e) h)
    by_test false e =
        let P : List CellName → Type 0 = λ l. Contains l c in
        elim (Contains-append_cases cells (x ∷ []) c (subst P (with_new cells x e) h)) [
          | inl l ↦ inl l
          | inr r ↦ inr (the_one c x r)
        ]

-- ---- more cells

pub with_more : (old xs ys : List CellName)
    → with_cells old (xs ++ ys) ≡ with_cells (with_cells old xs) ys
with_more old [] ys = refl
with_more old (x ∷ xs) ys = with_more (with_cell old x) xs ys

pub kept_all : (old xs : List CellName) (c : CellName) → Contains old c
    → Contains (with_cells old xs) c
kept_all old [] c h = h
kept_all old (x ∷ xs) c h = kept_all (with_cell old x) xs c (kept_one old x c h)

pub added_all : (old xs : List CellName) (c : CellName) → Contains xs c
    → Contains (with_cells old xs) c
added_all old [] c h = absurd (none_in c h)
added_all old (x ∷ xs) c h =
    elim (first_or_rest c x xs h) [
      | inl e ↦ kept_all (with_cell old x) xs c
          (subst (Contains (with_cell old x)) e (added_one old x))
      | inr r ↦ added_all (with_cell old x) xs c r
    ]

pub nothing_new : (old xs : List CellName) → ((c : CellName) → Contains xs c → Contains old c)
    → with_cells old xs ≡ old
nothing_new old [] all = refl
nothing_new old (x ∷ xs) all =
    ap (λ (l : List CellName). with_cells l xs)
    (with_there old x (has_among old x (all x (in_front x xs))))
    ∙ nothing_new old xs (λ c h. all c (in_rest c x xs h))

-- ---- each once

filter_both : (p q r : Cell → Bool) → ((d : Cell) → r d ≡ (q d && p d)) → (ys : List Cell)
    → filter p (filter q ys) ≡ filter r ys
filter_both p q r h [] = refl
filter_both p q r h (y ∷ ys) = by_test (q y) (h y) (filter_both p q r h ys)
  where
    by_test : (b : Bool) → r y ≡ (b && p y) → filter p (filter q ys) ≡ filter r ys
        → filter p (cond b (y ∷ filter q ys) (filter q ys)) ≡ cond (r y) (y ∷ filter r ys)
        (filter r ys)
    by_test true e ih = λ i. cond (sym e i) (y ∷ ih i) (ih i)
    by_test false e ih = ih ∙ ap (λ (b : Bool). cond b (y ∷ filter r ys) (filter r ys)) (sym e)

pub filter_all : (p : Cell → Bool) (ys : List Cell) → ((d : Cell) → Contains ys d → p d ≡ true)
    → filter p ys ≡ ys
filter_all p [] all = refl
filter_all p (y ∷ ys) all =
    ap (λ (b : Bool). cond b (y ∷ filter p ys) (filter p ys)) (all y (in_front y ys))
    ∙ ap (λ (l : List Cell). y ∷ l) (filter_all p ys (λ d h. all d (in_rest d y ys h)))

both_ways : (a b : Bool) → (a ≡ true → b ≡ true) → (b ≡ true → a ≡ true) → a ≡ b
both_ways true b f g = sym (f refl)
both_ways false true f g = g refl
both_ways false false f g = refl

as_names : (c d : Cell) → c ≡ d → as_name c ≡ as_name d
as_names c d e = ap as_name e

names_as : (c d : Cell) → as_name c ≡ as_name d → c ≡ d
names_as c d e = ap (λ (n : CellName). as_cell n) e

turned : (x d : Cell) → same_name (as_name d) (as_name x) ≡ same_cell x d
turned x d =
    both_ways (same_name (as_name d) (as_name x)) (same_cell x d)
    (λ e. (cells_tell x d).1 (sym (names_as d x ((names_tell (as_name d) (as_name x)).0 e))))
    (λ e. (names_tell (as_name d) (as_name x)).1 (as_names d x (sym ((cells_tell x d).0 e))))

-- a cell isn't among these
abbrev pub is_new : List CellName → Cell → Bool
is_new old d = not (has_cell old (as_name d))

same_here : (old : List CellName) (x d : Cell) → has_cell old (as_name x) ≡ true
    → is_new old d ≡ (not (same_cell x d) && is_new old d)
same_here old x d there = by_test (same_cell x d) refl
  where
    by_test : (b : Bool) → same_cell x d ≡ b → is_new old d ≡ (not b && is_new old d)
    by_test true e =
        ap (λ (c : Cell). not (has_cell old (as_name c))) (sym ((cells_tell x d).0 e))
        ∙ ap not there
    by_test false e = refl

not_either : (a b : Bool) → not (a || (b || false)) ≡ (not b && not a)
not_either true true = refl
not_either true false = refl
not_either false true = refl
not_either false false = refl

one_more : (old : List CellName) (x d : Cell)
    → is_new (old ++ as_name x ∷ []) d ≡ (not (same_cell x d) && is_new old d)
one_more old x d =
    ap not (list_any-append (same_name (as_name d)) old (as_name x ∷ []))
    ∙ not_either (has_cell old (as_name d)) (same_name (as_name d) (as_name x))
    ∙ ap (λ (b : Bool). not b && is_new old d) (turned x d)

pub with_each_once : (old : List CellName) (xs : List Cell)
    → with_cells old (map as_name xs) ≡ old ++ map as_name (filter (is_new old) (each_once xs))
with_each_once old [] = sym (append-nil old)
with_each_once old (x ∷ xs) =
    by_test (has_cell old (as_name x)) refl (λ l. with_each_once l xs)
  where
    by_test : (b : Bool) → has_cell old (as_name x) ≡ b
        → ((l : List CellName) → with_cells l (map as_name xs)
        ≡ l ++ map as_name (filter (is_new l) (each_once xs)))
        → with_cells (with_cell old (as_name x)) (map as_name xs)
        ≡ old ++ map as_name (filter (is_new old) (x ∷ filter (λ d. not (same_cell x d))
        (each_once xs)))
    by_test true e ih =
        ap (λ (l : List CellName). with_cells l (map as_name xs)) (with_there old (as_name x) e)
        ∙ ih old
        ∙ ap (λ (l : List Cell). old ++ map as_name l)
        (sym (filter_both (is_new old) (λ d. not (same_cell x d)) (is_new old)
        (λ d. same_here old x d e) (each_once xs)))
        ∙ ap (λ (b : Bool). old ++ map as_name (cond b
        (x ∷ filter (is_new old) (filter (λ d. not (same_cell x d)) (each_once xs)))
        (filter (is_new old) (filter (λ d. not (same_cell x d)) (each_once xs)))))
        (sym (ap not e))
    by_test false e ih =
        ap (λ (l : List CellName). with_cells l (map as_name xs)) (with_new old (as_name x) e)
        ∙ ih (old ++ as_name x ∷ [])
        ∙ append_assoc old (as_name x ∷ [])
        (map as_name (filter (is_new (old ++ as_name x ∷ [])) (each_once xs)))
        ∙ ap (λ (l : List Cell). old ++ as_name x ∷ map as_name l)
        (sym (filter_both (is_new old) (λ d. not (same_cell x d)) (is_new (old ++ as_name x ∷ []))
        (λ d. one_more old x d) (each_once xs)))
        ∙ ap (λ (b : Bool). old ++ map as_name (cond b
        (x ∷ filter (is_new old) (filter (λ d. not (same_cell x d)) (each_once xs)))
        (filter (is_new old) (filter (λ d. not (same_cell x d)) (each_once xs)))))
        (sym (ap not e))

pub from_nothing : (xs : List Cell) → with_cells [] (map as_name xs) ≡ map as_name (each_once xs)
from_nothing xs =
    with_each_once [] xs ∙ ap (map as_name) (filter_all (is_new []) (each_once xs) (λ d h. refl))

not_it : (c d : Cell) (cs : List Cell) → (Contains cs c → ⊥) → Contains cs d
    → not (same_cell c d) ≡ true
not_it c d cs none h = by_test (same_cell c d) refl
  where
    by_test : (b : Bool) → same_cell c d ≡ b → not b ≡ true
    by_test true e = absurd (none (subst (Contains cs) (sym ((cells_tell c d).0 e)) h))
    by_test false e = refl

pub once_already : (cs : List Cell) → Once cs → each_once cs ≡ cs
once_already [] once = refl
once_already (c ∷ cs) once =
    ap (λ (l : List Cell). c ∷ filter (λ d. not (same_cell c d)) l) (once_already cs once.1)
    ∙ ap (λ (l : List Cell). c ∷ l)
    (filter_all (λ d. not (same_cell c d)) cs (λ d h. not_it c d cs once.0 h))
