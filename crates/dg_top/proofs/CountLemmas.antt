-- Lists of cells in which each stands once: where two have the same members, they are equally long.
use Rattle.std.proofs.Common.{◌≡◌, inl, inr, ℕ, ◌≤◌, ◌==◌, Bool, true, false, List, [], ◌∷◌, ◌++◌, length, map, filter, filter_map, Contains, Some, None, refl, sym, ap, subst, ◌∙◌, arith}
use Rattle.std.specs.Prelude.{not}
use Rattle.std.specs.Cmp.{IsEquivalence}
use Rattle.std.proofs.lemmas.Bool.{eqb-true, eq-eqb, false≢true}
use Rattle.std.proofs.lemmas.List.{length-map}
use Rattle.std.proofs.lemmas.List.Elements.{Contains-append_cases}
use Rattle.std.proofs.lemmas.Map.Made.{length-le_from_is_member, is_member-Decides}
use Rattle.dg_decl.proofs.NodeEquality.{first_so, second_so, both_so}
use Rattle.dg_decl.proofs.NodeWalks.{Decides, in_rest}
use Rattle.dg_decl.proofs.MemberLemmas.{none_in, in_front, first_or_rest, in_map, out_map, in_filter, out_filter, in_filter_map, out_filter_map}
use Rattle.dg_decl.proofs.OnceLemmas.{Once, once_filter, distinct_from_once}
use Rattle.dg_value.specs.declared.value.Kept.{Kept}
use Rattle.dg_value.specs.Contents.{CellKept}
use Rattle.dg_eval.specs.Runs.{Asked, cell, lazy}
use Rattle.dg_eval.specs.Asks.{CellName, as_cell, same_cell, each_once}
use Rattle.dg_tree.specs.Stores.{LazyKept, Stored, as_cell as of_cell, as_lazy as of_lazy, contents, names, IsEachOnce}

-- ---- cells by their names

abbrev pub named : ℕ → ℕ → CellName
named i k = record { inst = i; slot = k }

named_same : (i k j l : ℕ) → i ≡ j → k ≡ l → named i k ≡ named j l
named_same i k j l e f = ap (λ (n : ℕ). named n k) e ∙ ap (named j) f

pub cells_tell : Decides same_cell
cells_tell a b = (
  λ e. named_same a.inst a.slot b.inst b.slot
      (eqb-true a.inst b.inst (first_so (a.inst == b.inst) (a.slot == b.slot) e))
      (eqb-true a.slot b.slot (second_so (a.inst == b.inst) (a.slot == b.slot) e)),
  λ e. both_so (a.inst == b.inst) (a.slot == b.slot)
      (eq-eqb a.inst b.inst (ap (λ (c : CellName). c.inst) e))
      (eq-eqb a.slot b.slot (ap (λ (c : CellName). c.slot) e)),
)

-- ---- lists in which each element stands once

module _ {A : Type 0} (same : A → A → Bool) (tells : Decides same) where
  equal_tests : (x y : Bool) → (x ≡ true → y ≡ true) → (y ≡ true → x ≡ true) → x ≡ y
  equal_tests true true f g = refl
  equal_tests true false f g = sym (f refl)
  equal_tests false true f g = g refl
  equal_tests false false f g = refl

  is_equivalence : IsEquivalence same
  is_equivalence = record {
    refl = λ x. (tells x x).1 refl;
    symm = λ x y. equal_tests (same x y) (same y x) (λ e. (tells y x).1 (sym ((tells x y).0 e))) (λ
        e. (tells x y).1 (sym ((tells y x).0 e)));
    congr = λ x y z e. ap (λ (w : A). same w z) ((tells x y).0 e);
  }

  pub fewer : (xs ys : List A) → Once xs → ((x : A) → Contains xs x → Contains ys x)
      → length xs ≤ length ys
  fewer xs ys once all =
      length-le_from_is_member is_equivalence xs ys (distinct_from_once same tells xs once)
      (λ q e. (is_member-Decides tells ys q).1 (all q ((is_member-Decides tells xs q).0 e)))

-- ---- each of some cells once

not_same : (c : CellName) → not (same_cell c c) ≡ true → ⊥
not_same c e = false≢true (sym (ap not ((cells_tell c c).1 refl)) ∙ e)

pub once_each : (cs : List CellName) → Once (each_once cs)
once_each [] = tt
once_each (c ∷ cs) = (
  λ h. not_same c (out_filter (λ d. not (same_cell c d)) (each_once cs) c h).1,
  once_filter (λ d. not (same_cell c d)) (each_once cs) (once_each cs),
)

pub in_each_once : (cs : List CellName) (x : CellName) → Contains cs x → Contains (each_once cs) x
in_each_once [] x h = absurd (none_in x h)
in_each_once (c ∷ cs) x h =
    elim (first_or_rest x c cs h) [
      | inl e ↦ subst (Contains (each_once (c ∷ cs))) e (in_front c (filter (λ d. not (same_cell c
          d)) (each_once cs)))
      | inr r ↦ of_test (same_cell c x) refl (in_each_once cs x r)
    ]
  where
    of_test : (b : Bool) → same_cell c x ≡ b → Contains (each_once cs) x
        → Contains (each_once (c ∷ cs)) x
    of_test true e r = subst (Contains (each_once (c ∷ cs))) ((cells_tell c x).0 e) (in_front c
        (filter (λ d. not (same_cell c d)) (each_once cs)))
    of_test false e r = in_rest x c (filter (λ d. not (same_cell c d)) (each_once cs)) (in_filter (λ
        d. not (same_cell c d)) (each_once cs) x r (ap not e))

pub out_each_once : (cs : List CellName) (x : CellName) → Contains (each_once cs) x → Contains cs x
out_each_once [] x h = absurd (none_in x h)
out_each_once (c ∷ cs) x h =
    elim (first_or_rest x c (filter (λ d. not (same_cell c d)) (each_once cs)) h) [
      | inl e ↦ subst (Contains (c ∷ cs)) e (in_front c cs)
      | inr r ↦ in_rest x c cs (out_each_once cs x (out_filter (λ d. not (same_cell c d)) (each_once
          cs) x r).0)
    ]

-- ---- what a tree stores

abbrev pub name_of : CellKept → CellName
name_of c = named c.0 c.1

abbrev first_part : Asked × Kept → Asked
first_part p = p.0

cells_of_stored : (cs : List CellKept) (rest : List (Asked × Kept)) (c : CellName)
    → Contains (map name_of cs) c
    → Contains (map first_part (map of_cell cs ++ rest)) (cell c.inst c.slot)
cells_of_stored [] rest c h = absurd (none_in c h)
cells_of_stored (d ∷ cs) rest c h =
    elim (first_or_rest c (name_of d) (map name_of cs) h) [
      | inl e ↦ subst (λ (n : CellName). Contains (map first_part (map of_cell (d ∷ cs) ++ rest))
          (cell n.inst n.slot)) e (in_front (cell d.0 d.1) (map first_part (map of_cell cs ++
          rest)))
      | inr r ↦ in_rest (cell c.inst c.slot) (cell d.0 d.1) (map first_part (map of_cell cs ++
          rest)) (cells_of_stored cs rest c r)
    ]

once_stored : (cs : List CellKept) (rest : List (Asked × Kept))
    → IsEachOnce (map first_part (map of_cell cs ++ rest)) → Once (map name_of cs)
once_stored [] rest once = tt
once_stored (c ∷ cs) rest once = (
  λ h. once.0 (cells_of_stored cs rest (name_of c) h),
  once_stored
      cs rest once.1,
)

pub once_in_tree : (t : Stored) → IsEachOnce (names t) → Once (map name_of t.cells)
once_in_tree t once = once_stored t.cells (map of_lazy t.lazies) once

pub in_names : (t : Stored) (c : CellName) → Contains (map name_of t.cells) c
    → Contains (names t) (cell c.inst c.slot)
in_names t c h = cells_of_stored t.cells (map of_lazy t.lazies) c h

lazy_isnt_cell : (l : LazyKept) (i k : ℕ) → lazy l.0 l.1 l.2 ≡ cell i k → ⊥
lazy_isnt_cell l i k e = absurd cc

cell_is : (c : CellKept) (i k : ℕ) → cell c.0 c.1 ≡ cell i k → name_of c ≡ named i k
cell_is c i k e = named_same c.0 c.1 i k (let same : cell c.0 c.1 ≡ cell i k = e in cc) (let same :
    cell c.0 c.1 ≡ cell i k = e in cc)

pub out_names : (t : Stored) (i k : ℕ) → Contains (names t) (cell i k)
    → (c : CellKept) × Contains t.cells c × (name_of c ≡ named i k)
out_names t i k h = of_part (out_map first_part (contents t) (cell i k) h)
  where
    of_part : (p : Asked × Kept) × Contains (contents t) p × (first_part p ≡ cell i k)
        → (c : CellKept) × Contains t.cells c × (name_of c ≡ named i k)
    of_part p = elim (Contains-append_cases (map of_cell t.cells) (map of_lazy t.lazies) p.0 p.1) [
      | inl l ↦ (let o = out_map of_cell t.cells p.0 l in
          (o.0, o.1, cell_is o.0 i k (ap first_part o.2 ∙ p.2)))
      | inr r ↦ (let o = out_map of_lazy t.lazies p.0 r in
          absurd (lazy_isnt_cell o.0 i k (ap first_part o.2 ∙ p.2)))
    ]

-- ---- the count

-- as many cells are stored as these names have cells, where the stored names are these
pub same_count : (t : Stored) (used : List Asked) → IsEachOnce (names t)
    → ((x : Asked) → Contains (names t) x → Contains used x)
    → ((x : Asked) → Contains used x → Contains (names t) x)
    → length t.cells ≡ length (each_once (filter_map as_cell used))
same_count t used once only all =
    let xs : List CellName = map name_of t.cells in
    let ys : List CellName = each_once (filter_map as_cell used) in
    let more : length xs ≤ length ys = fewer same_cell cells_tell xs ys (once_in_tree t once) (λ c
    h. in_each_once (filter_map as_cell used) c (in_filter_map as_cell used (cell c.inst c.slot)
    c (only (cell c.inst c.slot) (in_names t c h)) refl)) in
    let less : length ys ≤ length xs = fewer same_cell cells_tell ys xs (once_each (filter_map
    as_cell used)) (λ c h. stored c (out_filter_map as_cell used c (out_each_once (filter_map
    as_cell used) c h))) in
    omega (arith, length-map t.cells name_of, more, less)
  where
    of_name : (c : CellName) (x : Asked) → as_cell x ≡ Some c → x ≡ cell c.inst c.slot
    of_name c (cell i k) e = (let same : Some (named i k) ≡ Some c = e in let is : named i k ≡ c =
        cc in ap (λ (n : CellName). cell n.inst n.slot) is)
    of_name c (lazy i k p) e = absurd (let none : None ≡ Some c = e in cc)

    stored : (c : CellName) → (x : Asked) × Contains used x × (as_cell x ≡ Some c)
        → Contains (map name_of t.cells) c
    stored c f =
        let o = out_names t c.inst c.slot (all (cell c.inst c.slot) (subst (Contains used) (of_name
        c f.0 f.2) f.1)) in
        subst (Contains (map name_of t.cells)) o.2 (in_map name_of t.cells o.0 o.1)
