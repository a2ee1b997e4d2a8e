-- The keys of the tables: two are equal exactly where they have one name.
use Rattle.std.proofs.Common.{◌≡◌, ◌==◌, ◌&&◌, ℕ, Bool, true, sym, ap, ◌∙◌}
use Rattle.std.proofs.lemmas.Bool.{eqb-true, eq-eqb}
use Rattle.std.specs.Cmp.{first_so, second_so}
use Rattle.dg_value.proofs.PlaceLemmas.{roots_test, steps_test, places_tell_equal}
use Rattle.dg_value.specs.contracts.place.PlacePartialEq.TheImpl as of_places
use Rattle.dg_value.specs.declared.place.Place.{Place}
use Rattle.dg_value.specs.Places.{same_place}
use Rattle.dg_eval.specs.Runs.{Asked, cell, lazy}
use Rattle.dg_tree.specs.contracts.keys.CellKeyPartialEq.TheImpl as of_cells
use Rattle.dg_tree.specs.contracts.keys.LazyKeyPartialEq.TheImpl as of_lazies
use Rattle.dg_tree.specs.declared.keys.CellKey.{CellKey}
use Rattle.dg_tree.specs.declared.keys.LazyKey.{LazyKey}
use Rattle.dg_tree.specs.Tables.{cell_name, lazy_name}

abbrev pub same_cell : CellKey → CellKey → Bool
same_cell = of_cells.ghosts.eq

abbrev pub same_lazy : LazyKey → LazyKey → Bool
same_lazy = of_lazies.ghosts.eq

-- ---- names

abbrev inst_in : Asked → ℕ
inst_in (cell i k) = i
inst_in (lazy i k p) = i

abbrev slot_in : Asked → ℕ
slot_in (cell i k) = k
slot_in (lazy i k p) = k

abbrev place_in : Place → Asked → Place
place_in q (cell i k) = q
place_in q (lazy i k p) = p

both_true : (a b : Bool) → a ≡ true → b ≡ true → (a && b) ≡ true
both_true a b e f = ap (λ x. x && b) e ∙ f

-- ---- cells

pub cells_same : (a b : CellKey) → same_cell a b ≡ true → a ≡ b
cells_same a b h =
    let e = eqb-true a.inst b.inst (first_so _ _ h) in
    let f = eqb-true a.slot b.slot (second_so _ _ h) in
    λ i. record { inst = e i; slot = f i }

pub cells_told : (a b : CellKey) → cell_name a ≡ cell_name b → same_cell a b ≡ true
cells_told a b e =
    both_true (a.inst == b.inst) (a.slot == b.slot) (eq-eqb a.inst b.inst (ap inst_in e))
    (eq-eqb a.slot b.slot (ap slot_in e))

-- ---- Lazies

place_test : (p q : Place) → of_places.ghosts.eq p q ≡ same_place p q
unfolding same_place
place_test p q = λ i. roots_test p.root q.root i && steps_test p.steps q.steps i

pub lazies_same : (a b : LazyKey) → same_lazy a b ≡ true → a ≡ b
lazies_same a b h =
    let e = eqb-true a.inst b.inst (first_so _ _ h) in
    let f = eqb-true a.slot b.slot (first_so _ _ (second_so _ _ h)) in
    let test = sym (place_test a.place b.place) ∙ second_so _ _ (second_so _ _ h) in
    let g = (places_tell_equal a.place b.place).0 test in
    λ i. record { inst = e i; slot = f i; place = g i }

pub lazies_told : (a b : LazyKey) → lazy_name a ≡ lazy_name b → same_lazy a b ≡ true
lazies_told a b e =
    let at : a.place ≡ b.place = ap (place_in a.place) e in
    let test = place_test a.place b.place ∙ (places_tell_equal a.place b.place).1 at in
    both_true (a.inst == b.inst) _ (eq-eqb a.inst b.inst (ap inst_in e))
    (both_true (a.slot == b.slot) _ (eq-eqb a.slot b.slot (ap slot_in e)) test)
