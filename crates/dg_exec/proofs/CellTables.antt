-- The cells of producers by the lists of a plan are those of the document, and so are the numbers
-- of their jobs.
use Rattle.std.proofs.Common.{◌≡◌, ◌⊎◌, inl, inr, ℕ, zero, suc, ◌+◌, ◌==◌, Bool, true, false, cond, ◌&&◌, List, [], ◌∷◌, ◌++◌, length, map, filter_map, flat_map, slice_get, position, Contains, Option, Some, None, option_map, refl, sym, ap, subst, ◌∙◌, arith}
use Rattle.std.specs.List.{cons_option, enumerate_from}
use Rattle.std.proofs.lemmas.List.{map-append, length-map, length-append}
use Rattle.std.proofs.lemmas.Option.{none-some, same_Some, slice_get-map}
use Rattle.dg_decl.specs.declared.document.Doc.{Doc}
use Rattle.dg_decl.specs.declared.graph.Node.{Node}
use Rattle.dg_decl.specs.Graph.{nodes}
use Rattle.dg_decl.specs.Sizes.{is_producer}
use Rattle.dg_decl.proofs.MemberLemmas.{in_map}
use Rattle.dg_slots.specs.declared.plan.Plan.{Plan}
use Rattle.dg_slots.specs.declared.plan.Slot.{Slot}
use Rattle.dg_slots.specs.declared.session.Inst.{Inst}
use Rattle.dg_slots.specs.Plans.{cell_of, slot_of, slots_of, plan_of}
use Rattle.dg_slots.specs.Sessions.{insts_of, asks_of}
use Rattle.dg_eval.specs.declared.world.World.{World}
use Rattle.dg_eval.specs.Asks.{CellName as Cell, same_cell, each_once}
use Rattle.dg_eval.specs.Meaning.{enough}
use Rattle.dg_eval.specs.World.{world_of}
use Rattle.dg_eval.proofs.InputLists.{first_place, position_is}
use Rattle.dg_requests.specs.Contexts.{is_producing}
use Rattle.dg_requests.proofs.Passing.{producing_cell, no_producer}
use Rattle.dg_exec.specs.declared.cells.CellName.{CellName}
use Rattle.dg_exec.specs.Jobs.{is_producer_of, producer_cell, producer_cells, job_of_cell, reached, needed}
use Rattle.dg_exec.specs.Numbers.{job_in, IsTable, AreProducers}
use Rattle.dg_exec.specs.Tables.{as_cell, as_name, producer_number, producers_of, AreRows, cell_at, cells_of, all_cells, same_name, with_cells}
use Rattle.dg_exec.proofs.CellLists.{from_nothing, once_already}
use Rattle.dg_exec.proofs.FitLemmas.{named, once_producers}

-- ---- rows by class

either_end : (rows : List (List ℕ)) (row : List ℕ) (class : ℕ) (r : List ℕ)
    → slice_get (rows ++ row ∷ []) class ≡ Some r
    → (slice_get rows class ≡ Some r) ⊎ ((class ≡ length rows) × (row ≡ r))
either_end [] row zero r e = inr (refl, same_Some row r e)
either_end [] row (suc class) r e = absurd (none-some r e)
either_end (x ∷ xs) row zero r e = inl e
either_end (x ∷ xs) row (suc class) r e =
    elim (either_end xs row class r e) [
      | inl h ↦ inl h
      | inr h ↦ inr (ap (λ (n : ℕ). suc n) h.0, h.1)
    ]

pub rows_more : (slots : List Slot) (rows : List (List ℕ)) (row : List ℕ) → AreRows slots rows
    → row ≡ producers_of (length rows) slots → AreRows slots (rows ++ row ∷ [])
rows_more slots rows row are is class r e =
    elim (either_end rows row class r e) [
      | inl h ↦ are class r h
      | inr h ↦ sym h.1 ∙ (is ∙ ap (λ (n : ℕ). producers_of n slots) (sym h.0))
    ]

-- the same of what is kept of rows
pub rows_pushed : {A : Type 0} (kept : A → List ℕ) (slots : List Slot) (rows new : List A) (row : A)
    → (class : ℕ) → AreRows slots (map kept rows) → length rows ≡ class
    → kept row ≡ producers_of class slots → new ≡ rows ++ row ∷ []
    → AreRows slots (map kept new) × (length new ≡ class + 1)
rows_pushed {A} kept slots rows new row class are count is e =
    let P : List (List ℕ) → Type 0 = AreRows slots in
    let number : length (map kept rows) ≡ class = length-map rows kept ∙ count in
    let more : length (rows ++ row ∷ []) ≡ length rows + 1 = length-append rows (row ∷ []) in
    let whole : length new ≡ length (rows ++ row ∷ []) = ap (λ (l : List A). length l) e in (
      subst P (sym (ap (map kept) e ∙ map-append kept rows (row ∷ [])))
          (rows_more slots (map kept rows) (kept row) are
          (is ∙ ap (λ (n : ℕ). producers_of n slots) (sym number))),
      omega (arith, whole, more, count),
    )

-- a row that is there has the producers of its class
pub row_found : {A : Type 0} (kept : A → List ℕ) (slots : List Slot) (rows : List A) (class : ℕ)
    → (row : A) → AreRows slots (map kept rows) → Some row ≡ slice_get rows class
    → kept row ≡ producers_of class slots
row_found {A} kept slots rows class row are e =
    are class (kept row) (slice_get-map kept rows class ∙ ap (option_map kept) (sym e))

-- ---- which slots are producers

pub producing_is : (doc : Doc) (n : Node) → is_producing (cell_of doc n) ≡ is_producer doc n
producing_is doc n = by_test (is_producing (cell_of doc n)) refl
  where
    by_test : (b : Bool) → is_producing (cell_of doc n) ≡ b
        → is_producing (cell_of doc n) ≡ is_producer doc n
    by_test true e = e ∙ sym (producing_cell doc n e)
    by_test false e = e ∙ sym (no_producer doc n e)

-- ---- the cells of producers

cells_in : (doc : Doc) (i : ℕ) (x : Inst) (j : ℕ) (ns : List Node)
    → map as_cell (map (cell_at i) (filter_map (producer_number x.class)
    (enumerate_from j (map (slot_of doc) ns))))
    ≡ filter_map (producer_cell doc (i, x)) (enumerate_from j ns)
cells_in doc i x j [] = refl
cells_in doc i x j (n ∷ ns) =
    ap (λ (b : Bool). map as_cell (map (cell_at i) (cons_option
    (cond ((n.class == x.class) && b) (Some j) None)
    (filter_map (producer_number x.class) (enumerate_from (j + 1) (map (slot_of doc) ns))))))
    (producing_is doc n)
    ∙ by_test (is_producer_of doc x.class n) (cells_in doc i x (j + 1) ns)
  where
    by_test : (b : Bool)
        → map as_cell (map (cell_at i) (filter_map (producer_number x.class)
        (enumerate_from (j + 1) (map (slot_of doc) ns))))
        ≡ filter_map (producer_cell doc (i, x)) (enumerate_from (j + 1) ns)
        → map as_cell (map (cell_at i) (cons_option (cond b (Some j) None)
        (filter_map (producer_number x.class) (enumerate_from (j + 1) (map (slot_of doc) ns)))))
        ≡ cons_option (cond b (Some (named i j)) None)
        (filter_map (producer_cell doc (i, x)) (enumerate_from (j + 1) ns))
    by_test true ih = ap (λ (l : List Cell). named i j ∷ l) ih
    by_test false ih = ih

cells_from : (doc : Doc) (i : ℕ) (xs : List Inst)
    → map as_cell (flat_map (cells_of (map (slot_of doc) (nodes doc)))
    (enumerate_from i (map (λ (x : Inst). x.class) xs)))
    ≡ flat_map (λ p. filter_map (producer_cell doc p) (enumerate_from 0 (nodes doc)))
    (enumerate_from i xs)
cells_from doc i [] = refl
cells_from doc i (x ∷ xs) =
    let here = cells_in doc i x 0 (nodes doc) in
    let later = cells_from doc (i + 1) xs in
    map-append as_cell (cells_of (map (slot_of doc) (nodes doc)) (i, x.class))
    (flat_map (cells_of (map (slot_of doc) (nodes doc)))
    (enumerate_from (i + 1) (map (λ (x : Inst). x.class) xs)))
    ∙ (λ k. here k ++ later k)

pub cells_are : (doc : Doc) (plan : Plan) (world : World) → plan ≡ plan_of doc
    → world ≡ world_of doc → map as_cell (all_cells plan.slots world.class) ≡ producer_cells doc
unfolding plan_of slots_of world_of producer_cells
cells_are doc plan world p w =
    (λ k. map as_cell (all_cells (p k).slots (w k).class)) ∙ cells_from doc 0 (insts_of doc)

back : (xs : List CellName) → map as_name (map as_cell xs) ≡ xs
back [] = refl
back (x ∷ xs) = ap (λ (l : List CellName). x ∷ l) (back xs)

pub names_are : (doc : Doc) (cells : List CellName) → map as_cell cells ≡ producer_cells doc
    → cells ≡ map as_name (producer_cells doc)
names_are doc cells e = sym (back cells) ∙ ap (map as_name) e

-- the table of the cells has them in order
pub table_is : (doc : Doc) (cells keys : List CellName)
    → map as_cell cells ≡ producer_cells doc → keys ≡ with_cells [] cells
    → keys ≡ map as_name (producer_cells doc)
table_is doc cells keys e is =
    is ∙ ap (with_cells []) (names_are doc cells e) ∙ from_nothing (producer_cells doc)
    ∙ ap (map as_name) (once_already (producer_cells doc) (once_producers doc))

pub producers_are : (doc : Doc) (cells : List CellName) → map as_cell cells ≡ producer_cells doc
    → AreProducers doc cells
producers_are doc cells e c h =
    let P : List Cell → Type 0 = λ l. Contains l (as_cell c) in
    subst P e (in_map as_cell cells c h)

-- ---- the numbers of jobs

place_of : (c : Cell) (xs : List Cell)
    → first_place (same_name (as_name c)) (map as_name xs) ≡ first_place (same_cell c) xs
place_of c [] = refl
place_of c (x ∷ xs) =
    ap (λ (o : Option ℕ). cond (same_cell c x) (Some 0) (option_map (λ k. suc k) o))
    (place_of c xs)

job_is : (doc : Doc) (asks : ℕ) (keys : List CellName) → IsTable doc asks keys → (c : Cell)
    → job_in asks keys (as_name c) ≡ job_of_cell doc c
unfolding job_of_cell
job_is doc asks keys t c =
    (λ i. option_map (λ p. t.1 i + p) (position (same_name (as_name c)) (t.0 i)))
    ∙ ap (option_map (λ p. length (asks_of doc) + p))
    (position_is (same_name (as_name c)) (map as_name (producer_cells doc))
    ∙ place_of c (producer_cells doc) ∙ sym (position_is (same_cell c) (producer_cells doc)))

jobs_are : (doc : Doc) (asks : ℕ) (keys : List CellName) → IsTable doc asks keys
    → (cs : List Cell)
    → filter_map (job_in asks keys) (map as_name cs) ≡ filter_map (job_of_cell doc) cs
jobs_are doc asks keys t [] = refl
jobs_are doc asks keys t (c ∷ cs) =
    let here = job_is doc asks keys t c in
    let later = jobs_are doc asks keys t cs in λ i. cons_option (here i) (later i)

-- the jobs that a node needs are those of what is found from it
pub needed_is : (doc : Doc) (asks : ℕ) (keys found : List CellName) (jobs : List ℕ) (i : ℕ)
    → (n : Node) → IsTable doc asks keys
    → found ≡ with_cells [] (map as_name (reached doc enough i n))
    → jobs ≡ filter_map (job_in asks keys) found → jobs ≡ needed doc i n
needed_is doc asks keys found jobs i n t f j =
    j ∙ ap (filter_map (job_in asks keys)) (f ∙ from_nothing (reached doc enough i n))
    ∙ jobs_are doc asks keys t (each_once (reached doc enough i n))
