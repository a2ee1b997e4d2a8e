-- The jobs of a document, by its plan, its world and its session.
use Rattle.std.proofs.Common.{◌≡◌, ℕ, ◌+◌, ◌<◌, List, [], ◌∷◌, ◌++◌, length, get_or, drop, map, All, Contains, option_map, append_assoc, sym, ap, subst, refl, ◌∙◌}
use Rattle.std.proofs.lemmas.List.{map-append, drop_more, length-map}
use Rattle.std.proofs.lemmas.Option.{get_or_from_slice_get, slice_get-get_or, slice_get-map}
use Rattle.dg_decl.specs.declared.document.Doc.{Doc}
use Rattle.dg_slots.specs.declared.plan.Plan.{Plan}
use Rattle.dg_slots.specs.declared.session.Ask.{Ask}
use Rattle.dg_slots.specs.declared.session.Session.{Session}
use Rattle.dg_slots.specs.Sessions.{asks_of, session_of}
use Rattle.dg_eval.specs.declared.world.World.{World}
use Rattle.dg_requests.specs.Contexts.{IsContextOf}
use Rattle.dg_jobs.specs.Jobs.{Needs}
use Rattle.dg_exec.specs.declared.cells.CellName.{CellName}
use Rattle.dg_exec.specs.Jobs.{producer_cells, needed_by_ask, needed_by_cell, inputs_of_jobs}
use Rattle.dg_exec.specs.Numbers.{IsTable, AreProducers, needed_by}
use Rattle.dg_exec.specs.Tables.{as_cell, all_cells, with_cells}
use Rattle.dg_exec.proofs.CellTables.{cells_are, table_is, producers_are}
use Rattle.dg_exec.proofs.FitNeeds.{needs_cell, cell_job_within}

asks_are : (doc : Doc) (s : Session) → s ≡ session_of doc → s.asks ≡ asks_of doc
unfolding session_of
asks_are doc s e = ap (λ (x : Session). x.asks) e

by_names : (doc : Doc) (cells : List CellName)
    → map (needed_by doc) cells ≡ map (needed_by_cell doc) (map as_cell cells)
by_names doc [] = refl
by_names doc (c ∷ cs) = ap (λ (l : List (List ℕ)). needed_by doc c ∷ l) (by_names doc cs)

rows_are : (doc : Doc) (asks : List Ask) (cells : List CellName) → asks ≡ asks_of doc
    → map as_cell cells ≡ producer_cells doc
    → map (needed_by_ask doc) asks ++ map (needed_by doc) cells ≡ inputs_of_jobs doc
unfolding inputs_of_jobs
rows_are doc asks cells a c =
    let by_cells : map (needed_by doc) cells ≡ map (needed_by_cell doc) (producer_cells doc) =
    by_names doc cells ∙ ap (map (needed_by_cell doc)) c in
    λ i. map (needed_by_ask doc) (a i) ++ by_cells i

pub jobs_whole : (doc : Doc) (plan : Plan) (world : World) (s : Session)
    → IsContextOf doc plan world → s ≡ session_of doc → (cells keys : List CellName)
    → cells ≡ all_cells plan.slots world.class → keys ≡ with_cells [] cells
    → (rows all : List (List ℕ))
    → (IsTable doc (length s.asks) keys → rows ≡ map (needed_by_ask doc) s.asks)
    → (IsTable doc (length s.asks) keys → AreProducers doc cells
    → all ≡ rows ++ map (needed_by doc) cells)
    → (all ≡ inputs_of_jobs doc) × (map as_cell cells ≡ producer_cells doc)
jobs_whole doc plan world s of e cells keys are table rows all first later =
    let here : map as_cell cells ≡ producer_cells doc =
    ap (map as_cell) are ∙ cells_are doc plan world of.of_plan of.of_world in
    let asks : s.asks ≡ asks_of doc = asks_are doc s e in
    let is : IsTable doc (length s.asks) keys =
    (table_is doc cells keys here table, ap (λ (l : List Ask). length l) asks) in (
      later is (producers_are doc cells here)
          ∙ (ap (λ (l : List (List ℕ)). l ++ map (needed_by doc) cells) (first is)
          ∙ rows_are doc s.asks cells asks here),
      here,
    )

-- the same rows, where they are added for a slice of the cells
pub by_slice : (doc : Doc) (cells slice : List CellName) (rows all : List (List ℕ))
    → slice ≡ cells → AreProducers doc cells
    → (AreProducers doc slice → all ≡ rows ++ map (needed_by doc) slice)
    → all ≡ rows ++ map (needed_by doc) cells
by_slice doc cells slice rows all same are later =
    later (subst (AreProducers doc) (sym same) are)
    ∙ ap (λ (l : List CellName). rows ++ map (needed_by doc) l) same

-- ---- rows, one after another

-- a row is pushed for the next element
pub row_pushed : {A B : Type 0} (kept : A → List ℕ) (f : B → List ℕ) (xs : List B) (i : ℕ) (x : B)
    → (rows new : List A) (row : A) (whole : List (List ℕ)) → i < length xs → x ≡ get_or xs i x
    → new ≡ rows ++ row ∷ [] → kept row ≡ f x → map kept rows ++ map f (drop i xs) ≡ whole
    → map kept new ++ map f (drop (i + 1) xs) ≡ whole
row_pushed {A} {B} kept f xs i x rows new row whole lt here is same before =
    let later : List B = drop (i + 1) xs in
    ap (λ (l : List A). map kept l ++ map f later) is
    ∙ (ap (λ (l : List (List ℕ)). l ++ map f later) (map-append kept rows (row ∷ []))
    ∙ (append_assoc (map kept rows) (kept row ∷ []) (map f later)
    ∙ (ap (λ (r : List ℕ). map kept rows ++ r ∷ map f later) (same ∙ ap f here)
    ∙ (ap (λ (l : List B). map kept rows ++ map f l) (sym (drop_more xs i x lt)) ∙ before))))

-- an element that is read at an index
pub read_here : {B : Type 0} (xs : List B) (i : ℕ) (d : B) → i < length xs
    → get_or xs i d ≡ get_or xs i (get_or xs i d)
read_here {B} xs i d lt =
    let x : B = get_or xs i d in
    sym (get_or_from_slice_get xs i x x (slice_get-get_or xs i d lt))

-- ---- the jobs that are needed are among the jobs

pub inside : {A : Type 0} (kept : A → List ℕ) (doc : Doc) (rows : List A) (count : ℕ)
    → length rows ≡ count → map kept rows ≡ inputs_of_jobs doc
    → All (λ row. All (λ input. input < count) (kept row)) rows
inside {A} kept doc rows count counted is k d lt j e within =
    let row : A = get_or rows k d in
    let input : ℕ = get_or (kept row) j e in
    let here : get_or (map kept rows) k [] ≡ kept row =
    get_or_from_slice_get (map kept rows) k (kept row) []
    (slice_get-map kept rows k ∙ ap (option_map kept) (slice_get-get_or rows k d lt)) in
    let P : List ℕ → Type 0 = λ l. Contains l input in
    let needs : Needs (map kept rows) k input =
    subst P (sym here) (j, within, sym (read_here (kept row) j e within)) in
    let Q : List (List ℕ) → Type 0 = λ l. Needs l k input in
    let c = needs_cell doc k input (subst Q is needs) in
    let less : input < length (inputs_of_jobs doc) = (cell_job_within doc c.0 input c.1).1 in
    let whole : length (inputs_of_jobs doc) ≡ count =
    sym (ap (λ (l : List (List ℕ)). length l) is) ∙ (length-map rows kept ∙ counted) in
    let R : ℕ → Type 0 = λ n. input < n in
    subst R whole less
