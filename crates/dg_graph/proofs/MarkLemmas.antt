-- The places of found nodes.
use Rattle.std.proofs.Common.{◌≡◌, ◌<◌, ◌≤◌, ◌+◌, inl, inr, ℕ, zero, suc, Bool, true, List, [], ◌∷◌, ◌++◌, length, get_or, take, Contains, Option, Some, None, slice_get, slice_index_or, slice_set, Vec, subst, sym, ap, ◌∙◌, refl, arith}
use Rattle.std.specs.Global.{Global}
use Rattle.std.specs.Option.{option_map_or}
use Rattle.std.proofs.lemmas.Bool.{cases_eq}
use Rattle.std.proofs.lemmas.List.{take_more, get_or_past, get_or-set_same, get_or-set_other}
use Rattle.std.proofs.lemmas.Option.{none-some, same_Some, slice_get-get_or, slice_get_past}
use Rattle.std.proofs.lemmas.List.Elements.{Contains-append_cases}
use Rattle.dg_decl.specs.declared.document.Doc.{Doc}
use Rattle.dg_decl.specs.declared.graph.Node.{Node}
use Rattle.dg_decl.proofs.MemberLemmas.{none_in, the_one}
use Rattle.dg_graph.specs.Kept.{place_of}
use Rattle.dg_graph.specs.Vacant.{Rows, is_taken, Notes, NotesIn, AreTaken}

-- ---- a test that holds from now on

pub notes_in : (row : List Bool) (index : ℕ) → index < length row
    → NotesIn index row (slice_set row index true)
notes_in row index lt = record {
  here = get_or-set_same row index true true lt;
  kept = λ i held. elim (cases_eq i index) [
    | inl same ↦ ap (λ n. slice_index_or (slice_set row index true) n true) same
        ∙ get_or-set_same row index true true lt
    | inr ne ↦ get_or-set_other row index i true true ne ∙ held
  ];
}

pub notes_past : (row : List Bool) (index : ℕ) → length row ≤ index → NotesIn index row row
notes_past row index past = record {
  here = get_or_past row index true past;
  kept = λ i held. held;
}

-- ---- a row in which one holds

set_here : {A : Type 0} (xs : List A) (i : ℕ) (y : A) → i < length xs
    → slice_get (slice_set xs i y) i ≡ Some y
set_here [] i y lt = absurd (omega arith)
set_here (x ∷ xs) zero y lt = refl
set_here (x ∷ xs) (suc i) y lt = set_here xs i y (omega arith)

set_elsewhere : {A : Type 0} (xs : List A) (i j : ℕ) (y : A) → (j ≡ i → ⊥)
    → slice_get (slice_set xs i y) j ≡ slice_get xs j
set_elsewhere [] i j y ne = refl
set_elsewhere (x ∷ xs) zero zero y ne = absurd (ne refl)
set_elsewhere (x ∷ xs) zero (suc j) y ne = refl
set_elsewhere (x ∷ xs) (suc i) zero y ne = refl
set_elsewhere (x ∷ xs) (suc i) (suc j) y ne = set_elsewhere xs i j y (λ e. ne (ap suc e))

abbrev by_row : ℕ → Option (Vec Bool Global) → Bool
by_row i o = option_map_or (λ r. slice_index_or r.items i true) o true

pub notes_row : (rows : Rows) (class index : ℕ) (row more : Vec Bool Global) → class < length rows
    → row ≡ get_or rows class row → NotesIn index row.items more.items
    → Notes class (Some index) rows (slice_set rows class more)
notes_row rows class index row more lt at notes =
    let there = set_here rows class more lt in
    let was = slice_get-get_or rows class row lt ∙ ap Some (sym at) in
    record {
      here = λ i e. ap (by_row i) there
          ∙ subst (λ n. slice_index_or more.items n true ≡ true) (same_Some index i e) notes.here;
      kept = λ d i held. elim (cases_eq d class) [
        | inl same ↦ ap (λ n. is_taken (slice_set rows class more) n i) same ∙ ap (by_row i) there
            ∙ notes.kept i (ap (by_row i) (sym was) ∙ ap (λ n. is_taken rows n i) (sym same) ∙ held)
        | inr ne ↦ ap (by_row i) (set_elsewhere rows class d more ne) ∙ held
      ];
    }

pub notes_no_row : (rows : Rows) (class index : ℕ) → length rows ≤ class
    → Notes class (Some index) rows rows
notes_no_row rows class index past = record {
  here = λ i e. ap (by_row i) (slice_get_past rows class past);
  kept = λ d i held. held;
}

pub notes_nothing : (class : ℕ) (place : Option ℕ) (rows : Rows) → place ≡ None
    → Notes class place rows rows
notes_nothing class place rows is = record {
  here = λ i e. absurd (none-some i (sym is ∙ e));
  kept = λ d i held. held;
}

-- ---- all found nodes

pub taken_none : (doc : Doc) (taken : Rows) → AreTaken doc [] taken
taken_none doc taken = record { each = λ n i among stands. absurd (none_in n among) }

pub taken_more : (doc : Doc) (found : List Node) (k : ℕ) (n : Node) (old new : Rows)
    → k < length found → n ≡ get_or found k n → AreTaken doc (take k found) old
    → Notes n.class (place_of doc n.class n.kind) old new → AreTaken doc (take (k + 1) found) new
taken_more doc found k n old new lt at are notes = record {
  each = λ m i among stands.
      elim (Contains-append_cases (take k found) (get_or found k n ∷ []) m
      (subst (λ (l : List Node). Contains l m) (take_more found k n lt) among)) [
        | inl before ↦ notes.kept m.class i (are.each m i before stands)
        | inr here ↦ (let same : n ≡ m = at ∙ the_one m (get_or found k n) here in
            subst (λ (x : Node). is_taken new x.class i ≡ true) same
            (notes.here i (subst (λ (x : Node). place_of doc x.class x.kind ≡ Some i) (sym same) stands)))
      ];
}

pub taken_there : (doc : Doc) (found : List Node) (taken : Rows) (n : Node) (i : ℕ)
    → AreTaken doc found taken → Contains found n → place_of doc n.class n.kind ≡ Some i
    → is_taken taken n.class i ≡ true
taken_there doc found taken n i are among stands = are.each n i among stands
