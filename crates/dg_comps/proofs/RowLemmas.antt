-- Rows of indices, one for each class.
use Rattle.std.proofs.Common.{◌≡◌, inl, inr, ℕ, zero, suc, ◌+◌, ◌<◌, ◌≤◌, Bool, true, false, cond, if◌then◌else◌, ◌&&◌, List, [], ◌∷◌, ◌++◌, length, get_or, drop, map, filter, Option, Some, None, Vec, slice_set, refl, sym, ap, ◌∙◌, append_assoc, append-nil, drop-cons, arith}
use Rattle.std.specs.Global.{Global}
use Rattle.std.proofs.lemmas.Bool.{cases_eq, eq-eqb, ne_eqb}
use Rattle.dg_num.specs.Graph.{row_at}
use Rattle.dg_num.proofs.Rows.{row_at_read, row_at-set_same, row_at-set_other}
use Rattle.dg_decl.specs.declared.document.Doc.{Doc}
use Rattle.dg_decl.specs.Document.{Statement, statements}
use Rattle.dg_decl.specs.Components.{is_number, is_entry_of, installed, entries_of}
use Rattle.dg_comps.specs.Rows.{Belongs, indices, AreRows, is_installed_at}

-- what each row has so far, and what is left for it, is all
pub record RowsSoFar (belongs : Belongs) (ss : List Statement) (count place : ℕ)
    (rows : List (Vec ℕ Global)) : Type 0 where
  pub len : length rows ≡ count
  pub each : (class : ℕ) → class < count
      → row_at rows class ++ indices belongs (drop place ss) class ≡ indices belongs ss class

pub rows_begin : (belongs : Belongs) (ss : List Statement) (count : ℕ) (rows : List (Vec ℕ Global))
    → length rows ≡ count → ((class : ℕ) → row_at rows class ≡ [])
    → RowsSoFar belongs ss count 0 rows
rows_begin belongs ss count rows len none = record {
  len = len;
  each = λ class lt. ap (λ (xs : List ℕ). xs ++ indices belongs ss class) (none class);
}

one_more : (xs ys : List ℕ) (b : Bool) (n : ℕ)
    → (xs ++ (if b then n ∷ [] else [])) ++ ys ≡ xs ++ (cond b (n ∷ ys) ys)
one_more xs ys true n = append_assoc xs (n ∷ []) ys
one_more xs ys false n = ap (λ (zs : List ℕ). zs ++ ys) (append-nil xs)

mapped : (b : Bool) (s : Statement) (ss : List Statement)
    → map (λ (s : Statement). s.index) (cond b (s ∷ ss) ss)
    ≡ cond b (s.index ∷ map (λ (s : Statement). s.index) ss) (map (λ (s : Statement). s.index) ss)
mapped true s ss = refl
mapped false s ss = refl

pub rows_step : (belongs : Belongs) (ss : List Statement) (count place : ℕ) (s : Statement)
    (rows more : List (Vec ℕ Global)) → RowsSoFar belongs ss count place rows
    → place < length ss → get_or ss place s ≡ s → length more ≡ length rows
    → ((class : ℕ) → class < length rows → row_at more class
    ≡ row_at rows class ++ (if belongs class s then s.index ∷ [] else []))
    → RowsSoFar belongs ss count (place + 1) more
rows_step belongs ss count place s rows more so lt at same adds =
    let len = so.len in record {
      len = same ∙ len;
      each = λ class small.
          let within : class < length rows = omega arith in
          let next : place + 1 ≡ suc place = omega arith in
          let rest = drop (suc place) ss in
          let split : drop place ss ≡ s ∷ rest = drop-cons ss place s lt ∙ ap (λ x. x ∷ rest) at in
          ap (λ n. row_at more class ++ indices belongs (drop n ss) class) next
          ∙ ap (λ (xs : List ℕ). xs ++ indices belongs rest class) (adds class within)
          ∙ one_more (row_at rows class) (indices belongs rest class) (belongs class s) s.index
          ∙ ap (λ (xs : List ℕ). row_at rows class ++ xs) (sym (mapped (belongs class s) s
          (filter (belongs class) rest)))
          ∙ ap (λ (xs : List Statement). row_at rows class ++ indices belongs xs class) (sym split)
          ∙ so.each class small;
    }

nothing_left : (ss : List Statement) (place : ℕ) → length ss ≤ place → drop place ss ≡ []
nothing_left [] zero le = refl
nothing_left [] (suc k) le = refl
nothing_left (s ∷ ss) zero le = absurd (omega arith)
nothing_left (s ∷ ss) (suc k) le = nothing_left ss k (omega arith)

pub rows_end : (belongs : Belongs) (doc : Doc) (count place : ℕ) (rows : List (Vec ℕ Global))
    → RowsSoFar belongs (statements doc) count place rows → length (statements doc) ≤ place
    → AreRows belongs doc count rows
rows_end belongs doc count place rows so all = record {
  len = so.len;
  each = λ class lt. sym (append-nil (row_at rows class))
      ∙ ap (λ (xs : List Statement). row_at rows class ++ indices belongs xs class)
      (sym (nothing_left (statements doc) place all))
      ∙ so.each class lt;
}

-- ---- one row

pub pushed : (rows : List (Vec ℕ Global)) (class index : ℕ) (row more : Vec ℕ Global) (o : Option ℕ)
    → class < length rows → row ≡ get_or rows class row → more.items ≡ row.items ++ index ∷ []
    → o ≡ Some class → (other : ℕ) → row_at (slice_set rows class more) other
    ≡ row_at rows other ++ (if is_number other o then index ∷ [] else [])
pushed rows class index row more o lt at adds is other =
    elim (cases_eq other class) [
      | inl same ↦ (let test : is_number other o ≡ true = ap (is_number other) is
          ∙ eq-eqb class other (sym same) in
          ap (row_at (slice_set rows class more)) same ∙ row_at-set_same rows class more lt ∙ adds
          ∙ ap (λ (xs : List ℕ). xs ++ index ∷ []) (sym (row_at_read rows class row lt at))
          ∙ ap (λ n. row_at rows n ++ index ∷ []) (sym same)
          ∙ ap (λ b. row_at rows other ++ (if b then index ∷ [] else [])) (sym test))
      | inr ne ↦ (let test : is_number other o ≡ false = ap (is_number other) is
          ∙ ne_eqb class other (λ e. ne (sym e)) in
          row_at-set_other rows class other more ne
          ∙ sym (append-nil (row_at rows other))
          ∙ ap (λ b. row_at rows other ++ (if b then index ∷ [] else [])) (sym test))
    ]

-- nothing is pushed where no row has this class
pub none_pushed : (rows : List (Vec ℕ Global)) (index : ℕ) (o : Option ℕ) (other : ℕ)
    → is_number other o ≡ false → row_at rows other
    ≡ row_at rows other ++ (if is_number other o then index ∷ [] else [])
none_pushed rows index o other test =
    sym (append-nil (row_at rows other))
    ∙ ap (λ b. row_at rows other ++ (if b then index ∷ [] else [])) (sym test)

pub past_differs : (count class other : ℕ) (o : Option ℕ) → o ≡ Some class → count ≤ class
    → other < count → is_number other o ≡ false
past_differs count class other o is past lt =
    ap (is_number other) is ∙ ne_eqb class other (λ e. absurd (omega arith))

-- the row of a class, as it was read
pub row_read : (belongs : Belongs) (doc : Doc) (count class : ℕ) (rows : List (Vec ℕ Global))
    (row : Vec ℕ Global) (list : List ℕ) → AreRows belongs doc count rows → class < count
    → row ≡ get_or rows class row → list ≡ row.items
    → list ≡ indices belongs (statements doc) class
row_read belongs doc count class rows row list are lt at same =
    let len = are.len in
    let within : class < length rows = omega arith in
    same ∙ sym (row_at_read rows class row within at) ∙ are.each class lt

-- ---- rows that are fields of a class

pub rows_installed : (doc : Doc) (class : ℕ)
    → indices (is_installed_at doc) (statements doc) class ≡ installed doc class
unfolding installed
rows_installed doc class = refl

pub rows_entries : (doc : Doc) (class : ℕ)
    → indices (is_entry_of doc) (statements doc) class ≡ entries_of doc class
unfolding entries_of
rows_entries doc class = refl
