-- Where a statement stands among the statements of a document.
use Rattle.std.proofs.Common.{◌≡◌, ℕ, zero, suc, ◌+◌, Bool, true, false, List, [], ◌∷◌, Option, Some, None, if◌then◌else◌, refl, ap, ◌∙◌, arith}
use Rattle.std.specs.List.{find, slice_get}
use Rattle.std.specs.Option.{option_map, option_and_then}
use Rattle.dg_decl.specs.declared.document.Doc.{Doc}
use Rattle.dg_decl.specs.declared.item.Item.{Item}
use Rattle.dg_decl.specs.Document.{Statement, statements, statements_from, open_behind}

-- what is found stands somewhere
pub find_place : {A : Type 0} (p : A → Bool) (xs : List A) (x : A) → find p xs ≡ Some x
    → (j : ℕ) × (slice_get xs j ≡ Some x)
find_place p [] x e = cc e
find_place {A = A} p (y ∷ ys) x e = by (p y) e (find_place p ys x)
  where
    by : (b : Bool) → (if b then Some y else find p ys) ≡ Some x
        → (find p ys ≡ Some x → (j : ℕ) × (slice_get ys j ≡ Some x))
        → (j : ℕ) × (slice_get (y ∷ ys) j ≡ Some x)
    by true e rest = (0, e)
    by false e rest = let found = rest e in (suc found.0, found.1)

-- the statement at a place has its number
pub at_its_index : (doc : Doc) (k : ℕ) (b : Option ℕ) (xs : List Item) (j : ℕ) (s : Statement)
    → slice_get (statements_from doc k b xs) j ≡ Some s → s.index ≡ k + j
at_its_index doc k b [] j s e = cc e
at_its_index doc k b (x ∷ xs) zero s e = omega (arith, by e)
  where
    by : slice_get (statements_from doc k b (x ∷ xs)) zero ≡ Some s → k ≡ s.index
    by e = ap (λ o. option_index k o) e
      where
        option_index : ℕ → Option Statement → ℕ
        option_index d None = d
        option_index d (Some t) = t.index
at_its_index doc k b (x ∷ xs) (suc j) s e =
    omega (arith, at_its_index doc (suc k) (open_behind b k x) xs j s e)

-- a statement that is found stands at its index
pub found_at : (p : Statement → Bool) (doc : Doc)
    → option_and_then (slice_get (statements doc)) (option_map (λ s. s.index) (find p (statements doc)))
    ≡ find p (statements doc)
unfolding statements
found_at p doc = by (find p (statements doc)) refl
  where
    by : (o : Option Statement) → find p (statements_from doc 0 None doc.items) ≡ o
        → option_and_then (slice_get (statements doc)) (option_map (λ s. s.index) o) ≡ o
    by None e = refl
    by (Some s) e =
        let place = find_place p (statements_from doc 0 None doc.items) s e in
        let is : s.index ≡ place.0 =
        omega (arith, at_its_index doc 0 None doc.items place.0 s place.1) in
        ap (slice_get (statements_from doc 0 None doc.items)) is ∙ place.1

pub at_its_place : (doc : Doc) (j : ℕ) (s : Statement) → slice_get (statements doc) j ≡ Some s
    → s.index ≡ j
unfolding statements
at_its_place doc j s there = omega (arith, at_its_index doc 0 None doc.items j s there)
