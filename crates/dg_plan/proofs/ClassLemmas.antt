-- The numbers of the classes that a document declares, by line.
use Rattle.std.proofs.Common.{◌≡◌, ◌<◌, ℕ, zero, suc, ◌+◌, ◌==◌, Bool, true, false, cond, List, [], ◌∷◌, get_or, Option, Some, None, slice_get, if◌then◌else◌, refl, sym, ap, ◌∙◌, arith, zero-add}
use Rattle.std.specs.List.{filter, position_from}
use Rattle.std.specs.Option.{option_map, option_and_then}
use Rattle.std.proofs.lemmas.Bool.{eq-eqb, eqb-true}
use Rattle.std.proofs.lemmas.Iterator.Adapters.{position_from-zero}
use Rattle.dg_decl.specs.declared.document.Doc.{Doc}
use Rattle.dg_decl.specs.declared.item.Item.{Item}
use Rattle.dg_decl.specs.Document.{Statement, statements, statements_from, open_behind}
use Rattle.dg_decl.specs.Names.{is_class}
use Rattle.dg_slots.specs.Numbered.{class_lines, number_of_class_item}
use Rattle.dg_session.specs.Numbers.{number_behind}
use Rattle.dg_plan.specs.Classes.{classes_from, AreClasses}

-- places that are counted from another number
shifted : {A : Type 0} (p : A → Bool) (m i : ℕ) (xs : List A)
    → position_from p (m + i) xs ≡ option_map (λ k. m + k) (position_from p i xs)
shifted p m i [] = refl
shifted p m i (x ∷ xs) =
    let next : (m + i) + 1 ≡ m + (i + 1) = omega arith in
    ap (λ k. cond (p x) (Some (m + i)) (position_from p k xs)) next
    ∙ ap (λ o. cond (p x) (Some (m + i)) o) (shifted p m (i + 1) xs)
    ∙ by (p x) (position_from p (i + 1) xs)
  where
    by : (b : Bool) (o : Option ℕ) → cond b (Some (m + i)) (option_map (λ k. m + k) o)
        ≡ option_map (λ k. m + k) (cond b (Some i) o)
    by true o = refl
    by false o = refl

abbrev declares : Statement → Bool
declares s = is_class s.item

-- no statement has an index that is less than that of the first
none_before : (doc : Doc) (k : ℕ) (b : Option ℕ) (xs : List Item) (m n : ℕ) → m < k
    → position_from (λ s. s.index == m) n (filter declares (statements_from doc k b xs)) ≡ None
none_before doc k b [] m n less = refl
none_before doc k b (x ∷ xs) m n less =
    by (declares s) (λ i. none_before doc (suc k) (open_behind b k x) xs m i (omega (arith, less)))
  where
    s : Statement
    s = record { index = k; line = get_or doc.lines k 0; block = b; item = x }

    rest : List Statement
    rest = statements_from doc (suc k) (open_behind b k x) xs

    other : (t : Bool) → (k == m) ≡ t → t ≡ false
    other true e = let same : k ≡ m = eqb-true k m e in absurd (omega (arith, same, less))
    other false e = refl

    by : (t : Bool)
        → ((i : ℕ) → position_from (λ r. r.index == m) i (filter declares rest) ≡ None)
        → position_from (λ r. r.index == m) n (cond t (s ∷ filter declares rest) (filter declares
        rest)) ≡ None
    by true later = ap (λ t. cond t (Some n) (position_from (λ r. r.index == m) (n + 1)
        (filter declares rest))) (other (k == m) refl) ∙ later (n + 1)
    by false later = later n

found_from : (doc : Doc) (k : ℕ) (b : Option ℕ) (xs : List Item) (j n : ℕ)
    → option_and_then (λ (c : Option ℕ). c)
    (slice_get (classes_from n (statements_from doc k b xs)) j)
    ≡ position_from (λ s. s.index == k + j) n (filter declares (statements_from doc k b xs))
found_from doc k b [] j n = refl
found_from doc k b (x ∷ xs) zero n = by (declares s)
  where
    s : Statement
    s = record { index = k; line = get_or doc.lines k 0; block = b; item = x }

    rest : List Statement
    rest = statements_from doc (suc k) (open_behind b k x) xs

    by : (t : Bool) → (if t then Some n else None)
        ≡ position_from (λ r. r.index == k + 0) n (cond t (s ∷ filter declares rest) (filter
        declares rest))
    by true = sym (ap (λ t. cond t (Some n) (position_from (λ r. r.index == k + 0) (n + 1)
        (filter declares rest))) (eq-eqb k (k + 0) (omega arith)))
    by false = sym (none_before doc (suc k) (open_behind b k x) xs (k + 0) n (omega arith))
found_from doc k b (x ∷ xs) (suc j) n =
    let next : suc k + j ≡ k + suc j = omega arith in
    found_from doc (suc k) (open_behind b k x) xs j (number_behind n s)
    ∙ ap (λ m. position_from (λ r. r.index == m) (number_behind n s) (filter declares rest)) next
    ∙ by (declares s)
  where
    s : Statement
    s = record { index = k; line = get_or doc.lines k 0; block = b; item = x }

    rest : List Statement
    rest = statements_from doc (suc k) (open_behind b k x) xs

    other : (t : Bool) → (k == k + suc j) ≡ t → t ≡ false
    other true e =
        let same : k ≡ k + suc j = eqb-true k (k + suc j) e in absurd (omega arith)
    other false e = refl

    by : (t : Bool) → position_from (λ r. r.index == k + suc j) (if t then n + 1 else n) (filter
        declares rest)
        ≡ position_from (λ r. r.index == k + suc j) n (cond t (s ∷ filter declares rest) (filter
        declares rest))
    by true = sym (ap (λ t. cond t (Some n) (position_from (λ r. r.index == k + suc j) (n + 1)
        (filter declares rest))) (other (k == k + suc j) refl))
    by false = refl

found : (doc : Doc) (index : ℕ) → option_and_then (λ (c : Option ℕ). c)
    (slice_get (classes_from 6 (statements doc)) index) ≡ number_of_class_item doc index
unfolding statements
found doc index =
    found_from doc 0 None doc.items index 6
    ∙ ap (λ m. position_from (λ s. s.index == m) 6 (class_lines doc)) (zero-add index)
    ∙ shifted (λ s. s.index == index) 6 0 (class_lines doc)
    ∙ ap (option_map (λ k. 6 + k)) (sym (position_from-zero (λ s. s.index == index) (class_lines
    doc)))

pub class_found : (doc d : Doc) (index : ℕ) (classes list : List (Option ℕ)) → d ≡ doc
    → AreClasses d classes → list ≡ classes
    → option_and_then (λ (c : Option ℕ). c) (slice_get list index)
    ≡ number_of_class_item doc index
class_found doc d index classes list same are is =
    ap (λ (xs : List (Option ℕ)). option_and_then (λ (c : Option ℕ). c) (slice_get xs index))
    (is ∙ are)
    ∙ found d index
    ∙ ap (λ (e : Doc). number_of_class_item e index) same
