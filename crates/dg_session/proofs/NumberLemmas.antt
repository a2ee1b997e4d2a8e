-- The numbers of classes and fields.
use Rattle.std.proofs.Common.{◌≡◌, ℕ, zero, suc, ◌+◌, ◌==◌, Bool, true, false, cond, List, [], ◌∷◌, get_or, Option, Some, None, slice_get, if◌then◌else◌, refl, sym, ap, ◌∙◌, arith, zero-add}
use Rattle.std.specs.List.{filter, position_from}
use Rattle.std.specs.Option.{option_map, option_and_then, unwrap_or}
use Rattle.std.specs.Str.{bytes_eq}
use Rattle.std.specs.Prelude.{codes}
use Rattle.std.proofs.lemmas.Bool.{eq-eqb, eqb-true}
use Rattle.std.proofs.lemmas.Iterator.Adapters.{position_from-zero}
use Rattle.dg_lex.specs.Bytes.{Bytes}
use Rattle.dg_types.specs.Requests.{Layer}
use Rattle.dg_types.specs.declared.shape.Shape.TheOpen.{Shape-F}
use Rattle.dg_decl.specs.declared.document.Doc.{Doc}
use Rattle.dg_decl.specs.declared.item.Item.{Item}
use Rattle.dg_decl.specs.Document.{Statement, statements, statements_from, open_behind}
use Rattle.dg_decl.specs.Names.{is_class, declared, class_item_named, default_fields}
use Rattle.dg_decl.specs.Typing.{is_named}
use Rattle.dg_decl.proofs.NumberBounds.{none_is_not_some, same_value}
use Rattle.dg_names.proofs.KnownLemmas.{declared_from}
use Rattle.dg_slots.specs.Numbered.{class_lines, number_of_class_item, param_number, class_at}
use Rattle.dg_typing.specs.TypesGiven as given
use Rattle.dg_session.specs.Numbers.{number_behind, numbers_from, AreClassNumbers}

pub same_class : (l : Layer) → given.class_at l ≡ class_at l
same_class (Shape-F.Named n) = refl
same_class other = refl

-- ---- places that are counted from another number

shifted : {A : Type 0} (p : A → Bool) (m i : ℕ) (xs : List A)
    → position_from p (m + i) xs ≡ option_map (λ k. m + k) (position_from p i xs)
shifted p m i [] = refl
shifted p m i (x ∷ xs) =
    let next : (m + i) + 1 ≡ m + (i + 1) = omega arith in
    ap (λ k. cond (p x) (Some (m + i)) (position_from p k xs)) next
    ∙ ap (λ o. cond (p x) (Some (m + i)) o) (shifted p m (i + 1) xs)
    ∙ by (p x) (position_from p (i + 1) xs)
  where
    by : (b : Bool) (o : Option ℕ) → cond b (Some (m + i)) (option_map (λ k. m + k) o)
        ≡ option_map (λ k. m + k) (cond b (Some i) o)
    by true o = refl
    by false o = refl

abbrev declares : Statement → Bool
declares s = is_class s.item

numbered : (doc : Doc) (k : ℕ) (b : Option ℕ) (xs : List Item) (j n : ℕ) (o : Statement)
    → slice_get (statements_from doc k b xs) j ≡ Some o → declares o ≡ true
    → slice_get (numbers_from n (statements_from doc k b xs)) j
    ≡ position_from (λ s. s.index == k + j) n (filter declares (statements_from doc k b xs))
numbered doc k b [] j n o e is = absurd (none_is_not_some o e)
numbered doc k b (x ∷ xs) zero n o e is =
    let s : Statement = record { index = k; line = get_or doc.lines k 0; block = b; item = x } in
    let rest = statements_from doc (suc k) (open_behind b k x) xs in
    let here : declares s ≡ true = ap declares (same_value s o e) ∙ is in
    let number : (k == k + 0) ≡ true = eq-eqb k (k + 0) (omega arith) in
    sym (ap (λ t. position_from (λ r. r.index == k + 0) n (cond t (s ∷ filter declares rest)
    (filter declares rest))) here
    ∙ ap (λ t. cond t (Some n) (position_from (λ r. r.index == k + 0) (n + 1) (filter declares
    rest))) number)
numbered doc k b (x ∷ xs) (suc j) n o e is =
    let next : suc k + j ≡ k + suc j = omega arith in
    numbered doc (suc k) (open_behind b k x) xs j (number_behind n s) o e is
    ∙ ap (λ m. position_from (λ r. r.index == m) (number_behind n s) (filter declares rest)) next
    ∙ by (declares s)
  where
    s : Statement
    s = record { index = k; line = get_or doc.lines k 0; block = b; item = x }

    rest : List Statement
    rest = statements_from doc (suc k) (open_behind b k x) xs

    other : (t : Bool) → (k == k + suc j) ≡ t → t ≡ false
    other true e =
        let same : k ≡ k + suc j = eqb-true k (k + suc j) e in absurd (omega arith)
    other false e = refl

    by : (t : Bool) → position_from (λ r. r.index == k + suc j) (if t then n + 1 else n) (filter
        declares rest)
        ≡ position_from (λ r. r.index == k + suc j) n (cond t (s ∷ filter declares rest) (filter
        declares rest))
    by true = sym (ap (λ t. cond t (Some n) (position_from (λ r. r.index == k + suc j) (n + 1)
        (filter declares rest))) (other (k == k + suc j) refl))
    by false = refl

number_of : (doc : Doc) (o : Statement) → slice_get (statements doc) o.index ≡ Some o
    → declares o ≡ true
    → slice_get (numbers_from 6 (statements doc)) o.index ≡ number_of_class_item doc o.index
unfolding statements
number_of doc o there is =
    numbered doc 0 None doc.items o.index 6 o there is
    ∙ ap (λ m. position_from (λ s. s.index == m) 6 (class_lines doc)) (zero-add o.index)
    ∙ shifted (λ s. s.index == o.index) 6 0 (class_lines doc)
    ∙ ap (option_map (λ k. 6 + k)) (sym (position_from-zero (λ s. s.index == o.index) (class_lines
    doc)))

kind_index : Statement → Option ℕ
kind_index s = if is_class s.item then Some s.index else None

pub class_found : (doc d : Doc) (n : Bytes) (index : ℕ) (numbers list : List ℕ) → d ≡ doc
    → AreClassNumbers d numbers → list ≡ numbers → Some index ≡ class_item_named d n
    → slice_get list index ≡ option_and_then (number_of_class_item doc) (class_item_named doc n)
unfolding class_item_named kind_index
class_found doc d n index numbers list same are is found =
    ap (λ (xs : List ℕ). slice_get xs index) (is ∙ are)
    ∙ by (declared d n) refl found
    ∙ ap (option_and_then (number_of_class_item d)) found
    ∙ ap (λ (e : Doc). option_and_then (number_of_class_item e) (class_item_named e n)) same
  where
    inner : (o : Statement) (b : Bool) → declared d n ≡ Some o → is_class o.item ≡ b
        → Some index ≡ (if b then Some o.index else None)
        → slice_get (numbers_from 6 (statements d)) index ≡ number_of_class_item d index
    inner o false e kind found = absurd (none_is_not_some index (sym found))
    inner o true e kind found =
        let same : o.index ≡ index = same_value o.index index (sym found) in
        ap (slice_get (numbers_from 6 (statements d))) (sym same)
        ∙ number_of d o (declared_from d n (Some o.index) (sym (ap (option_map (λ s. s.index)) e))
        ∙ e) kind
        ∙ ap (number_of_class_item d) same

    by : (q : Option Statement) → declared d n ≡ q → Some index ≡ option_and_then kind_index q
        → slice_get (numbers_from 6 (statements d)) index ≡ number_of_class_item d index
    by None e found = absurd (none_is_not_some index (sym found))
    by (Some o) e found = inner o (is_class o.item) e refl found

-- ---- fields

pub default_number : (field : Bytes) → ◌≡◌ {A = ℕ} (param_number default_fields field) 0
default_number field =
    ap (λ (o : Option ℕ). unwrap_or o 0) (position_from-zero (is_named field) default_fields)
    ∙ first (bytes_eq (codes "name") field)
  where
    first : (b : Bool) → ◌≡◌ {A = ℕ} (unwrap_or (cond b (Some 0) None) 0) 0
    first true = refl
    first false = refl
