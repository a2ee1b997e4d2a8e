-- The classes of a document by their numbers, as a list of them has them.
use Rattle.std.proofs.Common.{◌≡◌, ℕ, suc, ◌<◌, ◌≤◌, Bool, true, false, cond, List, [], ◌∷◌, length, map, filter, filter_map, flat_map, slice_get, Option, Some, None, option_to_list, refl, ap, ◌∙◌, arith, length-append, zero-add}
use Rattle.std.specs.List.{cons_option, range_with_len}
use Rattle.std.proofs.lemmas.List.FromFn.{get_or-map-range_with_len, length-map-range_with_len}
use Rattle.std.proofs.lemmas.Option.{slice_get-get_or}
use Rattle.dg_decl.specs.declared.document.Doc.{Doc}
use Rattle.dg_decl.specs.declared.item.Item.{Item}
use Rattle.dg_decl.specs.Document.{Statement, statements, statements_from, open_behind, stands_in}
use Rattle.dg_decl.specs.Components.{class_count, class_of_number, component_classes, deps_of, header_of, own_members}

pub class_at : (doc : Doc) (c : ℕ) → c < class_count doc
    → slice_get (component_classes doc) c ≡ Some (class_of_number doc c)
unfolding component_classes
class_at doc c lt =
    let n = class_count doc in
    let f = class_of_number doc in
    let long : c < length (map f (range_with_len 0 n)) = omega (
      arith,
      length-map-range_with_len f
          0 n,
    ) in
    slice_get-get_or (map f (range_with_len 0 n)) c (f c) long
    ∙ ap Some (get_or-map-range_with_len f 0 n c c (f c) lt (zero-add c))

pub classes_counted : (doc : Doc) → length (component_classes doc) ≡ class_count doc
unfolding component_classes
classes_counted doc = length-map-range_with_len (class_of_number doc) 0 (class_count doc)

-- ---- how many statements and dependencies there are

from_counted : (doc : Doc) (index : ℕ) (block : Option ℕ) (items : List Item)
    → length (statements_from doc index block items) ≡ length items
from_counted doc index block [] = refl
from_counted doc index block (x ∷ xs) =
    ap suc (from_counted doc (suc index) (open_behind block index x) xs)

pub statements_counted : (doc : Doc) → length (statements doc) ≡ length doc.items
unfolding statements
statements_counted doc = from_counted doc 0 None doc.items

kept_few : {A : Type 0} (b : Bool) (x : A) (xs : List A) (n : ℕ) → length xs ≤ n
    → length (cond b (x ∷ xs) xs) ≤ suc n
kept_few true x xs n le = omega arith
kept_few false x xs n le = omega arith

pub filter_few : {A : Type 0} (p : A → Bool) (xs : List A) → length (filter p xs) ≤ length xs
filter_few p [] = omega arith
filter_few p (x ∷ xs) = kept_few (p x) x (filter p xs) (length xs) (filter_few p xs)

given_few : {A : Type 0} (o : Option A) (xs : List A) (n : ℕ) → length xs ≤ n
    → length (cons_option o xs) ≤ suc n
given_few None xs n le = omega arith
given_few (Some x) xs n le = omega arith

pub filter_map_few : {A B : Type 0} (f : A → Option B) (xs : List A)
    → length (filter_map f xs) ≤ length xs
filter_map_few f [] = omega arith
filter_map_few f (x ∷ xs) = given_few (f x) (filter_map f xs) (length xs) (filter_map_few f xs)

few_given : {A B : Type 0} (f : A → Option B) (xs : List A) (n : ℕ) → length xs ≤ n
    → length (filter_map f xs) ≤ n
few_given f xs n le = omega (arith, filter_map_few f xs)

members_few : (doc : Doc) (o : Option Statement)
    → length (flat_map (λ h. filter (stands_in h.index) (statements doc)) (option_to_list o))
    ≤ length doc.items
members_few doc None = omega arith
members_few doc (Some h) =
    omega (
      arith,
      length-append (filter (stands_in h.index) (statements doc)) [],
      filter_few (stands_in h.index) (statements doc),
      statements_counted doc,
    )

pub deps_few : (doc : Doc) (c : ℕ) → length (deps_of doc c) ≤ length doc.items
unfolding deps_of
deps_few doc c =
    let some : length (own_members doc c) ≤ length doc.items = members_few doc (header_of doc c) in
    few_given _ (own_members doc c) (length doc.items) some
