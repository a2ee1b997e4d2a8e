-- What a number past the classes has.
use Rattle.std.proofs.Common.{◌≡◌, ℕ, ◌-◌, ◌<◌, ◌≤◌, ◌==◌, Bool, true, false, cond, ◌&&◌, List, [], ◌∷◌, ◌++◌, map, Option, Some, None, slice_get, flat_map, refl, ap, ◌∙◌, arith}
use Rattle.std.specs.List.{filter, filter_map}
use Rattle.std.specs.Option.{option_map, option_or, option_and_then, option_to_list}
use Rattle.std.proofs.lemmas.Bool.{eqb-true, le-ltb}
use Rattle.std.proofs.lemmas.Option.{slice_get_past}
use Rattle.dg_hilt.specs.Table.{HiltRow, hilt_classes}
use Rattle.dg_decl.specs.declared.document.Doc.{Doc}
use Rattle.dg_decl.specs.Document.{Statement, statements, members}
use Rattle.dg_decl.specs.Components.{hilt_count, hilt_row, class_count, component_headers, header_of, header_item, class_named, parent_in, parent_of, default_bound, bound_in, bound_of, own_members, is_number, is_entry, is_entry_of, class_around, entries_of}
use Rattle.dg_compdep.proofs.DependencyLemmas.{around_small}

header_past : (doc : Doc) (c : ℕ) → class_count doc ≤ c → header_of doc c ≡ None
unfolding header_of class_count
header_past doc c le =
    ap (λ b. cond b None (slice_get (component_headers doc) (c - hilt_count)))
    (le-ltb c hilt_count (omega arith))
    ∙ slice_get_past (component_headers doc) (c - hilt_count) (omega arith)

row_past : (doc : Doc) (c : ℕ) → class_count doc ≤ c → hilt_row c ≡ None
unfolding class_count
row_past doc c le = slice_get_past hilt_classes c (omega arith)

pub parent_past : (doc : Doc) (c : ℕ) → class_count doc ≤ c → parent_of doc c ≡ None
unfolding parent_of
parent_past doc c le =
    ap (λ (o : Option HiltRow). option_or (option_and_then (λ row. row.parent) o)
    (option_and_then (class_named doc) (option_and_then parent_in (header_item doc c)))) (row_past
    doc c le)
    ∙ ap (λ (o : Option Statement). option_and_then (class_named doc) (option_and_then parent_in
    (option_map (λ h. h.item) o))) (header_past doc c le)

pub bounds_past : (doc : Doc) (c : ℕ) → class_count doc ≤ c → bound_of doc c ≡ []
unfolding bound_of
bounds_past doc c le =
    ap (λ (o : Option HiltRow). option_to_list (option_and_then default_bound o)
    ++ filter_map (λ s. bound_in s.item) (own_members doc c)) (row_past doc c le)
    ∙ ap (λ (o : Option Statement). filter_map (λ s. bound_in s.item) (flat_map (λ h. members doc
    h.index) (option_to_list o))) (header_past doc c le)

filter_none : {A : Type 0} (p : A → Bool) (xs : List A) → ((x : A) → p x ≡ false)
    → filter p xs ≡ []
filter_none p [] none = refl
filter_none p (x ∷ xs) none =
    ap (λ b. cond b (x ∷ filter p xs) (filter p xs)) (none x) ∙ filter_none p xs none

and_false : (b : Bool) → (b && false) ≡ false
and_false true = refl
and_false false = refl

other_class : (doc : Doc) (c : ℕ) (s : Statement) → class_count doc ≤ c
    → is_number c (class_around doc s) ≡ false
other_class doc c s le = by (class_around doc s) refl
  where
    apart : (m : ℕ) (b : Bool) → (m == c) ≡ b → m < class_count doc → b ≡ false
    apart m true e lt = let same : m ≡ c = eqb-true m c e in absurd (omega arith)
    apart m false e lt = refl

    by : (o : Option ℕ) → class_around doc s ≡ o → is_number c o ≡ false
    by None e = refl
    by (Some m) e = apart m (m == c) refl (around_small doc s m e)

pub entries_past : (doc : Doc) (c : ℕ) → class_count doc ≤ c → entries_of doc c ≡ []
unfolding entries_of
entries_past doc c le =
    ap (map (λ s. s.index)) (filter_none (is_entry_of doc c) (statements doc)
    (λ s. ap (λ b. is_entry s.item && b) (other_class doc c s le) ∙ and_false (is_entry s.item)))
