-- What a class of a document has, by its number, in the list of all classes and past its end.
use Rattle.std.proofs.Common.{◌≡◌, inl, inr, ℕ, ◌-◌, ◌<◌, ◌≤◌, Bool, if◌then◌else◌, List, [], ◌++◌, length, map, filter_map, flat_map, slice_get, Option, Some, None, option_map, option_and_then, option_to_list, unwrap_or, sym, ap, ◌∙◌, arith, zero-add}
use Rattle.std.specs.List.{range_with_len}
use Rattle.std.specs.Option.{option_map_or, option_or}
use Rattle.std.proofs.lemmas.Bool.{le-ltb}
use Rattle.std.proofs.lemmas.List.FromFn.{get_or-map-range_with_len, length-map-range_with_len}
use Rattle.std.proofs.lemmas.Option.{slice_get-get_or, slice_get_past, slice_get_cases}
use Rattle.dg_hilt.specs.Table.{HiltRow, hilt_classes}
use Rattle.dg_decl.specs.declared.component.Class.{Class}
use Rattle.dg_decl.specs.declared.document.Doc.{Doc}
use Rattle.dg_decl.specs.Document.{Statement, members}
use Rattle.dg_decl.specs.Names.{outer_name}
use Rattle.dg_decl.specs.Components.{hilt_count, hilt_row, component_headers, class_count, header_of, header_item, class_name, scopes_in, scopes_of, default_bound, bound_in, bound_of, class_named, dependency_in, deps_of, own_members, class_of_number, component_classes}

class_at : (doc : Doc) (c : ℕ) → c < class_count doc
    → slice_get (component_classes doc) c ≡ Some (class_of_number doc c)
unfolding component_classes
class_at doc c lt =
    let n = class_count doc in
    let f = class_of_number doc in
    let long : c < length (map f (range_with_len 0 n)) = omega (
      arith,
      length-map-range_with_len f
          0 n,
    ) in
    slice_get-get_or (map f (range_with_len 0 n)) c (f c) long
    ∙ ap Some (get_or-map-range_with_len f 0 n c c (f c) lt (zero-add c))

classes_counted : (doc : Doc) → length (component_classes doc) ≡ class_count doc
unfolding component_classes
classes_counted doc = length-map-range_with_len (class_of_number doc) 0 (class_count doc)

-- ---- past the end

no_row : (doc : Doc) (c : ℕ) → class_count doc ≤ c → hilt_row c ≡ None
unfolding class_count
no_row doc c le = slice_get_past hilt_classes c (omega arith)

no_header : (doc : Doc) (c : ℕ) → class_count doc ≤ c → header_of doc c ≡ None
unfolding class_count header_of
no_header doc c le =
    ap (λ (b : Bool). if b then None else slice_get (component_headers doc) (c - hilt_count))
    (le-ltb c hilt_count (omega arith))
    ∙ slice_get_past (component_headers doc) (c - hilt_count) (omega arith)

name_past : (doc : Doc) (c : ℕ) → class_count doc ≤ c → class_name doc c ≡ []
unfolding class_name
name_past doc c le =
    ap (λ (o : Option HiltRow). unwrap_or (option_or (option_map (λ row. row.class) o)
    (option_and_then outer_name (header_item doc c))) []) (no_row doc c le)
    ∙ ap (λ (h : Option Statement). unwrap_or (option_and_then outer_name
    (option_map (λ s. s.item) h)) []) (no_header doc c le)

scopes_past : (doc : Doc) (c : ℕ) → class_count doc ≤ c → scopes_of doc c ≡ []
unfolding scopes_of
scopes_past doc c le =
    ap (λ (o : Option HiltRow). option_to_list (option_map (λ row. row.scope) o)
    ++ unwrap_or (option_map scopes_in (header_item doc c)) []) (no_row doc c le)
    ∙ ap (λ (h : Option Statement). unwrap_or (option_map scopes_in
    (option_map (λ s. s.item) h)) []) (no_header doc c le)

none_own : (doc : Doc) (c : ℕ) → class_count doc ≤ c → own_members doc c ≡ []
none_own doc c le =
    ap (λ (h : Option Statement). flat_map (λ s. members doc s.index) (option_to_list h))
    (no_header doc c le)

bound_past : (doc : Doc) (c : ℕ) → class_count doc ≤ c → bound_of doc c ≡ []
unfolding bound_of
bound_past doc c le =
    ap (λ (o : Option HiltRow). option_to_list (option_and_then default_bound o)
    ++ filter_map (λ s. bound_in s.item) (own_members doc c)) (no_row doc c le)
    ∙ ap (filter_map (λ (s : Statement). bound_in s.item)) (none_own doc c le)

deps_past : (doc : Doc) (c : ℕ) → class_count doc ≤ c → deps_of doc c ≡ []
unfolding deps_of
deps_past doc c le =
    ap (filter_map (λ (s : Statement). option_and_then (class_named doc) (dependency_in s.item)))
    (none_own doc c le)

-- ---- at any number

of_class : {A : Type 0} (doc : Doc) (classes : List Class) (c : ℕ) (f : Class → A) (d : A)
    → classes ≡ component_classes doc → (class_count doc ≤ c → f (class_of_number doc c) ≡ d)
    → option_map_or f (slice_get classes c) d ≡ f (class_of_number doc c)
of_class doc classes c f d all past =
    ap (λ (cs : List Class). option_map_or f (slice_get cs c) d) all
    ∙ elim (slice_get_cases (component_classes doc) c).1 [
      | inl w ↦ ap (λ o. option_map_or f o d)
          (class_at doc c (omega (arith, classes_counted doc, w.1)))
      | inr w ↦ ap (λ o. option_map_or f o d) w.1
          ∙ sym (past (omega (arith, classes_counted doc, w.0)))
    ]

pub names_are : (doc : Doc) (classes : List Class) (c : ℕ) → classes ≡ component_classes doc
    → option_map_or (λ k. k.name) (slice_get classes c) [] ≡ class_name doc c
names_are doc classes c all = of_class doc classes c (λ k. k.name) [] all (name_past doc c)

pub scopes_are : (doc : Doc) (classes : List Class) (c : ℕ) → classes ≡ component_classes doc
    → option_map_or (λ k. k.scopes) (slice_get classes c) [] ≡ scopes_of doc c
scopes_are doc classes c all = of_class doc classes c (λ k. k.scopes) [] all (scopes_past doc c)

pub bound_are : (doc : Doc) (classes : List Class) (c : ℕ) → classes ≡ component_classes doc
    → option_map_or (λ k. k.bound) (slice_get classes c) [] ≡ bound_of doc c
bound_are doc classes c all = of_class doc classes c (λ k. k.bound) [] all (bound_past doc c)

pub deps_are : (doc : Doc) (classes : List Class) (c : ℕ) → classes ≡ component_classes doc
    → option_map_or (λ k. k.deps) (slice_get classes c) [] ≡ deps_of doc c
deps_are doc classes c all = of_class doc classes c (λ k. k.deps) [] all (deps_past doc c)
