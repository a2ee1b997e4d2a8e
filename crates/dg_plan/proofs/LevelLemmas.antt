-- The chain of a class by the rows of classes, also of a number that no class has.
use Rattle.std.proofs.Common.{◌≡◌, inl, inr, ℕ, suc, ◌+◌, ◌-◌, ◌≤◌, Bool, if◌then◌else◌, List, ◌∷◌, length, slice_get, Option, Some, None, option_map, option_and_then, position, unwrap_or, sym, ap, ◌∙◌, arith}
use Rattle.std.specs.List.{position_from}
use Rattle.std.specs.Option.{option_or}
use Rattle.std.proofs.lemmas.Bool.{le-ltb}
use Rattle.std.proofs.lemmas.Iterator.Adapters.{position_from-zero}
use Rattle.std.proofs.lemmas.Option.{slice_get_past, slice_get_cases}
use Rattle.dg_hilt.specs.Table.{HiltRow, hilt_classes}
use Rattle.dg_decl.specs.declared.component.Class.{Class}
use Rattle.dg_decl.specs.declared.document.Doc.{Doc}
use Rattle.dg_decl.specs.Document.{Statement}
use Rattle.dg_decl.specs.Components.{hilt_count, hilt_row, component_headers, class_count, header_of, header_item, class_named, parent_in, parent_of, walk, ancestors, chain, component_classes}
use Rattle.dg_resolve.specs.Chains.{parent_at}
use Rattle.dg_resolve.proofs.QueryLemmas.{parent_is, count_is}

no_row : (doc : Doc) (c : ℕ) → class_count doc ≤ c → hilt_row c ≡ None
unfolding class_count
no_row doc c le = slice_get_past hilt_classes c (omega arith)

no_header : (doc : Doc) (c : ℕ) → class_count doc ≤ c → header_of doc c ≡ None
unfolding class_count header_of
no_header doc c le =
    ap (λ (b : Bool). if b then None else slice_get (component_headers doc) (c - hilt_count))
    (le-ltb c hilt_count (omega arith))
    ∙ slice_get_past (component_headers doc) (c - hilt_count) (omega arith)

parent_past : (doc : Doc) (c : ℕ) → class_count doc ≤ c → parent_of doc c ≡ None
unfolding parent_of
parent_past doc c le =
    ap (λ (o : Option HiltRow). option_or (option_and_then (λ row. row.parent) o)
    (option_and_then (class_named doc) (option_and_then parent_in (header_item doc c))))
    (no_row doc c le)
    ∙ ap (λ (h : Option Statement). option_and_then (class_named doc)
    (option_and_then parent_in (option_map (λ s. s.item) h))) (no_header doc c le)

parent_there : (doc : Doc) (classes : List Class) (c : ℕ) → classes ≡ component_classes doc
    → parent_at classes c ≡ parent_of doc c
parent_there doc classes c e =
    elim (slice_get_cases classes c).1 [
      | inl w ↦ parent_is doc classes c e (omega (arith, count_is doc classes e, w.1))
      | inr w ↦ ap (λ (o : Option Class). option_and_then (λ x. x.parent) o) w.1
          ∙ sym (parent_past doc c (omega (arith, count_is doc classes e, w.0)))
    ]

pub chain_there : (doc : Doc) (classes : List Class) (c : ℕ) → classes ≡ component_classes doc
    → c ∷ walk (parent_at classes) (length classes) (parent_at classes c) ≡ chain doc c
unfolding chain ancestors
chain_there doc classes c e =
    λ i. c ∷ walk (λ (x : ℕ). parent_there doc classes x e i) (count_is doc classes e i)
    (parent_there doc classes c e i)

-- the walk that begins at a class is the class and the walk from the next one
pub place_there : (test : ℕ → Bool) (next : ℕ → Option ℕ) (steps c : ℕ) (o : Option ℕ)
    → o ≡ position_from test 0 (walk next (steps + 1) (Some c))
    → unwrap_or o 0 ≡ unwrap_or (position test (c ∷ walk next steps (next c))) 0
place_there test next steps c o is =
    let more : steps + 1 ≡ suc steps = omega arith in
    ap (λ (p : Option ℕ). unwrap_or p 0)
    (is ∙ ap (λ n. position_from test 0 (walk next n (Some c))) more
    ∙ sym (position_from-zero test (c ∷ walk next steps (next c))))
