-- Documents of few items are bounded.
use Rattle.std.proofs.Common.{◌≡◌, ◌+◌, ◌≤◌, ℕ, suc, Bool, true, false, cond, List, [], ◌∷◌, length, filter, refl, arith}
use Rattle.dg_decl.specs.declared.document.Doc.{Doc}
use Rattle.dg_decl.specs.Bounds.{IsBounded}
use Rattle.dg_decl.specs.Document.{statements}
use Rattle.dg_decl.specs.Components.{hilt_count, component_headers, class_count, is_component}
use Rattle.dg_comps.proofs.ModuleLemmas.{statements_length}

kept_length : {A : Type 0} (b : Bool) (x : A) (xs : List A) (n : ℕ) → length xs ≤ n
    → length (cond b (x ∷ xs) xs) ≤ suc n
kept_length true x xs n le = omega arith
kept_length false x xs n le = omega arith

filter_length : {A : Type 0} (p : A → Bool) (xs : List A) → length (filter p xs) ≤ length xs
filter_length p [] = omega arith
filter_length p (x ∷ xs) =
    kept_length (p x) x (filter p xs) (length xs) (filter_length p xs)

small_count : (doc : Doc) → length doc.items ≤ 100 → class_count doc ≤ 128
unfolding class_count
small_count doc few =
    let eight : hilt_count ≡ 8 = refl in
    let headers : length (component_headers doc) ≤ length (statements doc)
    = filter_length (λ s. is_component s.item) (statements doc) in
    let all = statements_length doc in
    omega arith

pub small_is_bounded : (doc : Doc) → length doc.lines ≡ length doc.items
    → length doc.items ≤ 100 → IsBounded doc
small_is_bounded doc lines few = record {
  lines = lines;
  items = omega arith;
  classes = small_count doc few;
}
