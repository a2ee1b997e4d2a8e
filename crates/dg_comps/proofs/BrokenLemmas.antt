-- What single names break, name by name.
use Rattle.std.proofs.Common.{◌≡◌, ℕ, Bool, true, false, cond, List, [], ◌∷◌, ◌++◌, map, filter, refl}
use Rattle.dg_lex.specs.Bytes.{Bytes}
use Rattle.dg_decl.specs.declared.document.Doc.{Doc}
use Rattle.dg_decl.specs.Document.{Statement}
use Rattle.dg_decl.specs.Stages.Components.{ancestor_carries}
use Rattle.dg_comps.specs.Broken.{carried}

mapped_parts : {A B : Type 0} (f : A → B) (b : Bool) (x : A) (xs : List A)
    → map f (cond b (x ∷ xs) xs) ≡ map f (cond b (x ∷ []) []) ++ map f xs
mapped_parts f true x xs = refl
mapped_parts f false x xs = refl

pub carried_cons : (doc : Doc) (class : ℕ) (s : Statement) (scope : Bytes) (scopes : List Bytes)
    → carried doc class s (scope ∷ scopes)
    ≡ carried doc class s (scope ∷ []) ++ carried doc class s scopes
carried_cons doc class s scope scopes =
    mapped_parts _ (ancestor_carries doc class scope) scope
    (filter (ancestor_carries doc class) scopes)
