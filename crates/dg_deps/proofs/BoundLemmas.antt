-- The dependencies of a class in the list of classes.
use Rattle.std.proofs.Common.{◌≡◌, ℕ, ◌<◌, List, slice_get, Option, Some, None, ap, ◌∙◌}
use Rattle.std.specs.Prelude.{IfSome}
use Rattle.std.specs.Option.{option_and_then}
use Rattle.dg_decl.specs.declared.document.Doc.{Doc}
use Rattle.dg_decl.specs.declared.component.Class.{Class}
use Rattle.dg_decl.specs.Components.{class_count, class_of_number, component_classes, deps_of}
use Rattle.dg_decl.proofs.MemberLemmas.{in_got}
use Rattle.dg_decl.proofs.NodeCandidates.{dep_small}
use Rattle.dg_resolve.proofs.ListLemmas.{at_range}

pub dep_is : (doc : Doc) (classes : List Class) (c d : ℕ) → classes ≡ component_classes doc
    → c < class_count doc
    → option_and_then (λ (x : Class). slice_get x.deps d) (slice_get classes c)
    ≡ slice_get (deps_of doc c) d
unfolding component_classes
dep_is doc classes c d e lt =
    ap (λ (l : List Class). option_and_then (λ (x : Class). slice_get x.deps d) (slice_get l c)) e
    ∙ ap (λ (o : Option Class). option_and_then (λ (x : Class). slice_get x.deps d) o)
    (at_range (class_of_number doc) (class_count doc) c lt)

pub dep_within : (doc : Doc) (c d : ℕ) (o : Option ℕ) → slice_get (deps_of doc c) d ≡ o
    → IfSome o (λ x. x < class_count doc)
dep_within doc c d None e = tt
dep_within doc c d (Some x) e = dep_small doc c x (in_got (deps_of doc c) d x e)
