-- What types in their places break, part by part.
use Rattle.std.proofs.Common.{◌≡◌, ◌++◌, List, map, not, ap, ◌∙◌}
use Rattle.std.specs.List.{filter}
use Rattle.std.proofs.lemmas.List.{map-append}
use Rattle.std.proofs.lemmas.List.Elements.{filter-append}
use Rattle.dg_types.specs.Texts.{shape_text}
use Rattle.dg_decl.specs.declared.violation.Rule.TheVariants as rule
use Rattle.dg_decl.specs.Document.{Statement}
use Rattle.dg_decl.specs.Stages.Components.{at_line}
use Rattle.dg_decl.specs.Stages.Types.{Placed}
use Rattle.dg_typing.specs.TypesPlaced.{bad_among}

pub bad_among_two : (s : Statement) (xs ys : List Placed)
    → bad_among s (xs ++ ys) ≡ bad_among s xs ++ bad_among s ys
bad_among_two s xs ys =
    ap (map (λ (p : Placed). at_line rule.BadType s (shape_text p.shape)))
    (filter-append (λ (p : Placed). not p.allowed) xs ys)
    ∙ map-append (λ (p : Placed). at_line rule.BadType s (shape_text p.shape))
    (filter (λ p. not p.allowed) xs) (filter (λ p. not p.allowed) ys)
