-- What types in their places break.
use Rattle.std.specs.Prelude.{Bool, not, List, map, filter}
use Rattle.dg_types.specs.declared.shape.TypeUse.{TypeUse}
use Rattle.dg_types.specs.Requests.{is_plain_use, is_use}
use Rattle.dg_types.specs.Texts.{shape_text}
use Rattle.dg_decl.specs.declared.violation.Rule.TheVariants as rule
use Rattle.dg_decl.specs.declared.violation.Violation.{Violation}
use Rattle.dg_decl.specs.Document.{Statement}
use Rattle.dg_decl.specs.Stages.Components.{at_line}
use Rattle.dg_decl.specs.Stages.Types.{Placed}
use Rattle.dg_typing.specs.declared.types_stage.places.Takes.{Takes}
use Rattle.dg_typing.specs.declared.types_stage.places.Takes.TheVariants as takes

-- those of some types of a statement that aren't allowed in their places
abbrev pub bad_among : Statement → List Placed → List Violation
bad_among s ps =
    map (λ p. at_line rule.BadType s (shape_text p.shape)) (filter (λ p. not p.allowed) ps)

-- which types the parameters of a line may have
abbrev pub allowed_by : Takes → TypeUse → Bool
allowed_by takes.Plain u = is_plain_use u
allowed_by takes.Any u = is_use u
