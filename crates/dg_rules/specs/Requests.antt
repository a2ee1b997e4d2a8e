-- What one request of a node breaks, rule by rule.
use Rattle.std.specs.Prelude.{Bool, ◌&&◌, ◌||◌, List, [], ◌∷◌, if◌then◌else◌}
use Rattle.dg_types.specs.Texts.{key_text}
use Rattle.dg_decl.specs.declared.document.Doc.{Doc}
use Rattle.dg_decl.specs.declared.binding.Found.{Found}
use Rattle.dg_decl.specs.declared.binding.Found.TheVariants as found
use Rattle.dg_decl.specs.declared.graph.Node.{Node}
use Rattle.dg_decl.specs.declared.violation.Rule.TheVariants as rule
use Rattle.dg_decl.specs.declared.violation.Violation.{Violation}
use Rattle.dg_decl.specs.Graph.{Dependency}
use Rattle.dg_decl.specs.Stages.Bindings.{at_request, many_text, scoped_class_text, is_provision, is_provider_mode, is_production_found}

abbrev pub where_nothing : Doc → Node → Dependency → Found → List Violation
where_nothing doc n d found.Nothing =
    at_request rule.MissingBinding (key_text d.key) doc n d ∷ []
where_nothing doc n d other = []

-- a request finds nothing
abbrev pub missing_at : Doc → Node → Dependency → List Violation
missing_at doc n d = where_nothing doc n d d.found

abbrev pub where_many : Doc → Node → Dependency → Found → List Violation
where_many doc n d (found.Many owners) =
    at_request rule.DuplicateBindings (many_text doc d.key owners) doc n d ∷ []
where_many doc n d other = []

-- a request finds two bindings or more
abbrev pub duplicate_at : Doc → Node → Dependency → List Violation
duplicate_at doc n d = where_many doc n d d.found

abbrev pub where_bad_scope : Doc → Node → Dependency → Found → List Violation
where_bad_scope doc n d (found.BadScope i) =
    at_request rule.IncompatiblyScopedBindings (scoped_class_text doc i) doc n d ∷ []
where_bad_scope doc n d other = []

-- a request finds an `@Inject` class whose scope no class of the chain carries
abbrev pub bad_scope_at : Doc → Node → Dependency → List Violation
bad_scope_at doc n d = where_bad_scope doc n d d.found

-- a request that may not lead to a production, where it does
abbrev pub where_produced : Doc → Node → Dependency → Bool → List Violation
where_produced doc n d forbidden =
    if forbidden then at_request rule.DependsOnProduction (key_text d.key) doc n d ∷ [] else []

abbrev pub production_at : Doc → Node → Dependency → List Violation
production_at doc n d =
    where_produced doc n d
    ((is_provision doc n || is_provider_mode d.mode) && is_production_found doc d)
