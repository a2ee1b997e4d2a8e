-- The diagnostics of a document: the whole list of the first stage that finds anything.
use Rattle.std.specs.Prelude.{◌≡◌, List, [], ◌∷◌}
use Rattle.dg_decl.specs.declared.document.Doc.{Doc}
use Rattle.dg_decl.specs.declared.violation.Violation.{Violation}
use Rattle.dg_decl.specs.Stages.Names.{names_stage}
use Rattle.dg_decl.specs.Stages.Types.{types_stage}
use Rattle.dg_decl.specs.Stages.Components.{components_stage}
use Rattle.dg_decl.specs.Stages.Dependencies.{dependencies_stage}
use Rattle.dg_decl.specs.Stages.Bindings.{bindings_stage}
use Rattle.dg_decl.specs.Stages.Sizes.{sizes_stage}
use Rattle.dg_decl.specs.Stages.Session.{session_stage}
use Rattle.dg_decl.specs.Stages.Links.{links_stage}

-- what is found in each stage, in their order
abbrev pub stages : Doc → List (List Violation)
stages doc =
    names_stage doc ∷ types_stage doc ∷ components_stage doc ∷ dependencies_stage doc
    ∷ bindings_stage doc ∷ sizes_stage doc ∷ session_stage doc ∷ links_stage doc ∷ []

-- the first of some lists that isn't empty
abbrev pub first_found : List (List Violation) → List Violation
first_found [] = []
first_found ([] ∷ later) = first_found later
first_found ((v ∷ vs) ∷ later) = v ∷ vs

-- each stage is judged only where the stages before it found nothing
unfoldable pub diagnostics : Doc → List Violation
diagnostics doc = first_found (stages doc)

-- the stages up to that of dependencies find nothing
pub record PassesDependencies (doc : Doc) : Type 0 where
  pub names : names_stage doc ≡ []
  pub types : types_stage doc ≡ []
  pub components : components_stage doc ≡ []
  pub dependencies : dependencies_stage doc ≡ []

-- a document breaks no rule
abbrev pub IsAccepted : Doc → Type 0
IsAccepted doc = diagnostics doc ≡ []
