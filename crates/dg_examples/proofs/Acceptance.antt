-- A document is accepted where each stage finds nothing.
use Rattle.std.proofs.Common.{◌≡◌, ap, ◌∙◌}
use Rattle.std.specs.Prelude.{List, [], ◌∷◌}
use Rattle.dg_decl.specs.declared.document.Doc.{Doc}
use Rattle.dg_decl.specs.declared.violation.Violation.{Violation}
use Rattle.dg_decl.specs.Stages.Names.{names_stage}
use Rattle.dg_decl.specs.Stages.Types.{types_stage}
use Rattle.dg_decl.specs.Stages.Components.{components_stage}
use Rattle.dg_decl.specs.Stages.Dependencies.{dependencies_stage}
use Rattle.dg_decl.specs.Stages.Bindings.{bindings_stage}
use Rattle.dg_decl.specs.Stages.Sizes.{sizes_stage}
use Rattle.dg_decl.specs.Stages.Session.{session_stage}
use Rattle.dg_decl.specs.Stages.Links.{links_stage}
use Rattle.dg_decl.specs.Diagnostics.{first_found, diagnostics, IsAccepted}

-- a stage that finds nothing, before others
passed : (vs : List Violation) (later : List (List Violation)) → vs ≡ []
    → first_found (vs ∷ later) ≡ first_found later
passed vs later e = ap (λ v. first_found (v ∷ later)) e

pub record Passes (doc : Doc) : Type 0 where
  pub names : names_stage doc ≡ []
  pub types : types_stage doc ≡ []
  pub components : components_stage doc ≡ []
  pub dependencies : dependencies_stage doc ≡ []
  pub bindings : bindings_stage doc ≡ []
  pub sizes : sizes_stage doc ≡ []
  pub session : session_stage doc ≡ []
  pub links : links_stage doc ≡ []

pub accepted_by : (doc : Doc) → Passes doc → IsAccepted doc
unfolding diagnostics
accepted_by doc p =
    passed _ _ p.names ∙ passed _ _ p.types ∙ passed _ _ p.components ∙ passed _ _ p.dependencies
    ∙ passed _ _ p.bindings ∙ passed _ _ p.sizes ∙ passed _ _ p.session ∙ passed _ _ p.links
