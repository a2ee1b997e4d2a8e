-- What the dependencies of a document are kept with.
use Rattle.std.specs.Prelude.{◌≡◌, List}
use Rattle.dg_decl.specs.declared.document.Doc.{Doc}
use Rattle.dg_decl.specs.declared.component.CompTree.{CompTree}
use Rattle.dg_decl.specs.declared.component.Exposed.{Exposed}
use Rattle.dg_decl.specs.declared.binding.Bind.{Bind}
use Rattle.dg_decl.specs.Bounds.{IsBounded}
use Rattle.dg_decl.specs.Components.{component_classes, exposed_by_class}
use Rattle.dg_decl.specs.Diagnostics.{PassesDependencies}
use Rattle.dg_decl.specs.Lookup.{bindings}

-- a document with its component classes, its bindings, what dependencies expose and its look-ups
pub record AreDependencies (doc : Doc) (tree : CompTree) (binds : List Bind)
    (exposed : List (List Exposed)) (lookups : Doc) : Type 0 where
  pub bounded : IsBounded doc
  pub passes : PassesDependencies doc
  pub classes : tree.classes ≡ component_classes doc
  pub bound : binds ≡ bindings doc
  pub by_class : exposed ≡ exposed_by_class doc
  pub looks_up : lookups ≡ doc
