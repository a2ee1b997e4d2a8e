-- The first stage that finds anything gives the diagnostics.
use Rattle.std.proofs.Common.{◌≡◌, List, [], ◌∷◌, refl, sym, ◌∙◌}
use Rattle.std.specs.Prelude.{◌≢◌}
use Rattle.dg_decl.specs.declared.document.Doc.{Doc}
use Rattle.dg_decl.specs.declared.violation.Violation.{Violation}
use Rattle.dg_decl.specs.Diagnostics.{first_found, diagnostics, IsAccepted, PassesDependencies}
use Rattle.dg_decl.specs.Stages.Names.{names_stage}
use Rattle.dg_decl.specs.Stages.Types.{types_stage}
use Rattle.dg_decl.specs.Stages.Components.{components_stage}
use Rattle.dg_decl.specs.Stages.Dependencies.{dependencies_stage}
use Rattle.dg_decl.specs.Stages.Bindings.{bindings_stage}
use Rattle.dg_decl.specs.Stages.Sizes.{sizes_stage}
use Rattle.dg_decl.specs.Stages.Session.{session_stage}
use Rattle.dg_decl.specs.Stages.Links.{links_stage}

-- ---- lists of violations

pub found_here : (xs : List Violation) (later : List (List Violation)) → xs ≢ []
    → first_found (xs ∷ later) ≡ xs
found_here [] later some = absurd (some refl)
found_here (x ∷ xs) later some = refl

pub found_later : (xs : List Violation) (later : List (List Violation)) → xs ≡ []
    → first_found (xs ∷ later) ≡ first_found later
found_later [] later none = refl
found_later (x ∷ xs) later none = absurd (let e : x ∷ xs ≡ [] = none in cc)

found_last : (xs : List Violation) → first_found (xs ∷ []) ≡ xs
found_last [] = refl
found_last (x ∷ xs) = refl

-- of two lists, the first is what is found, or else the second
pub first_of_two : (xs ys found : List Violation) → found ≡ xs → found ≢ []
    → found ≡ first_found (xs ∷ ys ∷ [])
first_of_two xs ys found is some = is ∙ sym (found_here xs (ys ∷ []) (λ none. some (is ∙ none)))

pub second_of_two : (xs ys found : List Violation) → xs ≡ [] → found ≡ ys
    → found ≡ first_found (xs ∷ ys ∷ [])
second_of_two xs ys found none is = is ∙ sym (found_later xs (ys ∷ []) none ∙ found_last ys)

two_before : (xs ys : List Violation) (later : List (List Violation))
    → first_found (xs ∷ ys ∷ []) ≢ [] → first_found (xs ∷ ys ∷ later) ≡ first_found (xs ∷ ys ∷ [])
two_before [] [] later some = absurd (some refl)
two_before [] (y ∷ ys) later some = refl
two_before (x ∷ xs) ys later some = refl

pub none_of_two : (xs ys : List Violation) → first_found (xs ∷ ys ∷ []) ≡ [] → (xs ≡ []) × (ys ≡ [])
none_of_two [] [] none = (refl, refl)
none_of_two [] (y ∷ ys) none = absurd (let e : y ∷ ys ≡ [] = none in cc)
none_of_two (x ∷ xs) ys none = absurd (let e : x ∷ xs ≡ [] = none in cc)

-- ---- the stages behind one

abbrev behind_session : Doc → List (List Violation)
behind_session doc = links_stage doc ∷ []

abbrev behind_sizes : Doc → List (List Violation)
behind_sizes doc = session_stage doc ∷ behind_session doc

abbrev behind_dependencies : Doc → List (List Violation)
behind_dependencies doc = bindings_stage doc ∷ sizes_stage doc ∷ behind_sizes doc

abbrev behind_components : Doc → List (List Violation)
behind_components doc = dependencies_stage doc ∷ behind_dependencies doc

abbrev behind_types : Doc → List (List Violation)
behind_types doc = components_stage doc ∷ behind_components doc

abbrev behind_names : Doc → List (List Violation)
behind_names doc = types_stage doc ∷ behind_types doc

-- ---- where the stages before find nothing

from_names : (doc : Doc) → diagnostics doc ≡ first_found (names_stage doc ∷ behind_names doc)
unfolding diagnostics
from_names doc = refl

from_types : (doc : Doc) → names_stage doc ≡ [] → diagnostics doc ≡ first_found (behind_names doc)
from_types doc names = from_names doc ∙ found_later (names_stage doc) (behind_names doc) names

from_components : (doc : Doc) → names_stage doc ≡ [] → types_stage doc ≡ []
    → diagnostics doc ≡ first_found (behind_types doc)
from_components doc names types = from_types doc names ∙ found_later (types_stage doc) (behind_types
    doc) types

from_dependencies : (doc : Doc) → names_stage doc ≡ [] → types_stage doc ≡ []
    → components_stage doc ≡ [] → diagnostics doc ≡ first_found (behind_components doc)
from_dependencies doc names types components = from_components doc names types
    ∙ found_later (components_stage doc) (behind_components doc) components

from_bindings : (doc : Doc) → PassesDependencies doc
    → diagnostics doc ≡ first_found (behind_dependencies doc)
from_bindings doc passes = from_dependencies doc passes.names passes.types passes.components
    ∙ found_later (dependencies_stage doc) (behind_dependencies doc) passes.dependencies

from_session : (doc : Doc) → PassesDependencies doc → bindings_stage doc ≡ []
    → sizes_stage doc ≡ [] → diagnostics doc ≡ first_found (behind_sizes doc)
from_session doc passes bindings sizes =
    from_bindings doc passes ∙ found_later (bindings_stage doc) (sizes_stage doc ∷ behind_sizes doc)
    bindings ∙ found_later (sizes_stage doc) (behind_sizes doc) sizes

from_links : (doc : Doc) → PassesDependencies doc → bindings_stage doc ≡ [] → sizes_stage doc ≡ []
    → session_stage doc ≡ [] → diagnostics doc ≡ links_stage doc
from_links doc passes bindings sizes session =
    from_session doc passes bindings sizes ∙ found_later (session_stage doc) (behind_session doc)
    session ∙ found_last (links_stage doc)

-- ---- what a stage finds is the diagnostics, where those before find nothing

-- what was found is a list, and that comes first
first_are : (found xs : List Violation) (later : List (List Violation)) → found ≡ xs → xs ≢ []
    → found ≡ first_found (xs ∷ later)
first_are found xs later is some = is ∙ sym (found_here xs later some)

some_in : (found xs : List Violation) → found ≡ xs → found ≢ [] → xs ≢ []
some_in found xs is some none = some (is ∙ none)

module _ (doc : Doc) (found : List Violation) where
  pub names_are : found ≡ names_stage doc → found ≢ [] → found ≡ diagnostics doc
  names_are is some = first_are found (names_stage doc) (behind_names doc) is (some_in found
      (names_stage doc) is some) ∙ sym (from_names doc)

  pub types_are : names_stage doc ≡ [] → found ≡ types_stage doc → found ≢ []
      → found ≡ diagnostics doc
  types_are names is some = first_are found (types_stage doc) (behind_types doc) is (some_in found
      (types_stage doc) is some) ∙ sym (from_types doc names)

  pub components_are : names_stage doc ≡ [] → types_stage doc ≡ [] → found ≡ components_stage doc
      → components_stage doc ≢ [] → found ≡ diagnostics doc
  components_are names types is some = first_are found (components_stage doc) (behind_components
      doc) is some ∙ sym (from_components doc names types)

  pub dependencies_are : names_stage doc ≡ [] → types_stage doc ≡ [] → components_stage doc ≡ []
      → found ≡ dependencies_stage doc → found ≢ [] → found ≡ diagnostics doc
  dependencies_are names types components is some =
      first_are found (dependencies_stage doc) (behind_dependencies doc) is (some_in found
      (dependencies_stage doc) is some) ∙ sym (from_dependencies doc names types components)

  pub in_graph_are : PassesDependencies doc → found ≡ first_found (bindings_stage doc ∷ sizes_stage
      doc ∷ []) → found ≢ [] → found ≡ diagnostics doc
  in_graph_are passes is some =
      is ∙ sym (two_before (bindings_stage doc) (sizes_stage doc) (behind_sizes doc) (some_in found
      (first_found (bindings_stage doc ∷ sizes_stage doc ∷ [])) is some))
      ∙ sym (from_bindings doc passes)

  pub session_are : PassesDependencies doc → bindings_stage doc ≡ [] → sizes_stage doc ≡ []
      → found ≡ session_stage doc → session_stage doc ≢ [] → found ≡ diagnostics doc
  session_are passes bindings sizes is some = first_are found (session_stage doc) (behind_session
      doc) is some ∙ sym (from_session doc passes bindings sizes)

  pub links_are : PassesDependencies doc → bindings_stage doc ≡ [] → sizes_stage doc ≡ []
      → session_stage doc ≡ [] → found ≡ links_stage doc → found ≡ diagnostics doc
  links_are passes bindings sizes session is = is
      ∙ sym (from_links doc passes bindings sizes session)

-- the stage of dependencies passes too
pub passes_dependencies : (doc : Doc) → names_stage doc ≡ [] → types_stage doc ≡ []
    → components_stage doc ≡ [] → dependencies_stage doc ≡ [] → PassesDependencies doc
passes_dependencies doc names types components dependencies = record {
  names = names;
  types = types;
  components = components;
  dependencies = dependencies;
}

none_first : (xs : List Violation) (later : List (List Violation)) → first_found (xs ∷ later) ≡ []
    → (xs ≡ []) × (first_found later ≡ [])
none_first [] later none = (refl, none)
none_first (x ∷ xs) later none = absurd (let e : x ∷ xs ≡ [] = none in cc)

-- the stages of a document that breaks no rule

record NothingFound (doc : Doc) : Type 0 where
  pub passes : PassesDependencies doc
  pub session : session_stage doc ≡ []
  pub links : links_stage doc ≡ []

nothing_found : (doc : Doc) → IsAccepted doc → NothingFound doc
nothing_found doc accepted =
    let names = none_first (names_stage doc) (behind_names doc) (sym (from_names doc) ∙ accepted) in
    let types = none_first (types_stage doc) (behind_types doc) names.1 in
    let components = none_first (components_stage doc) (behind_components doc) types.1 in
    let dependencies = none_first (dependencies_stage doc) (behind_dependencies doc) components.1 in
    let bindings = none_first (bindings_stage doc) (sizes_stage doc ∷ behind_sizes doc)
    dependencies.1 in
    let sizes = none_first (sizes_stage doc) (behind_sizes doc) bindings.1 in
    let session = none_first (session_stage doc) (behind_session doc) sizes.1 in
    let links = none_first (links_stage doc) [] session.1 in
    record {
      passes = passes_dependencies doc names.0 types.0 components.0 dependencies.0;
      session = session.0;
      links = links.0;
    }

pub accepted_passes : (doc : Doc) → IsAccepted doc → PassesDependencies doc
accepted_passes doc accepted = (nothing_found doc accepted).passes

pub accepted_session : (doc : Doc) → IsAccepted doc → session_stage doc ≡ []
accepted_session doc accepted = (nothing_found doc accepted).session

pub accepted_links : (doc : Doc) → IsAccepted doc → links_stage doc ≡ []
accepted_links doc accepted = (nothing_found doc accepted).links
