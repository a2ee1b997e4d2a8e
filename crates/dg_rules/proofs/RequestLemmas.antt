-- What the requests of a node break is what each of them breaks, in order.
use Rattle.std.proofs.Common.{◌≡◌, ℕ, List, flat_map, Option, Some, None, option_to_list, refl, sym, ap, ◌∙◌}
use Rattle.dg_decl.specs.declared.document.Doc.{Doc}
use Rattle.dg_decl.specs.declared.binding.BindRef.{BindRef}
use Rattle.dg_decl.specs.declared.binding.Found.{Found}
use Rattle.dg_decl.specs.declared.binding.Found.TheVariants as found
use Rattle.dg_decl.specs.declared.binding.Owned.{Owned}
use Rattle.dg_decl.specs.declared.graph.Node.{Node}
use Rattle.dg_decl.specs.declared.violation.Rule.TheVariants as rule
use Rattle.dg_decl.specs.declared.violation.Violation.{Violation}
use Rattle.dg_types.specs.Texts.{key_text}
use Rattle.dg_decl.specs.Graph.{Dependency, deps}
use Rattle.dg_decl.specs.Stages.Bindings.{at_request, many_text, scoped_class_text, missing_binding, duplicate_bindings, incompatibly_scoped_bindings}
use Rattle.dg_rules.specs.Requests.{where_nothing, missing_at, where_many, duplicate_at, where_bad_scope, bad_scope_at}
use Rattle.dg_rules.proofs.ListLemmas.{as_flat}

-- two tests of what is found agree where they agree at each variant
record Agree (b : Found → Option Violation) (w : Found → List Violation) : Type 0 where
  one : (o : ℕ) (r : BindRef) → option_to_list (b (found.One o r)) ≡ w (found.One o r)
  many : (os : List Owned) → option_to_list (b (found.Many os)) ≡ w (found.Many os)
  sets : (os : List Owned) → option_to_list (b (found.SetOf os)) ≡ w (found.SetOf os)
  maps : (os : List Owned) → option_to_list (b (found.MapOf os)) ≡ w (found.MapOf os)
  optional : option_to_list (b found.OptionalOf) ≡ w found.OptionalOf
  scope : (i : ℕ) → option_to_list (b (found.BadScope i)) ≡ w (found.BadScope i)
  nothing : option_to_list (b found.Nothing) ≡ w found.Nothing

agree : (b : Found → Option Violation) (w : Found → List Violation) → Agree b w → (f : Found)
    → option_to_list (b f) ≡ w f
agree b w a (found.One o r) = a.one o r
agree b w a (found.Many os) = a.many os
agree b w a (found.SetOf os) = a.sets os
agree b w a (found.MapOf os) = a.maps os
agree b w a found.OptionalOf = a.optional
agree b w a (found.BadScope i) = a.scope i
agree b w a found.Nothing = a.nothing

abbrev nothing_in : Doc → Node → Dependency → Found → Option Violation
nothing_in doc n d found.Nothing = Some (at_request rule.MissingBinding (key_text d.key) doc n d)
nothing_in doc n d other = None

pub missing_is : (doc : Doc) (n : Node) (ds : List Dependency) → ds ≡ deps doc n
    → flat_map (missing_at doc n) ds ≡ missing_binding doc n
unfolding missing_binding
missing_is doc n ds e =
    ap (flat_map (missing_at doc n)) e
    ∙ sym (as_flat (λ (d : Dependency). nothing_in doc n d d.found) (missing_at doc n)
    (λ d. agree (nothing_in doc n d) (where_nothing doc n d) (record {
      one = λ o r. refl;
      many = λ os. refl;
      sets = λ os. refl;
      maps = λ os. refl;
      optional = refl;
      scope = λ i. refl;
      nothing = refl;
    }) d.found) (deps doc n))

abbrev many_in : Doc → Node → Dependency → Found → Option Violation
many_in doc n d (found.Many owners) =
    Some (at_request rule.DuplicateBindings (many_text doc d.key owners) doc n d)
many_in doc n d other = None

pub duplicates_are : (doc : Doc) (n : Node) (ds : List Dependency) → ds ≡ deps doc n
    → flat_map (duplicate_at doc n) ds ≡ duplicate_bindings doc n
unfolding duplicate_bindings
duplicates_are doc n ds e =
    ap (flat_map (duplicate_at doc n)) e
    ∙ sym (as_flat (λ (d : Dependency). many_in doc n d d.found) (duplicate_at doc n)
    (λ d. agree (many_in doc n d) (where_many doc n d) (record {
      one = λ o r. refl;
      many = λ os. refl;
      sets = λ os. refl;
      maps = λ os. refl;
      optional = refl;
      scope = λ i. refl;
      nothing = refl;
    }) d.found) (deps doc n))

abbrev bad_scope_in : Doc → Node → Dependency → Found → Option Violation
bad_scope_in doc n d (found.BadScope i) =
    Some (at_request rule.IncompatiblyScopedBindings (scoped_class_text doc i) doc n d)
bad_scope_in doc n d other = None

pub bad_scopes_are : (doc : Doc) (n : Node) (ds : List Dependency) → ds ≡ deps doc n
    → flat_map (bad_scope_at doc n) ds ≡ incompatibly_scoped_bindings doc n
unfolding incompatibly_scoped_bindings
bad_scopes_are doc n ds e =
    ap (flat_map (bad_scope_at doc n)) e
    ∙ sym (as_flat (λ (d : Dependency). bad_scope_in doc n d d.found) (bad_scope_at doc n)
    (λ d. agree (bad_scope_in doc n d) (where_bad_scope doc n d) (record {
      one = λ o r. refl;
      many = λ os. refl;
      sets = λ os. refl;
      maps = λ os. refl;
      optional = refl;
      scope = λ i. refl;
      nothing = refl;
    }) d.found) (deps doc n))
