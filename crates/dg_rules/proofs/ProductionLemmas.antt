-- What requests for productions break, and whether what a node needs has one.
use Rattle.std.proofs.Common.{◌≡◌, ℕ, ◌<◌, Bool, true, false, ◌&&◌, ◌||◌, List, length, get_or, map, filter_map, flat_map, Some, None, option_to_list, if◌then◌else◌, refl, sym, ap, ◌∙◌}
use Rattle.std.specs.List.{list_any}
use Rattle.dg_types.specs.Texts.{key_text}
use Rattle.dg_decl.specs.declared.document.Doc.{Doc}
use Rattle.dg_decl.specs.declared.graph.Node.{Node}
use Rattle.dg_decl.specs.declared.violation.Rule.TheVariants as rule
use Rattle.dg_decl.specs.declared.violation.Violation.{Violation}
use Rattle.dg_decl.specs.Graph.{Dependency, deps, target, targets}
use Rattle.dg_decl.specs.Sizes.{is_production}
use Rattle.dg_decl.specs.Stages.Bindings.{at_request, is_provision, is_provider_mode, is_production_found}
use Rattle.dg_rules.specs.Requests.{where_produced, production_at}
use Rattle.dg_rules.proofs.ListLemmas.{as_flat, any_given, read_there}

where_so : (doc : Doc) (n : Node) (d : Dependency) (b : Bool)
    → option_to_list (if b then Some (at_request rule.DependsOnProduction (key_text d.key) doc n d)
    else None) ≡ where_produced doc n d b
where_so doc n d true = refl
where_so doc n d false = refl

-- the requests that break the rule, one after another
abbrev pub broken_requests : Doc → Node → List Dependency → List Violation
broken_requests doc n ds =
    filter_map (λ d. if (is_provision doc n || is_provider_mode d.mode) && is_production_found doc d
    then Some (at_request rule.DependsOnProduction (key_text d.key) doc n d) else None) ds

pub productions_are : (doc : Doc) (n : Node) (ds : List Dependency) → ds ≡ deps doc n
    → flat_map (production_at doc n) ds ≡ broken_requests doc n (deps doc n)
productions_are doc n ds e =
    ap (flat_map (production_at doc n)) e
    ∙ sym (as_flat _ (production_at doc n) (λ d. where_so doc n d
    ((is_provision doc n || is_provider_mode d.mode) && is_production_found doc d)) (deps doc n))

pub any_target : (doc : Doc) (n : Node)
    → list_any (λ b. b) (map (is_production_found doc) (deps doc n))
    ≡ list_any (is_production doc) (targets doc n)
any_target doc n = any_given (is_production doc) target (deps doc n)

pub told_there : (doc : Doc) (ds : List Dependency) (told : List Bool) (i : ℕ) (d : Dependency)
    → told ≡ map (is_production_found doc) ds → i < length ds → get_or ds i d ≡ d
    → get_or told i false ≡ is_production_found doc d
told_there doc ds told i d all lt at =
    ap (λ (bs : List Bool). get_or bs i false) all
    ∙ read_there (is_production_found doc) ds i d lt at
