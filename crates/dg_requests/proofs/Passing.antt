-- The producer behind a slot is that behind the slot which it passes on.
use Rattle.std.proofs.Common.{◌≡◌, ℕ, Bool, true, false, List, [], Contains, Option, Some, None, option_and_then, refl, sym, ap, subst, ◌∙◌}
use Rattle.std.specs.Option.{option_map_or}
use Rattle.std.proofs.lemmas.Bool.{false≢true}
use Rattle.std.proofs.lemmas.Option.{none-some}
use Rattle.dg_lex.specs.Bytes.{Bytes}
use Rattle.dg_types.specs.Texts.{key_text}
use Rattle.dg_types.specs.declared.key.Core.{Core}
use Rattle.dg_types.specs.declared.key.Core.TheVariants as core
use Rattle.dg_types.specs.declared.key.Key.{Key}
use Rattle.dg_decl.specs.declared.document.Doc.{Doc}
use Rattle.dg_decl.specs.declared.binding.BindRef.{BindRef}
use Rattle.dg_decl.specs.declared.binding.BindRef.TheVariants as binding
use Rattle.dg_decl.specs.declared.graph.Node.{Node}
use Rattle.dg_decl.specs.declared.graph.NodeKind.{NodeKind}
use Rattle.dg_decl.specs.declared.graph.NodeKind.TheVariants as node
use Rattle.dg_decl.specs.declared.item.Item.{Item}
use Rattle.dg_decl.specs.declared.item.Item.TheVariants as item
use Rattle.dg_decl.specs.declared.violation.Rule.TheVariants as rule
use Rattle.dg_decl.specs.Diagnostics.{IsAccepted}
use Rattle.dg_decl.specs.Names.{item_at}
use Rattle.dg_decl.specs.Graph.{Dependency, deps, target, node_of, nodes}
use Rattle.dg_decl.specs.Sizes.{item_of_node, scope_of_item, scope_of, is_produces_item, is_producer, is_unscoped_binds, is_production}
use Rattle.dg_decl.specs.Stages.Bindings.{at_request, missing_binding, duplicate_bindings, incompatibly_scoped_bindings, incompatibly_scoped_member, map_keys, is_provision_item, is_provision, is_production_found, depends_on_production, bindings_at, bindings_stage}
use Rattle.dg_decl.proofs.GraphLemmas.{productions_by_short_walks, target_is_node}
use Rattle.dg_decl.proofs.MemberLemmas.{the_one, in_filter_map, out_filter_map}
use Rattle.dg_slots.specs.declared.body.NExpr.{NExpr, out-NExpr}
use Rattle.dg_slots.specs.declared.body.NExpr.TheVariants as nexpr
use Rattle.dg_slots.specs.declared.body.NCond.TheOpen.{NExpr-F}
use Rattle.dg_slots.specs.declared.body.NCond.TheViews.{out-roll-NExpr}
use Rattle.dg_slots.specs.declared.body.NTree.{out-NTree}
use Rattle.dg_slots.specs.declared.body.NTree.TheVariants as ntree
use Rattle.dg_slots.specs.declared.body.NTree.TheOpen.{NTree-F}
use Rattle.dg_slots.specs.declared.body.NTree.TheViews.{out-roll-NTree}
use Rattle.dg_slots.specs.declared.plan.CellKind.TheVariants as cell
use Rattle.dg_slots.specs.Plans.{one_param, body_of_item, body_of_binding, body_of_multi, body_of_node, cell_of}
use Rattle.dg_eval.proofs.AcceptedDepth.{stages_of_accepted, nil_left, nil_right, flat_nil}
use Rattle.dg_eval.proofs.InstanceLemmas.{none_there}
use Rattle.dg_requests.specs.Contexts.{is_kept, is_producing, is_first_param_at, gives_first_param_at, gives_first_param, IsBound}
use Rattle.dg_requests.proofs.NodeKinds.{IsMember, IsInjected, BindingFits, KindFits, node_fits}
use Rattle.dg_requests.proofs.LookUps.{IsFoundAs, needs_lead}
use Rattle.dg_requests.proofs.Productions.{passed_production, production_passes, Passes, passed_to, to_passed, OneInstance, passing_one}

-- ---- cells

kept_by : (o : Option Bytes) (b : Bool)
    → is_kept (option_map_or (λ scope. cell.Scoped) o
    (elim b [ true ↦ cell.Producing | false ↦ cell.Plain ])) ≡ false
    → (o ≡ None) × (b ≡ false)
kept_by (Some s) b e = absurd (false≢true (sym e))
kept_by None true e = absurd (false≢true (sym e))
kept_by None false e = (refl, refl)

pub plain_cell : (doc : Doc) (n : Node) → is_kept (cell_of doc n) ≡ false
    → (scope_of doc n ≡ None) × (is_producer doc n ≡ false)
plain_cell doc n e = kept_by (scope_of doc n) (is_producer doc n) e

plain_by : (o : Option Bytes) (b : Bool) → o ≡ None → b ≡ false
    → is_kept (option_map_or (λ scope. cell.Scoped) o
    (elim b [ true ↦ cell.Producing | false ↦ cell.Plain ])) ≡ false
plain_by (Some s) b e f = absurd (none-some s (sym e))
plain_by None true e f = absurd (false≢true (sym f))
plain_by None false e f = refl

producing_by : (o : Option Bytes) (b : Bool)
    → is_producing (option_map_or (λ scope. cell.Scoped) o
    (elim b [ true ↦ cell.Producing | false ↦ cell.Plain ])) ≡ true → b ≡ true
producing_by (Some s) b e = absurd (false≢true e)
producing_by None true e = refl
producing_by None false e = absurd (false≢true e)

pub producing_cell : (doc : Doc) (n : Node) → is_producing (cell_of doc n) ≡ true
    → is_producer doc n ≡ true
producing_cell doc n e = producing_by (scope_of doc n) (is_producer doc n) e

no_scope : (o : Option Item) → option_map_or is_produces_item o false ≡ true
    → option_and_then scope_of_item o ≡ None
no_scope None e = refl
no_scope (Some x) e = of_item x e
  where
    of_item : (x : Item) → is_produces_item x ≡ true → scope_of_item x ≡ None
    of_item (item.Produces mark n params result body) e = refl
    of_item other e = absurd (false≢true e)

has_cell : (o : Option Bytes) (b : Bool) → o ≡ None → b ≡ true
    → is_producing (option_map_or (λ scope. cell.Scoped) o
    (elim b [ true ↦ cell.Producing | false ↦ cell.Plain ])) ≡ true
has_cell (Some s) b e f = absurd (none-some s (sym e))
has_cell None true e f = refl
has_cell None false e f = absurd (false≢true f)

pub no_producer : (doc : Doc) (n : Node) → is_producing (cell_of doc n) ≡ false
    → is_producer doc n ≡ false
no_producer doc n e = by_test (is_producer doc n) refl
  where
    by_test : (b : Bool) → is_producer doc n ≡ b → is_producer doc n ≡ false
    by_test false h = h
    by_test true h = absurd (false≢true (sym e ∙ has_cell (scope_of doc n) (is_producer doc n)
        (no_scope (item_of_node doc n) h) h))

-- ---- bodies

out_leaf : (e : NExpr) → out-NTree (ntree.Leaf e) ≡ NTree-F.Leaf e
out_leaf e = ap out-NTree (sym (ntree.rolls-Leaf e)) ∙ out-roll-NTree (NTree-F.Leaf e)

out_param : (p : ℕ) → out-NExpr (nexpr.Param p) ≡ NExpr-F.Param p
out_param p = ap out-NExpr (sym (nexpr.rolls-Param p)) ∙ out-roll-NExpr (NExpr-F.Param p)

one_gives : gives_first_param one_param ≡ true
one_gives =
    ap gives_first_param_at (out_leaf (nexpr.Param 0)) ∙ ap is_first_param_at (out_param 0)

binds_body : (doc : Doc) (m : ℕ) (x : Item) → is_unscoped_binds x ≡ true
    → gives_first_param (body_of_item doc m x) ≡ true
binds_body doc m (item.Binds mk scope n param result) e = one_gives
binds_body doc m other e = absurd (false≢true e)

passing_body : (doc : Doc) (b : BindRef) → Passes doc b
    → gives_first_param (body_of_binding doc b) ≡ true
passing_body doc (binding.Exposed dep entry) passes = one_gives
passing_body doc (binding.Member m) passes =
    ap (λ (o : Option Item). gives_first_param (option_map_or (body_of_item doc m) o one_param))
    passes.1 ∙ binds_body doc m passes.0 passes.2
passing_body doc (binding.ClassItem m) passes = absurd passes
passing_body doc (binding.Arg a) passes = absurd passes
passing_body doc binding.Default passes = absurd passes

binds_scope : (x : Item) → is_unscoped_binds x ≡ true → scope_of_item x ≡ None
binds_scope (item.Binds mk None n param result) e = refl
binds_scope other e = absurd (false≢true e)

passing_scope : (doc : Doc) (class : ℕ) (b : BindRef) → Passes doc b
    → scope_of doc (node_of class (node.Bound b)) ≡ None
passing_scope doc class (binding.Exposed dep entry) passes = refl
passing_scope doc class (binding.Member m) passes =
    ap (option_and_then scope_of_item) passes.1 ∙ binds_scope passes.0 passes.2
passing_scope doc class (binding.ClassItem m) passes = absurd passes
passing_scope doc class (binding.Arg a) passes = absurd passes
passing_scope doc class binding.Default passes = absurd passes

-- ---- the rule on productions

rule_is : (doc : Doc) (class : ℕ) (b : BindRef) (d : Dependency)
    → Contains (deps doc (node_of class (node.Bound b))) d
    → is_provision doc (node_of class (node.Bound b)) ≡ true → is_production_found doc d ≡ true
    → Contains (depends_on_production doc (node_of class (node.Bound b)))
    (at_request rule.DependsOnProduction (key_text d.key) doc (node_of class (node.Bound b)) d)
unfolding depends_on_production
rule_is doc class b d c h f =
    in_filter_map _ (deps doc (node_of class (node.Bound b))) d _ c (rw (h, f) refl)

pub rule_holds : (doc : Doc) → IsAccepted doc → (n : Node) → Contains (nodes doc) n
    → depends_on_production doc n ≡ []
unfolding bindings_stage bindings_at
rule_holds doc accepted n among =
    let here = flat_nil (bindings_at doc) (nodes doc) n (stages_of_accepted doc accepted).bindings
    among in
    let a = nil_right (missing_binding doc n) _ here in
    let b = nil_right (duplicate_bindings doc n) _ a in
    let c = nil_right (incompatibly_scoped_bindings doc n) _ b in
    let d = nil_right (incompatibly_scoped_member doc n) _ c in
    let e = nil_right (map_keys doc n) _ d in
    nil_left (depends_on_production doc n) _ e

pub is_never : (b : Bool) → (b ≡ true → ⊥) → b ≡ false
is_never true h = absurd (h refl)
is_never false h = refl

provision_no : (doc : Doc) → IsAccepted doc → (class : ℕ) (b : BindRef) (d : Dependency) (t : Node)
    → Contains (nodes doc) (node_of class (node.Bound b))
    → Contains (deps doc (node_of class (node.Bound b))) d → target d ≡ Some t
    → is_provision doc (node_of class (node.Bound b)) ≡ true → is_production doc t ≡ false
provision_no doc accepted class b d t among c is h =
    is_never (is_production doc t) (λ production.
    none_there _ _ (rule_holds doc accepted (node_of class (node.Bound b)) among)
    (rule_is doc class b d c h
    (ap (λ (o : Option Node). option_map_or (is_production doc) o false) is ∙ production)))

passing_no : (doc : Doc) (class : ℕ) (b : BindRef) (d : Dependency) (t : Node)
    → Contains (nodes doc) (node_of class (node.Bound b))
    → Contains (deps doc (node_of class (node.Bound b))) d → target d ≡ Some t → Passes doc b
    → is_production doc (node_of class (node.Bound b)) ≡ false → is_production doc t ≡ false
passing_no doc class b d t among c is passes fails =
    let there = in_filter_map target (deps doc (node_of class (node.Bound b))) d t c is in
    is_never (is_production doc t) (λ production. false≢true (sym fails
    ∙ passed_production doc (node_of class (node.Bound b)) t among
    (target_is_node doc (node_of class (node.Bound b)) t among there)
    (to_passed doc class b t passes there) production))

-- what is no production and gives its first parameter takes it from no production
abbrev pub TakesNone : Doc → ℕ → NodeKind → Dependency → Node → Type 0
TakesNone doc class kind d t =
    Contains (nodes doc) (node_of class kind) → Contains (deps doc (node_of class kind)) d
    → target d ≡ Some t → is_production doc (node_of class kind) ≡ false
    → is_kept (cell_of doc (node_of class kind)) ≡ false
    → gives_first_param (body_of_node doc (node_of class kind)) ≡ true → is_production doc t ≡ false

member_takes : (doc : Doc) → IsAccepted doc → (class m : ℕ) (d : Dependency) (t : Node) (x : Item)
    → item_at doc m ≡ Some x → IsMember x
    → TakesNone doc class (node.Bound (binding.Member m)) d t
member_takes doc accepted class m d t (item.Provides mk scope n params result e) at is among c found fails plain body =
    provision_no doc accepted class (binding.Member m) d t among c found
    (ap (λ (o : Option Item). option_map_or is_provision_item o false) at)
member_takes doc accepted class m d t (item.Produces mk n params result e) at is among c found fails plain body =
    absurd (false≢true (sym (plain_cell doc (node_of class (node.Bound (binding.Member m)))
    plain).1 ∙ ap (λ (o : Option Item). option_map_or is_produces_item o false) at))
member_takes doc accepted class m d t (item.Binds mk None n param result) at is among c found fails plain body =
    passing_no doc class (binding.Member m) d t among c found (_, at, refl) fails
member_takes doc accepted class m d t (item.Binds mk (Some s) n param result) at is among c found fails plain body =
    provision_no doc accepted class (binding.Member m) d t among c found
    (ap (λ (o : Option Item). option_map_or is_provision_item o false) at)
member_takes doc accepted class m d t other at is among c found fails plain body = absurd is

class_takes : (doc : Doc) → IsAccepted doc → (class m : ℕ) (d : Dependency) (t : Node)
    → BindingFits doc class (binding.ClassItem m)
    → TakesNone doc class (node.Bound (binding.ClassItem m)) d t
class_takes doc accepted class m d t fits among c found fails plain body =
    provision_no doc accepted class (binding.ClassItem m) d t among c found
    (ap (λ (o : Option Item). option_map_or is_provision_item o false) fits.1
    ∙ of_item fits.0 fits.2)
  where
    of_item : (x : Item) → IsInjected x → is_provision_item x ≡ true
    of_item (item.Class true scope n params interfaces) i = refl
    of_item other i = absurd i

multi_gives_none : (doc : Doc) (class : ℕ) (key : Key) (c : Core)
    → gives_first_param (body_of_multi doc class key c) ≡ false
multi_gives_none doc class key (core.Map k b form) = refl
multi_gives_none doc class key other = refl

pub takes_none : (doc : Doc) → IsAccepted doc → (class : ℕ) (kind : NodeKind) (d : Dependency) (t : Node)
    → KindFits doc class kind → TakesNone doc class kind d t
takes_none doc accepted class (node.Bound (binding.Member m)) d t fits among c found fails plain body =
    member_takes doc accepted class m d t fits.0 fits.1 fits.2 among c found fails plain body
takes_none doc accepted class (node.Bound (binding.ClassItem m)) d t fits among c found fails plain body =
    class_takes doc accepted class m d t fits among c found fails plain body
takes_none doc accepted class (node.Bound (binding.Arg a)) d t fits among c found fails plain body =
    absurd (false≢true body)
takes_none doc accepted class (node.Bound binding.Default) d t fits among c found fails plain body =
    absurd (false≢true body)
takes_none doc accepted class (node.Bound (binding.Exposed dep entry)) d t fits among c found fails plain body =
    passing_no doc class (binding.Exposed dep entry) d t among c found tt fails
takes_none doc accepted class (node.Multi key) d t fits among c found fails plain body =
    absurd (false≢true (sym (multi_gives_none doc class key key.core) ∙ body))
takes_none doc accepted class (node.Opt key) d t fits among c found fails plain body =
    absurd (false≢true body)
takes_none doc accepted class (node.EntryOf e) d t fits among c found fails plain body =
    absurd (false≢true body)

-- ---- productions

-- a production that is no producer: its one dependency leads to a production that is bound
pub record TakesOne (doc : Doc) (n : Node) : Type 0 where
  pub one : OneInstance doc n
  pub plain : is_kept (cell_of doc n) ≡ false
  pub body : gives_first_param (body_of_node doc n) ≡ true
  pub to : Node
  pub is_target : target one.only ≡ Some to
  pub production : is_production doc to ≡ true
  pub bound : IsBound to.kind

pub bound_only : (c : Core) (k : NodeKind) (b : _) → c ≡ core.One b → IsFoundAs c k → IsBound k
bound_only c (node.Bound r) b e h = tt
bound_only c (node.Multi key) b e h =
    let P : Core → Type 0 = λ c. IsFoundAs c (node.Multi key) in (subst P e h).0
bound_only c (node.Opt key) b e h =
    let P : Core → Type 0 = λ c. IsFoundAs c (node.Opt key) in subst P e h
bound_only c (node.EntryOf i) b e h = h

pub takes_one : (doc : Doc) → IsAccepted doc → (class : ℕ) (b : BindRef)
    → Contains (nodes doc) (node_of class (node.Bound b))
    → is_producer doc (node_of class (node.Bound b)) ≡ false
    → is_production doc (node_of class (node.Bound b)) ≡ true
    → TakesOne doc (node_of class (node.Bound b))
takes_one doc accepted class b among fails is =
    let n : Node = node_of class (node.Bound b) in
    let fits = node_fits doc (node_of class (node.Bound b)) among in
    let p = production_passes doc (node_of class (node.Bound b)) among fails is in
    let w = passed_to doc class b p.0 fits p.1 in
    let one = passing_one doc accepted class b fits w.1 in
    let there = target_is_node doc (node_of class (node.Bound b)) p.0 among w.0 in
    let d = out_filter_map target (deps doc (node_of class (node.Bound b))) p.0 w.0 in
    let P : List Dependency → Type 0 = λ ds. Contains ds d.0 in
    let same : one.only ≡ d.0 = the_one d.0 one.only (subst P one.are d.1) in
    record {
      one = one;
      plain = plain_by (scope_of doc (node_of class (node.Bound b)))
          (is_producer doc (node_of class (node.Bound b))) (passing_scope doc class b w.1) fails;
      body = passing_body doc b w.1;
      to = p.0;
      is_target = ap target same ∙ d.2;
      production = (productions_by_short_walks doc p.0 there).1 p.2;
      bound = bound_only d.0.key.core p.0.kind one.base
          (sym (ap (λ (d : Dependency). d.key.core) same) ∙ one.key)
          (needs_lead doc class (node.Bound b) d.0 d.1 p.0 d.2);
    }
