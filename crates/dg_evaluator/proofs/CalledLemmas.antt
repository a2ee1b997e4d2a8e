-- The parameters that a body calls by `get` or `await` were given what may be awaited.
use Rattle.std.proofs.Common.{◌≡◌, ℕ, true, not, List, [], ◌∷◌, ◌++◌, length, map, Contains, Option, Some, None, option_and_then, slice_get, Ok, unwrap_or, refl, sym, ap, subst, ◌∙◌}
use Rattle.std.specs.List.{range_with_len}
use Rattle.std.specs.Option.{option_map_or}
use Rattle.dg_decl.specs.declared.document.Doc.{Doc}
use Rattle.dg_decl.specs.declared.binding.BindRef.TheVariants as binding
use Rattle.dg_decl.specs.declared.graph.NodeKind.{NodeKind}
use Rattle.dg_decl.specs.declared.graph.NodeKind.TheVariants as node
use Rattle.dg_decl.specs.declared.item.Item.{Item}
use Rattle.dg_decl.specs.declared.item.Item.TheVariants as item
use Rattle.dg_decl.specs.Diagnostics.{IsAccepted}
use Rattle.dg_decl.specs.Graph.{deps, node_of, nodes}
use Rattle.dg_decl.specs.Names.{item_at}
use Rattle.dg_decl.proofs.MemberLemmas.{in_got, none_in}
use Rattle.dg_slots.specs.declared.body.NExpr.{NExpr}
use Rattle.dg_slots.specs.declared.body.NExpr.TheVariants as nexpr
use Rattle.dg_slots.specs.declared.body.NCond.TheOpen.{NExpr-F}
use Rattle.dg_slots.specs.declared.body.NTree.{NTree}
use Rattle.dg_slots.specs.declared.body.NTree.TheOpen.{NTree-F}
use Rattle.dg_slots.specs.declared.body.NTree.TheVariants as ntree
use Rattle.dg_slots.specs.declared.plan.Body.TheVariants as body
use Rattle.dg_slots.specs.Numbered.{number_of_class_item}
use Rattle.dg_slots.specs.Plans.{one_param, body_of_item, body_of_multi, is_empty, body_of_node}
use Rattle.dg_value.specs.declared.place.Place.{Place}
use Rattle.dg_value.specs.declared.value.Value.{Value}
use Rattle.dg_eval.specs.Runs.{Asked}
use Rattle.dg_eval.specs.Bodies.{Part, called_of, expr_part, tree_part}
use Rattle.dg_eval.specs.Meaning.{Eval, body_of}
use Rattle.dg_eval.specs.At.{calls_of}
use Rattle.dg_requests.specs.Contexts.{AwaitFits}
use Rattle.dg_requests.specs.Scopes.{Scope}
use Rattle.dg_requests.proofs.Awaits.{given_fits}
use Rattle.dg_requests.proofs.ContextLemmas.{in_class_is}
use Rattle.dg_requests.proofs.NodeKinds.{IsInjected, KindFits, node_fits}
use Rattle.dg_evaluator.specs.Answers.{HasBody}
use Rattle.dg_evaluator.proofs.BodyOfSlot.{tree_is, expr_is, param_part, run_tree, not_run, multi_not_run}
use Rattle.dg_evaluator.proofs.SlotLemmas.{WasGiven}

-- ---- bodies without calls

leaf_called : (e : NExpr) → (tree_part (ntree.Leaf e)).called ≡ (expr_part e).called
leaf_called e =
    ap (λ (p : Part _). p.called) (tree_is (ntree.Leaf e) (NTree-F.Leaf e) (ntree.rolls-Leaf e))

param_called : (p : ℕ) → (expr_part (nexpr.Param p)).called ≡ []
param_called p = ap (λ (p : Part Value). p.called) (param_part p)

params_called : (ps : List ℕ) → called_of (map expr_part (map nexpr.Param ps)) ≡ []
params_called [] = refl
params_called (p ∷ ps) = λ i. param_called p i ++ params_called ps i

new_called : (class : ℕ) (ps : List ℕ)
    → (expr_part (nexpr.New class (map nexpr.Param ps))).called ≡ []
new_called class ps =
    ap (λ (p : Part Value). p.called)
    (expr_is (nexpr.New class (map nexpr.Param ps)) (NExpr-F.New class (map nexpr.Param ps))
    (nexpr.rolls-New class (map nexpr.Param ps)))
    ∙ params_called ps

-- a tree that calls nothing
abbrev Quiet : NTree → Type 0
Quiet t = (tree_part t).called ≡ []

one_param_quiet : Quiet (ntree.Leaf (nexpr.Param 0))
one_param_quiet = leaf_called (nexpr.Param 0) ∙ param_called 0

quiet_calls : {P : Type 0} (s t : NTree) (p : ℕ) → Quiet s → body.Run s ≡ body.Run t
    → Contains (tree_part t).called p → P
quiet_calls s t p quiet e c =
    let Q : List ℕ → Type 0 = λ l. Contains l p in
    absurd (none_in p (subst Q (ap (λ (t : NTree). (tree_part t).called) (sym (ap run_tree e))
    ∙ quiet) c))

construction_quiet : (doc : Doc) (m count : ℕ)
    → Quiet (ntree.Leaf (nexpr.New (unwrap_or (number_of_class_item doc m) 0)
    (map nexpr.Param (range_with_len 0 count))))
construction_quiet doc m count =
    leaf_called (nexpr.New (unwrap_or (number_of_class_item doc m) 0)
    (map nexpr.Param (range_with_len 0 count)))
    ∙ new_called (unwrap_or (number_of_class_item doc m) 0) (range_with_len 0 count)

-- ---- the calls of a node

same_called : (s t : NTree) (p : ℕ) → body.Run s ≡ body.Run t → Contains (tree_part t).called p
    → Contains (tree_part s).called p
same_called s t p e c =
    let Q : NTree → Type 0 = λ u. Contains (tree_part u).called p in
    subst Q (sym (ap run_tree e)) c

-- what the body of a member calls
abbrev ItemCalls : Doc → Option Item → List ℕ
ItemCalls doc o =
    option_map_or (λ body. (tree_part body).called) (option_and_then (body_of doc) o) []

item_calls : (doc : Doc) (m : ℕ) (t : NTree) (p : ℕ) (x : Item)
    → body_of_item doc m x ≡ body.Run t → Contains (tree_part t).called p
    → Contains (ItemCalls doc (Some x)) p
item_calls doc m t p (item.Provides mk scope n params result e) h c = same_called _ t p h c
item_calls doc m t p (item.Produces mk n params result e) h c = same_called _ t p h c
item_calls doc m t p (item.Class inject scope n params interfaces) h c =
    quiet_calls _ t p (construction_quiet doc m (length params)) h c
item_calls doc m t p other h c = quiet_calls (ntree.Leaf (nexpr.Param 0)) t p one_param_quiet h c

member_calls : (doc : Doc) (m : ℕ) (t : NTree) (p : ℕ) (o : Option Item)
    → option_map_or (body_of_item doc m) o one_param ≡ body.Run t → Contains (tree_part t).called p
    → Contains (ItemCalls doc o) p
member_calls doc m t p None h c =
    quiet_calls (ntree.Leaf (nexpr.Param 0)) t p one_param_quiet h c
member_calls doc m t p (Some x) h c = item_calls doc m t p x h c

class_calls : {P : Type 0} (doc : Doc) (m : ℕ) (t : NTree) (p : ℕ) (x : Item) → IsInjected x
    → body_of_item doc m x ≡ body.Run t → Contains (tree_part t).called p → P
class_calls doc m t p (item.Class true scope n params interfaces) is h c =
    quiet_calls _ t p (construction_quiet doc m (length params)) h c
class_calls doc m t p other is h c = absurd is

kind_calls : (doc : Doc) (class : ℕ) (kind : NodeKind) (t : NTree) (p : ℕ)
    → KindFits doc class kind → body_of_node doc (node_of class kind) ≡ body.Run t
    → Contains (tree_part t).called p → Contains (calls_of doc (node_of class kind)) p
kind_calls doc class (node.Bound (binding.Member m)) t p fits h c =
    member_calls doc m t p (item_at doc m) h c
kind_calls doc class (node.Bound (binding.ClassItem m)) t p fits h c =
    class_calls doc m t p fits.0 fits.2
    (sym (ap (λ (o : Option Item). option_map_or (body_of_item doc m) o one_param) fits.1) ∙ h) c
kind_calls doc class (node.Bound (binding.Arg a)) t p fits h c = not_run (body.Arg a) t refl h
kind_calls doc class (node.Bound binding.Default) t p fits h c = not_run (body.Arg 0) t refl h
kind_calls doc class (node.Bound (binding.Exposed dep entry)) t p fits h c =
    quiet_calls (ntree.Leaf (nexpr.Param 0)) t p one_param_quiet h c
kind_calls doc class (node.Multi key) t p fits h c =
    not_run (body_of_multi doc class key key.core) t (multi_not_run doc class key key.core) h
kind_calls doc class (node.Opt key) t p fits h c =
    not_run (body.Opt (not (is_empty (deps doc (node_of class (node.Opt key)))))) t refl h
kind_calls doc class (node.EntryOf e) t p fits h c = not_run body.EntryOf t refl h

-- ---- what was given

pub run_awaits : (s : Scope) → IsAccepted s.doc → (f : Eval) (i k : ℕ) (q : Place) (t : NTree)
    → (a b : Option (List Asked)) (vs ws : List Value) (p : ℕ) (v : Value) → ws ≡ vs
    → HasBody s.doc i k (body.Run t) → WasGiven s f i k q a b (Ok vs)
    → Contains (tree_part t).called p → slice_get ws p ≡ Some v → AwaitFits s.doc v
run_awaits s accepted f i k q t a b vs ws p v e has h called at =
    given_fits s.doc accepted f i k p has.node q vs v has.is_node
    (kind_calls s.doc has.node.class has.node.kind t p
    (node_fits s.doc has.node (in_got (nodes s.doc) k has.node
    (in_class_is s.doc i k has.node has.is_node).0)) has.is_body called)
    (h has.node has.is_node).gave (sym (ap (λ (l : List Value). slice_get l p) e) ∙ at)
