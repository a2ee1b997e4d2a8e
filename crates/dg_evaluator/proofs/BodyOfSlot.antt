-- In an accepted document the body of a slot says where its node ends.
use Rattle.std.proofs.Common.{◌≡◌, ℕ, suc, ◌+◌, Bool, true, false, not, List, [], ◌∷◌, ◌++◌, length, map, filter, filter_map, slice_get, Option, Some, None, Ok, Err, option_map, option_to_list, unwrap_or, refl, sym, ap, subst, ◌∙◌, append_assoc, arith}
use Rattle.std.specs.List.{cons_option, enumerate_from, range_with_len}
use Rattle.std.specs.Option.{option_map_or}
use Rattle.std.proofs.lemmas.Bool.{false≢true}
use Rattle.std.proofs.lemmas.List.{length-map, append-nil}
use Rattle.std.proofs.lemmas.List.FromFn.{length-enumerate_from}
use Rattle.dg_types.specs.declared.key.Core.{Core}
use Rattle.dg_types.specs.declared.key.Core.TheVariants as core
use Rattle.dg_lex.specs.Bytes.{Bytes}
use Rattle.dg_types.specs.declared.key.Key.{Key}
use Rattle.dg_types.specs.Requests.{is_plain_use}
use Rattle.dg_decl.specs.declared.document.Doc.{Doc}
use Rattle.dg_decl.specs.declared.binding.BindRef.TheVariants as binding
use Rattle.dg_decl.specs.declared.graph.Node.{Node}
use Rattle.dg_decl.specs.declared.graph.NodeKind.{NodeKind}
use Rattle.dg_decl.specs.declared.graph.NodeKind.TheVariants as node
use Rattle.dg_decl.specs.declared.item.Item.{Item}
use Rattle.dg_decl.specs.declared.item.Item.TheVariants as item
use Rattle.dg_decl.specs.declared.item.Param.{Param}
use Rattle.dg_decl.specs.Diagnostics.{IsAccepted}
use Rattle.dg_decl.specs.Names.{item_at, params_of}
use Rattle.dg_decl.specs.Graph.{Dependency, of_param, of_entry, deps, node_of, nodes}
use Rattle.dg_decl.specs.Components.{deps_of}
use Rattle.dg_decl.specs.Stages.Types.{Placed, each_placed, types_of}
use Rattle.dg_decl.proofs.MemberLemmas.{in_got}
use Rattle.dg_slots.specs.declared.body.NExpr.{NExpr}
use Rattle.dg_slots.specs.declared.body.NExpr.TheVariants as nexpr
use Rattle.dg_slots.specs.declared.body.NCond.{NCond}
use Rattle.dg_slots.specs.declared.body.NCond.TheOpen.{NExpr-F}
use Rattle.dg_slots.specs.declared.body.NCond.TheViews.{roll-NExpr}
use Rattle.dg_slots.specs.declared.body.NCond.TheFolds.{map-NExpr, fold-roll-NExpr}
use Rattle.dg_slots.specs.declared.body.NTree.{NTree}
use Rattle.dg_slots.specs.declared.body.NTree.TheVariants as ntree
use Rattle.dg_slots.specs.declared.body.NTree.TheOpen.{NTree-F}
use Rattle.dg_slots.specs.declared.body.NTree.TheViews.{roll-NTree}
use Rattle.dg_slots.specs.declared.body.NTree.TheFolds.{map-NTree, fold-roll-NTree}
use Rattle.dg_slots.specs.declared.plan.Body.{Body}
use Rattle.dg_slots.specs.declared.plan.Body.TheVariants as body
use Rattle.dg_slots.specs.Numbered.{number_of_class_item}
use Rattle.dg_slots.specs.Plans.{one_param, construction, body_of_item, body_of_binding, body_of_multi, is_empty, body_of_node}
use Rattle.dg_value.specs.declared.place.Place.{Place}
use Rattle.dg_value.specs.declared.place.PlaceStep.TheVariants as step
use Rattle.dg_value.specs.declared.value.Value.{Value}
use Rattle.dg_value.specs.declared.value.Value.TheVariants as value
use Rattle.dg_value.specs.Places.{then_step}
use Rattle.dg_eval.specs.Runs.{Asked, Run, gives, before, and_then, both, all, in_order, mistyped}
use Rattle.dg_eval.specs.Operations.{or_mistyped, only_of}
use Rattle.dg_eval.specs.Bodies.{End, value_end, Around, Part, runs_of, cond_at, expr_at, expr_part, cond_part, tree_at, tree_part}
use Rattle.dg_eval.specs.Meaning.{node_at, Eval, given_one, given, param_in, around, end_with, object_of, member_end}
use Rattle.dg_eval.proofs.AcceptedDepth.{stages_of_accepted}
use Rattle.dg_eval.proofs.CallLemmas.{HasRequest, plain_asks, params_ask, asked_for, all_asked, item_fits}
use Rattle.dg_eval.proofs.RunResults.{Each}
use Rattle.dg_evaluator.specs.Ends.{end_of_node}
use Rattle.dg_requests.proofs.NodeKinds.{IsMember, IsInjected, KindFits, node_fits}

-- ---- runs that go on

before_before : {A : Type 0} (xs ys : List Asked) (r : Run A)
    → before (xs ++ ys) r ≡ before xs (before ys r)
before_before xs ys None = refl
before_before xs ys (Some (r, more)) =
    ap (λ (l : List Asked). Some (r, l)) (append_assoc xs ys more)

before_then : {A B : Type 0} (xs : List Asked) (r : Run A) (f : A → Run B)
    → and_then (before xs r) f ≡ before xs (and_then r f)
before_then xs None f = refl
before_then xs (Some (Ok a, more)) f = before_before xs more (f a)
before_then xs (Some (Err e, more)) f = refl

pub then_then : {A B C : Type 0} (r : Run A) (f : A → Run B) (g : B → Run C)
    → and_then (and_then r f) g ≡ and_then r (λ a. and_then (f a) g)
then_then None f g = refl
then_then (Some (Ok a, asked)) f g = before_then asked (f a) g
then_then (Some (Err e, asked)) f g = refl

-- ---- as many values as runs

abbrev OfLength : {A : Type 0} → ℕ → Run (List A) → Type 0
OfLength n None = Unit {0}
OfLength n (Some (Ok vs, asked)) = length vs ≡ n
OfLength n (Some (Err f, asked)) = Unit {0}

both_of_length : {A : Type 0} (r : Run A) (more : Run (List A)) (n : ℕ) → OfLength n more
    → OfLength (suc n) (both r more)
both_of_length None more n h = tt
both_of_length (Some r) None n h = tt
both_of_length (Some (Ok a, asked)) (Some (Ok vs, others)) n h = ap suc h
both_of_length (Some (Ok a, asked)) (Some (Err f, others)) n h = tt
both_of_length (Some (Err f, asked)) (Some (m, others)) n h = tt

all_of_length : {A : Type 0} (rs : List (Run A)) → OfLength (length rs) (all rs)
all_of_length [] = refl
all_of_length (r ∷ rs) = both_of_length r (all rs) (length rs) (all_of_length rs)

then_same : {A B : Type 0} (r : Run (List A)) (n : ℕ) (f g : List A → Run B) → OfLength n r
    → ((vs : List A) → length vs ≡ n → f vs ≡ g vs) → and_then r f ≡ and_then r g
then_same None n f g is h = refl
then_same (Some (Ok vs, asked)) n f g is h = ap (before asked) (h vs is)
then_same (Some (Err e, asked)) n f g is h = refl

-- what goes on with what the dependencies of a node are given matters for as many values
pub given_same : {B : Type 0} (doc : Doc) (below : Eval) (i : ℕ) (n : Node) (q : Place)
    → (f g : List Value → Run B)
    → ((vs : List Value) → length vs ≡ length (deps doc n) → f vs ≡ g vs)
    → and_then (all (given doc below i n q)) f ≡ and_then (all (given doc below i n q)) g
given_same doc below i n q f g h =
    let count : length (given doc below i n q) ≡ length (deps doc n) =
    length-map (enumerate_from 0 (deps doc n))
    (λ (d : ℕ × Dependency). given_one doc below i n q (suc d.0) d.1) ∙ length-enumerate_from 0 (deps doc n) in
    then_same (all (given doc below i n q)) (length (given doc below i n q)) f g
    (all_of_length (given doc below i n q)) (λ vs is. h vs (is ∙ count))

-- ---- the body that gives its one parameter

pub tree_is : (t : NTree) (z : NTree-F NTree) → roll-NTree z ≡ t
    → tree_part t ≡ tree_at (map-NTree NTree (Part End) tree_part z)
unfolding tree_part
tree_is t z is = sym (ap tree_part is) ∙ fold-roll-NTree (Part End) tree_at z

pub expr_is : (e : NExpr) (z : NExpr-F NCond NExpr) → roll-NExpr z ≡ e
    → expr_part e
    ≡ expr_at (map-NExpr NCond NExpr (Part Bool) (Part Value) cond_part expr_part z)
unfolding cond_part expr_part
expr_is e z is = sym (ap expr_part is) ∙ fold-roll-NExpr (Part Bool) (Part Value) cond_at expr_at z

leaf_run : (e : NExpr) (s : Around)
    → (tree_part (ntree.Leaf e)).run s 0 0
    ≡ and_then ((expr_part e).run s 0 0) (λ v. gives (value_end v))
leaf_run e s =
    ap (λ (p : Part End). p.run s 0 0) (tree_is (ntree.Leaf e) (NTree-F.Leaf e) (ntree.rolls-Leaf e))

pub param_part : (p : ℕ)
    → expr_part (nexpr.Param p)
    ≡ expr_at (map-NExpr NCond NExpr (Part Bool) (Part Value) cond_part expr_part (NExpr-F.Param p))
param_part p = expr_is (nexpr.Param p) (NExpr-F.Param p) (nexpr.rolls-Param p)

pub one_param_run : (s : Around)
    → (tree_part (ntree.Leaf (nexpr.Param 0))).run s 0 0
    ≡ and_then (s.param 0) (λ v. gives (value_end v))
one_param_run s =
    leaf_run (nexpr.Param 0) s
    ∙ ap (λ (p : Part Value). and_then (p.run s 0 0) (λ v. gives (value_end v))) (param_part 0)

abbrev pub AtMostOne : {A : Type 0} → List A → Type 0
AtMostOne [] = Unit {0}
AtMostOne (x ∷ []) = Unit {0}
AtMostOne (x ∷ y ∷ xs) = ⊥

only_first : (vs : List Value) (ds : List Dependency) → length vs ≡ length ds → AtMostOne ds
    → or_mistyped (only_of vs) ≡ param_in vs 0
only_first [] ds e most = refl
only_first (v ∷ []) ds e most = refl
only_first (v ∷ w ∷ vs) [] e most = absurd (omega arith)
only_first (v ∷ w ∷ vs) (d ∷ []) e most = absurd (omega arith)
only_first (v ∷ w ∷ vs) (d ∷ c ∷ ds) e most = absurd most

-- what passes its one parameter on is the body that gives it
passes_on : (doc : Doc) (below : Eval) (depth i k : ℕ) (n : Node) (q : Place)
    → AtMostOne (deps doc n)
    → and_then (all (given doc below i n q))
    (λ vs. and_then (or_mistyped (only_of vs)) (λ v. gives (value_end v)))
    ≡ and_then (all (given doc below i n q))
    (λ vs. (tree_part (ntree.Leaf (nexpr.Param 0))).run (around doc below depth k q vs) 0 0)
passes_on doc below depth i k n q most =
    given_same doc below i n q _ _ (λ vs is.
    ap (λ (r : Run Value). and_then r (λ v. gives (value_end v)))
    (only_first vs (deps doc n) is most)
    ∙ sym (one_param_run (around doc below depth k q vs)))

-- ---- the construction of an object

new_run : (class : ℕ) (args : List NExpr) (s : Around)
    → (expr_part (nexpr.New class args)).run s 0 0
    ≡ and_then (in_order (runs_of (map expr_part args) s 1 0))
    (λ vs. gives (value.Object class (then_step s.place (step.New 1)) vs))
new_run class args s =
    ap (λ (p : Part Value). p.run s 0 0)
    (expr_is (nexpr.New class args) (NExpr-F.New class args) (nexpr.rolls-New class args))

params_run : (s : Around) (ps : List ℕ) (n c : ℕ)
    → runs_of (map expr_part (map nexpr.Param ps)) s n c ≡ map s.param ps
params_run s [] n c = refl
params_run s (p ∷ ps) n c =
    let one = ap (λ (x : Part Value). x.run s n c) (param_part p) in
    λ i. one i ∷ params_run s ps (n + (expr_part (nexpr.Param p)).news)
    (c + length (expr_part (nexpr.Param p)).called) i

first_then : (r : Run Value) (rest : Run (List Value)) (v : Value) (vs : List Value)
    → r ≡ gives v → rest ≡ gives vs
    → and_then r (λ a. and_then rest (λ more. gives (a ∷ more))) ≡ gives (v ∷ vs)
first_then r rest v vs e f =
    λ i. and_then (e i) (λ a. and_then (f i) (λ more. gives (a ∷ more)))

in_order_from : (at : ℕ → Run Value) (vs : List Value) (j : ℕ)
    → ((k : ℕ) (v : Value) → slice_get vs k ≡ Some v → at (j + k) ≡ gives v)
    → in_order (map at (range_with_len j (length vs))) ≡ gives vs
in_order_from at [] j h = refl
in_order_from at (v ∷ vs) j h =
    let here : j + 0 ≡ j = omega arith in
    first_then (at j) _ v vs (sym (ap at here) ∙ h 0 v refl)
    (in_order_from at vs (j + 1) (λ k w e.
    (let next : j + 1 + k ≡ j + suc k = omega arith in ap at next ∙ h (suc k) w e)))

params_in_order : (vs : List Value)
    → in_order (map (param_in vs) (range_with_len 0 (length vs))) ≡ gives vs
params_in_order vs =
    in_order_from (param_in vs) vs 0 (λ k v e.
    (let same : 0 + k ≡ k = omega arith in ap (param_in vs) same ∙ ap or_mistyped e))

abbrev built : ℕ → Place → List Value → Run Value
built class q vs = gives (value.Object class (then_step q (step.New 1)) vs)

-- the construction from as many parameters as there are values
builds : (s : Around) (class count : ℕ) (vs : List Value) → s.param ≡ param_in vs
    → length vs ≡ count
    → (expr_part (nexpr.New class (map nexpr.Param (range_with_len 0 count)))).run s 0 0
    ≡ built class s.place vs
builds s class count vs are is =
    new_run class (map nexpr.Param (range_with_len 0 count)) s
    ∙ ap (λ (r : Run (List Value)). and_then r (built class s.place))
    (ap in_order (params_run s (range_with_len 0 count) 1 0)
    ∙ (λ i. in_order (map (are i) (range_with_len 0 (sym is i))))
    ∙ params_in_order vs)

object_is : (doc : Doc) (c class : ℕ) (q : Place) (vs : List Value)
    → number_of_class_item doc c ≡ Some class → object_of doc c q vs ≡ built class q vs
object_is doc c class q vs e =
    ap (λ (o : Option ℕ). or_mistyped
    (option_map (λ class. value.Object class (then_step q (step.New 1)) vs) o)) e

-- what is made of the parameters of a class is what its construction gives
constructs : (doc : Doc) (below : Eval) (depth i k c class : ℕ) (n : Node) (q : Place)
    → number_of_class_item doc c ≡ Some class
    → and_then (and_then (all (given doc below i n q)) (object_of doc c q))
    (λ v. gives (value_end v))
    ≡ and_then (all (given doc below i n q))
    (λ vs. (tree_part (ntree.Leaf (nexpr.New (unwrap_or (number_of_class_item doc c) 0)
    (map nexpr.Param (range_with_len 0 (length (deps doc n))))))).run
    (around doc below depth k q vs) 0 0)
constructs doc below depth i k c class n q e =
    then_then (all (given doc below i n q)) (object_of doc c q) (λ v. gives (value_end v))
    ∙ given_same doc below i n q _ _ (λ vs is.
    ap (λ (r : Run Value). and_then r (λ v. gives (value_end v)))
    (object_is doc c class q vs e
    ∙ sym (builds (around doc below depth k q vs) class (length (deps doc n)) vs refl is))
    ∙ sym (leaf_run _ (around doc below depth k q vs))
    ∙ ap (λ (o : Option ℕ). (tree_part (ntree.Leaf (nexpr.New (unwrap_or o 0)
    (map nexpr.Param (range_with_len 0 (length (deps doc n))))))).run
    (around doc below depth k q vs) 0 0) (sym e))

-- ---- which bodies are run

abbrev pub is_run : Body → Bool
is_run (body.Run t) = true
is_run other = false

abbrev pub run_tree : Body → NTree
run_tree (body.Run t) = t
run_tree other = ntree.Leaf (nexpr.Param 0)

pub not_run : {A : Type 0} (b : Body) (t : NTree) → is_run b ≡ false → b ≡ body.Run t → A
not_run b t is e = absurd (false≢true (sym is ∙ ap is_run e))

-- what goes on with the parameters of a node by a tree
abbrev ByTree : Doc → Eval → ℕ → ℕ → ℕ → Node → Place → NTree → Run End
ByTree doc below depth i k n q t =
    and_then (all (given doc below i n q))
    (λ vs. (tree_part t).run (around doc below depth k q vs) 0 0)

same_tree : (doc : Doc) (below : Eval) (depth i k : ℕ) (n : Node) (q : Place) (s t : NTree)
    → body.Run s ≡ body.Run t
    → ByTree doc below depth i k n q s ≡ ByTree doc below depth i k n q t
same_tree doc below depth i k n q s t e =
    ap (λ (t : NTree). ByTree doc below depth i k n q t) (ap run_tree e)

-- ---- members

one_most : {A B : Type 0} (f : A → Option B) (x : A) → AtMostOne (filter_map f (x ∷ []))
one_most {A} {B} f x = by_option (f x)
  where
    by_option : (o : Option B) → AtMostOne (cons_option o [])
    by_option None = tt
    by_option (Some y) = tt

binds_most : (doc : Doc) (class m : ℕ) (x : Item) (param : Param) → item_at doc m ≡ Some x
    → params_of x ≡ param ∷ [] → AtMostOne (deps doc (node_of class (node.Bound (binding.Member m))))
unfolding deps
binds_most doc class m x param e is =
    let are : deps doc (node_of class (node.Bound (binding.Member m)))
    ≡ filter_map (of_param doc class) (param ∷ []) =
    ap (λ (o : Option Item). option_map_or (λ (x : Item). filter_map (of_param doc class)
    (params_of x)) o []) e ∙ ap (filter_map (of_param doc class)) is in
    subst AtMostOne (sym are) (one_most (of_param doc class) param)

item_ends : (doc : Doc) (below : Eval) (depth i k class m : ℕ) (q : Place) (t : NTree) (x : Item)
    → item_at doc m ≡ Some x → IsMember x → body_of_item doc m x ≡ body.Run t
    → and_then (all (given doc below i (node_of class (node.Bound (binding.Member m))) q))
    (λ vs. end_with doc below depth k q x vs)
    ≡ ByTree doc below depth i k (node_of class (node.Bound (binding.Member m))) q t
item_ends doc below depth i k class m q t (item.Provides mk scope n params result e) at is h =
    same_tree doc below depth i k (node_of class (node.Bound (binding.Member m))) q _ t h
item_ends doc below depth i k class m q t (item.Produces mk n params result e) at is h =
    same_tree doc below depth i k (node_of class (node.Bound (binding.Member m))) q _ t h
item_ends doc below depth i k class m q t (item.Binds mk scope n param result) at is h =
    passes_on doc below depth i k (node_of class (node.Bound (binding.Member m))) q
    (binds_most doc class m (item.Binds mk scope n param result) param at refl)
    ∙ same_tree doc below depth i k (node_of class (node.Bound (binding.Member m))) q
    (ntree.Leaf (nexpr.Param 0)) t h
item_ends doc below depth i k class m q t other at is h = absurd is

member_ends : (doc : Doc) (below : Eval) (depth i k class m : ℕ) (q : Place) (t : NTree) (x : Item)
    → item_at doc m ≡ Some x → IsMember x
    → body_of_binding doc (binding.Member m) ≡ body.Run t
    → member_end doc below depth i k (node_of class (node.Bound (binding.Member m))) q m
    ≡ ByTree doc below depth i k (node_of class (node.Bound (binding.Member m))) q t
member_ends doc below depth i k class m q t x at is h =
    ap (λ (o : Option Item). and_then
    (all (given doc below i (node_of class (node.Bound (binding.Member m))) q))
    (λ vs. option_map_or (λ x. end_with doc below depth k q x vs) o mistyped)) at
    ∙ item_ends doc below depth i k class m q t x at is
    (sym (ap (λ (o : Option Item). option_map_or (body_of_item doc m) o one_param) at) ∙ h)

-- ---- classes

class_deps : (doc : Doc) → IsAccepted doc → (class c : ℕ) (inject : Bool) (scope : Option Bytes)
    → (n : Bytes) (params : List Param) (interfaces : List Bytes)
    → item_at doc c ≡ Some (item.Class inject scope n params interfaces)
    → length (deps doc (node_of class (node.Bound (binding.ClassItem c)))) ≡ length params
unfolding deps types_of
class_deps doc accepted class c inject scope n params interfaces at =
    let fits = item_fits doc (stages_of_accepted doc accepted) c
    (item.Class inject scope n params interfaces) at in
    let all_ask : Each HasRequest params = params_ask is_plain_use plain_asks params []
    (ap (filter (λ (p : Placed). not p.allowed)) (append-nil (each_placed is_plain_use params))
    ∙ fits.allowed) in
    ap (λ (o : Option Item). length (option_map_or (λ (x : Item). filter_map (of_param doc class)
    (params_of x)) o [])) at
    ∙ ap length (all_asked doc class params all_ask)
    ∙ length-map params (asked_for doc class)

class_ends : (doc : Doc) → IsAccepted doc → (below : Eval) (depth i k class c number : ℕ)
    → (q : Place) (t : NTree) (x : Item) → item_at doc c ≡ Some x → IsInjected x
    → number_of_class_item doc c ≡ Some number
    → body_of_binding doc (binding.ClassItem c) ≡ body.Run t
    → and_then (and_then (all (given doc below i (node_of class (node.Bound (binding.ClassItem c)))
    q)) (object_of doc c q)) (λ v. gives (value_end v))
    ≡ ByTree doc below depth i k (node_of class (node.Bound (binding.ClassItem c))) q t
class_ends doc accepted below depth i k class c number q t (item.Class true scope n params interfaces) at is e h =
    constructs doc below depth i k c number (node_of class (node.Bound (binding.ClassItem c))) q e
    ∙ same_tree doc below depth i k (node_of class (node.Bound (binding.ClassItem c))) q _ t
    (ap (construction doc c) (class_deps doc accepted class c true scope n params interfaces at)
    ∙ sym (ap (λ (o : Option Item). option_map_or (body_of_item doc c) o one_param) at) ∙ h)
class_ends doc accepted below depth i k class c number q t other at is e h = absurd is

-- ---- exposed entries

pub option_most : {A : Type 0} (o : Option A) → AtMostOne (option_to_list o)
option_most None = tt
option_most (Some x) = tt

exposed_most : (doc : Doc) (class dep entry : ℕ)
    → AtMostOne (deps doc (node_of class (node.Bound (binding.Exposed dep entry))))
unfolding deps
exposed_most doc class dep entry = by_dep (slice_get (deps_of doc class) dep)
  where
    by_dep : (o : Option ℕ) → AtMostOne (option_map_or (λ d. of_entry doc d entry) o [])
    by_dep None = tt
    by_dep (Some d) = option_most _

exposed_ends : (doc : Doc) (below : Eval) (depth i k class dep entry : ℕ) (q : Place) (t : NTree)
    → body_of_binding doc (binding.Exposed dep entry) ≡ body.Run t
    → and_then (and_then (all (given doc below i (node_of class (node.Bound (binding.Exposed dep
    entry))) q)) (λ vs. or_mistyped (only_of vs))) (λ v. gives (value_end v))
    ≡ ByTree doc below depth i k (node_of class (node.Bound (binding.Exposed dep entry))) q t
exposed_ends doc below depth i k class dep entry q t h =
    then_then (all (given doc below i (node_of class (node.Bound (binding.Exposed dep entry))) q))
    (λ vs. or_mistyped (only_of vs)) (λ v. gives (value_end v))
    ∙ passes_on doc below depth i k (node_of class (node.Bound (binding.Exposed dep entry))) q
    (exposed_most doc class dep entry)
    ∙ same_tree doc below depth i k (node_of class (node.Bound (binding.Exposed dep entry))) q
    (ntree.Leaf (nexpr.Param 0)) t h

-- ---- bodies that are run

pub multi_not_run : (doc : Doc) (class : ℕ) (key : Key) (c : Core)
    → is_run (body_of_multi doc class key c) ≡ false
multi_not_run doc class key (core.Map k b form) = refl
multi_not_run doc class key other = refl

ends_by : (doc : Doc) → IsAccepted doc → (below : Eval) (depth i k class : ℕ) (kind : NodeKind)
    → (q : Place) (t : NTree) → KindFits doc class kind
    → body_of_node doc (node_of class kind) ≡ body.Run t
    → end_of_node doc below depth i k (node_of class kind) q
    ≡ ByTree doc below depth i k (node_of class kind) q t
ends_by doc accepted below depth i k class (node.Bound (binding.Member m)) q t fits h =
    member_ends doc below depth i k class m q t fits.0 fits.1 fits.2 h
ends_by doc accepted below depth i k class (node.Bound (binding.ClassItem c)) q t fits h =
    class_ends doc accepted below depth i k class c fits.3.0 q t fits.0 fits.1 fits.2 fits.3.1 h
ends_by doc accepted below depth i k class (node.Bound (binding.Arg a)) q t fits h =
    not_run (body.Arg a) t refl h
ends_by doc accepted below depth i k class (node.Bound binding.Default) q t fits h =
    not_run (body.Arg 0) t refl h
ends_by doc accepted below depth i k class (node.Bound (binding.Exposed dep entry)) q t fits h =
    exposed_ends doc below depth i k class dep entry q t h
ends_by doc accepted below depth i k class (node.Multi key) q t fits h =
    not_run (body_of_multi doc class key key.core) t (multi_not_run doc class key key.core) h
ends_by doc accepted below depth i k class (node.Opt key) q t fits h =
    not_run (body.Opt (not (is_empty (deps doc (node_of class (node.Opt key)))))) t refl h
ends_by doc accepted below depth i k class (node.EntryOf e) q t fits h =
    not_run body.EntryOf t refl h

-- A body that is run says where its node ends, given what the dependencies of the node are given.
pub run_ends : (doc : Doc) → IsAccepted doc → (below : Eval) (depth i k : ℕ) (n : Node) (q : Place)
    → (t : NTree) → node_at doc k ≡ Some n → body_of_node doc n ≡ body.Run t
    → end_of_node doc below depth i k n q
    ≡ and_then (all (given doc below i n q))
    (λ vs. (tree_part t).run (around doc below depth k q vs) 0 0)
run_ends doc accepted below depth i k n q t is h =
    ends_by doc accepted below depth i k n.class n.kind q t
    (node_fits doc n (in_got (nodes doc) k n is)) h
