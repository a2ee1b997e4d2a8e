-- In an accepted document what a body calls are ways to values, along edges.
use Rattle.std.proofs.Common.{◌≡◌, ◌<◌, ℕ, suc, ◌+◌, Bool, true, false, cond, not, ◌||◌, nat_lt, is_some, List, [], ◌∷◌, ◌++◌, length, map, filter, filter_map, position, slice_get, Contains, Option, Some, None, option_map, option_and_then, unwrap_or, inr, refl, sym, ap, subst, ◌∙◌, arith}
use Rattle.std.specs.List.{position_or_len, find, cons_option}
use Rattle.std.specs.Option.{option_map_or}
use Rattle.std.proofs.lemmas.Bool.{false≢true, lt-ltb}
use Rattle.std.proofs.lemmas.Option.{none-some, same_Some, slice_get-map, slice_get_within}
use Rattle.std.proofs.lemmas.List.{length-map}
use Rattle.std.proofs.lemmas.List.Folds.{find_at}
use Rattle.std.proofs.lemmas.List.Elements.{Contains-append_right}
use Rattle.dg_lex.specs.Bytes.{Bytes}
use Rattle.dg_types.specs.declared.key.Base.TheVariants as base
use Rattle.dg_types.specs.declared.key.Core.{Core}
use Rattle.dg_types.specs.declared.key.Core.TheVariants as core
use Rattle.dg_types.specs.declared.key.Mode.{Mode}
use Rattle.dg_types.specs.declared.key.Mode.TheVariants as mode
use Rattle.dg_types.specs.declared.key.Request.{Request}
use Rattle.dg_types.specs.declared.shape.Shape.{Shape, out-Shape}
use Rattle.dg_types.specs.declared.shape.Shape.TheOpen.{Shape-F}
use Rattle.dg_types.specs.declared.shape.TypeUse.{TypeUse}
use Rattle.dg_types.specs.Requests.{Layer, Asked, asked_as, core_at, core_of, one_of, base_of, deferred_at, deferred_of, plain_at, plain_of, producing_at, producing_of, first_of_two, asked_of, is_plain_use, is_use, request_of}
use Rattle.dg_decl.specs.declared.document.Doc.{Doc}
use Rattle.dg_decl.specs.declared.binding.BindRef.TheVariants as binding
use Rattle.dg_decl.specs.declared.graph.EdgeKind.TheVariants as edge
use Rattle.dg_decl.specs.declared.graph.Node.{Node}
use Rattle.dg_decl.specs.declared.graph.NodeKind.{NodeKind}
use Rattle.dg_decl.specs.declared.graph.NodeKind.TheVariants as node
use Rattle.dg_decl.specs.declared.item.Item.{Item}
use Rattle.dg_decl.specs.declared.item.Item.TheVariants as item
use Rattle.dg_decl.specs.declared.item.Param.{Param}
use Rattle.dg_decl.specs.Document.{Statement, statements}
use Rattle.dg_decl.specs.Bodies.{called_params, calls_of_expr, calls_of_tree}
use Rattle.dg_decl.specs.Names.{item_at, params_of}
use Rattle.dg_decl.specs.Typing.{is_named}
use Rattle.dg_decl.specs.Stages.Types.{Placed, placed, each_placed, is_result_use, types_of, bad_type, optional_of_inject, has_its_type, type_mismatch, types_stage}
use Rattle.dg_decl.specs.Graph.{Dependency, asked, of_param, deps, target, node_of, EdgeTo, edge_to, needed_edges, is_param, is_called_mode, called_at, called_edge, calls_of as names_called, edges, is_direct, is_called, needed_targets}
use Rattle.dg_decl.proofs.MemberLemmas.{none_in, in_got, in_map, out_map, in_filter, in_filter_map, out_option_map, out_and_then, out_list_of}
use Rattle.dg_decl.proofs.NodeCandidates.{statement_at}
use Rattle.dg_slots.specs.declared.body.NTree.{NTree}
use Rattle.dg_slots.specs.declared.body.NTree.TheVariants as ntree
use Rattle.dg_slots.specs.Numbered.{param_number, numbered_expr, numbered_tree}
use Rattle.dg_eval.specs.Bodies.{tree_part}
use Rattle.dg_eval.specs.Meaning.{body_of}
use Rattle.dg_eval.specs.At.{calls_of}
use Rattle.dg_eval.proofs.RunResults.{Each}
use Rattle.dg_eval.proofs.BodyResults.{each_in}
use Rattle.dg_eval.proofs.TotalLemmas.{IsDeferred, CallsAreEdges}
use Rattle.dg_eval.proofs.AcceptedDepth.{StagesFindNothing, nil_left, nil_right, flat_nil}
use Rattle.dg_eval.proofs.TypingCalls.{IsWay, HasWay, expr_ways, tree_ways}
use Rattle.dg_eval.proofs.NumberedCalls.{number_all, expr_numbers, tree_numbers, leaf_calls}

-- ---- a way is asked for in a deferred mode

asked_mode : (how : Mode) (c : Option Core) (a : Asked) → asked_as how c ≡ Some a → IsDeferred how
    → IsDeferred a.0
asked_mode how c a e way =
    let o = out_option_map (λ (x : Core). (how, x)) c a e in
    let P : Mode → Type 0 = IsDeferred in
    subst P (ap (λ (b : Asked). b.0) o.2) way

deferred_mode : (l : Layer) (a : Asked) → deferred_at l ≡ Some a → IsDeferred a.0
deferred_mode (Shape-F.Lazy t) a e = asked_mode mode.ProviderLazy (core_of t) a e tt
deferred_mode l a e = asked_mode mode.Provider (core_at l) a e tt

first_of_none : (o : Option Asked) (a : Asked) → first_of_two o None ≡ Some a → o ≡ Some a
first_of_none None a e = e
first_of_none (Some b) a e = e

deferred_of_mode : (t : Shape) (a : Asked) → deferred_of t ≡ Some a → IsDeferred a.0
deferred_of_mode t a e = deferred_mode (out-Shape t) a e

way_mode_at : (l : Layer) (a : Asked) → first_of_two (plain_at l) (producing_at l) ≡ Some a
    → IsWay l → IsDeferred a.0
way_mode_at (Shape-F.Provider t) a e way =
    deferred_of_mode t a (first_of_none (deferred_of t) a e)
way_mode_at (Shape-F.Lazy t) a e way =
    asked_mode mode.Lazy (core_of t) a (first_of_none (asked_as mode.Lazy (core_of t)) a e) tt
way_mode_at (Shape-F.Producer t) a e way =
    asked_mode mode.Producer (one_of (base_of t)) a e tt
way_mode_at other a e way = absurd way

way_mode : (u : TypeUse) (r : Request) → request_of u ≡ Some r → IsWay (out-Shape u.shape)
    → IsDeferred r.mode
unfolding request_of asked_of plain_of producing_of
way_mode u r e way =
    let o = out_option_map _ (first_of_two (plain_at (out-Shape u.shape)) (producing_at (out-Shape
    u.shape))) r e in
    let P : Mode → Type 0 = IsDeferred in
    subst P (ap (λ (r : Request). r.mode) o.2) (way_mode_at (out-Shape u.shape) o.0 o.1 way)

-- ---- each parameter asks for something

abbrev pub HasRequest : Param → Type 0
HasRequest p = (r : Request) × (request_of p.shape ≡ Some r)

some_of : {A : Type 0} (o : Option A) → is_some o ≡ true → (x : A) × (o ≡ Some x)
some_of None e = absurd (false≢true e)
some_of (Some x) e = (x, refl)

asked_requests : (u : TypeUse) (a : Asked) → asked_of u.shape ≡ Some a
    → (r : Request) × (request_of u ≡ Some r)
unfolding request_of
asked_requests u a e = (
  record { mode = a.0; key = record { qualifier = u.qualifier; core = a.1 } },
  ap (option_map (λ (a : Asked). record { mode = a.0; key = record { qualifier = u.qualifier; core = a.1 } })) e,
)

use_asks : (u : TypeUse) → is_use u ≡ true → (r : Request) × (request_of u ≡ Some r)
unfolding is_use
use_asks u e = let o = some_of (asked_of u.shape) e in asked_requests u o.0 o.1

plain_asked : (s : Shape) (a : Asked) → plain_of s ≡ Some a → asked_of s ≡ Some a
unfolding asked_of
plain_asked s a e = ap (λ (o : Option Asked). first_of_two o (producing_of s)) e

pub plain_asks : (u : TypeUse) → is_plain_use u ≡ true → (r : Request) × (request_of u ≡ Some r)
unfolding is_plain_use
plain_asks u e =
    let o = some_of (plain_of u.shape) e in
    asked_requests u o.0 (plain_asked u.shape o.0 o.1)

kept_nil : {A : Type 0} (b : Bool) (x : A) (xs : List A) → cond (not b) (x ∷ xs) xs ≡ []
    → (b ≡ true) × (xs ≡ [])
kept_nil true x xs e = (refl, e)
kept_nil {A} false x xs e = absurd (let P : List A → Type 0 = λ zs. Contains zs x in
    none_in x (subst P e (0, omega arith, refl)))

pub params_ask : (test : TypeUse → Bool)
    → ((u : TypeUse) → test u ≡ true → (r : Request) × (request_of u ≡ Some r))
    → (ps : List Param) (rest : List Placed)
    → filter (λ p. not p.allowed) (each_placed test ps ++ rest) ≡ [] → Each HasRequest ps
params_ask test asks [] rest e = tt
params_ask test asks (p ∷ ps) rest e =
    let both = kept_nil (test p.shape) (placed test p.shape) _ e in
    (asks p.shape both.0, params_ask test asks ps rest both.1)

map_nil : {A B : Type 0} (f : A → B) (xs : List A) → map f xs ≡ [] → xs ≡ []
map_nil f [] e = refl
map_nil {A} {B} f (x ∷ xs) e = absurd (let P : List B → Type 0 = λ zs. Contains zs (f x) in
    none_in (f x) (subst P e (0, omega arith, refl)))

-- ---- dependencies of a member, in the order of its parameters

pub no_request : Request
no_request = record {
  mode = mode.Instance;
  key = record { qualifier = None; core = core.One base.Text };
}

abbrev pub asked_for : Doc → ℕ → Param → Dependency
asked_for doc class p =
    asked doc class (Some p.name) (unwrap_or (request_of p.shape) no_request)

given_first : {A : Type 0} (o : Option A) (x : A) (xs ys : List A) → o ≡ Some x → xs ≡ ys
    → cons_option o xs ≡ x ∷ ys
given_first None x xs ys e f = absurd (none-some x e)
given_first (Some y) x xs ys e f = λ i. same_Some y x e i ∷ f i

pub all_asked : (doc : Doc) (class : ℕ) (ps : List Param) → Each HasRequest ps
    → filter_map (of_param doc class) ps ≡ map (asked_for doc class) ps
all_asked doc class [] all = refl
all_asked doc class (p ∷ ps) all =
    given_first (of_param doc class p) (asked_for doc class p) _ _
    (let h : request_of p.shape ≡ Some all.0.0 = all.0.1 in
    ap (option_map (asked doc class (Some p.name))) h
    ∙ sym (ap (λ (o : Option Request). Some (asked doc class (Some p.name)
    (unwrap_or o no_request))) h))
    (all_asked doc class ps all.1)

abbrev member_node : ℕ → ℕ → Node
member_node class m = node_of class (node.Bound (binding.Member m))

deps_are : (doc : Doc) (class m : ℕ) (x : Item) → item_at doc m ≡ Some x
    → Each HasRequest (params_of x)
    → deps doc (member_node class m) ≡ map (asked_for doc class) (params_of x)
unfolding deps
deps_are doc class m x e all =
    ap (λ (o : Option Item). option_map_or (λ (x : Item). filter_map (of_param doc class)
    (params_of x)) o []) e ∙ all_asked doc class (params_of x) all

-- ---- where a parameter of a name stands

place_mapped : (doc : Doc) (class : ℕ) (n : Bytes) (ps : List Param)
    → position_or_len (is_param n) (map (asked_for doc class) ps)
    ≡ position_or_len (is_named n) ps
place_mapped doc class n [] = refl
place_mapped doc class n (p ∷ ps) =
    ap (λ (k : ℕ). cond (not (is_named n p)) (1 + k) 0) (place_mapped doc class n ps)

position_is : {A : Type 0} (p : A → Bool) (xs : List A) → position_or_len p xs < length xs
    → position p xs ≡ Some (position_or_len p xs)
position_is p xs within =
    let lt : nat_lt (position_or_len p xs) (length xs) ≡ true =
    lt-ltb (position_or_len p xs) (length xs) within in
    rw lt refl

-- a name that is called, and the number of its parameter
abbrev IsCalled : List Param → List Bytes → ℕ → Type 0
IsCalled params names p =
    (n : Bytes) × Contains names n × HasWay params n × (param_number params n ≡ p)

-- the parameter that a called name stands for
record Stands (params : List Param) (n : Bytes) (p : ℕ) : Type 0 where
  at : Param
  got : slice_get params p ≡ Some at
  place : position_or_len (is_named n) params ≡ p
  within : p < length params
  way : IsWay (out-Shape at.shape.shape)

stands_for : (params : List Param) (n : Bytes) (p : ℕ) → HasWay params n
    → param_number params n ≡ p → Stands params n p
stands_for params n p way number =
    let o = out_option_map (λ (p : Param). p.shape.shape) (find (is_named n) params) way.0 way.1 in
    let k : ℕ = position_or_len (is_named n) params in
    let got : slice_get params (position_or_len (is_named n) params) ≡ Some o.0 =
    sym (find_at (is_named n) params) ∙ o.1 in
    let within : position_or_len (is_named n) params < length params =
    slice_get_within params (position_or_len (is_named n) params) o.0 got in
    let same : position_or_len (is_named n) params ≡ p =
    sym (ap (λ (i : Option ℕ). unwrap_or i 0) (position_is (is_named n) params within))
    ∙ number in
    let P : Shape → Type 0 = λ t. IsWay (out-Shape t) in
    let Q : ℕ → Type 0 = λ j. slice_get params j ≡ Some o.0 in
    let R : ℕ → Type 0 = λ j. j < length params in
    record {
      at = o.0;
      got = subst Q same got;
      place = same;
      within = subst R same within;
      way = subst P (sym o.2) way.2;
    }

-- the dependency of a called parameter
dep_is : (doc : Doc) (class : ℕ) (params : List Param) (p : ℕ) (x : Param) (d : Dependency)
    → slice_get params p ≡ Some x → slice_get (map (asked_for doc class) params) p ≡ Some d
    → asked_for doc class x ≡ d
dep_is doc class params p x d got is =
    same_Some (asked_for doc class x) d
    (sym (slice_get-map (asked_for doc class) params p ∙ ap (option_map (asked_for doc class)) got)
    ∙ is)

called_deferred : (doc : Doc) (class : ℕ) (params : List Param) (n : Bytes) (p : ℕ)
    → (d : Dependency) → Each HasRequest params → Stands params n p
    → slice_get (map (asked_for doc class) params) p ≡ Some d → IsDeferred d.mode
called_deferred doc class params n p d all s is =
    let h : HasRequest s.at = each_in HasRequest params s.at all (in_got params p s.at s.got) in
    let same = dep_is doc class params p s.at d s.got is in
    let P : Mode → Type 0 = IsDeferred in
    let here : IsDeferred h.0.mode = way_mode s.at.shape h.0 h.1 s.way in
    subst P (sym (ap (λ (o : Option Request). (unwrap_or o no_request).mode) h.1)
    ∙ ap (λ (d : Dependency). d.mode) same) here

-- ---- the edge of a call

abbrev call_edge : ℕ → Node → EdgeTo
call_edge p t = record { kind = edge.Called; param = suc p; to = t }

edge_from : (ds : List Dependency) (n : Bytes) (p : ℕ) (d : Dependency) (t : Node)
    → position (is_param n) ds ≡ Some p → slice_get ds p ≡ Some d → is_called_mode d.mode ≡ true
    → target d ≡ Some t → called_edge ds n ≡ Some (call_edge p t)
edge_from ds n p d t place got so found =
    ap (option_and_then (called_at ds)) place
    ∙ ap (option_and_then (λ (d : Dependency). cond (is_called_mode d.mode)
    (edge_to edge.Called (suc p) d) None)) got
    ∙ ap (λ (b : Bool). cond b (edge_to edge.Called (suc p) d) None) so
    ∙ ap (option_map (call_edge p)) found

edge_needed : (doc : Doc) (n : Node) (name : Bytes) (p : ℕ) (t : Node)
    → Contains (names_called doc n) name → called_edge (deps doc n) name ≡ Some (call_edge p t)
    → Contains (needed_targets doc n) t
unfolding edges
edge_needed doc n name p t c is =
    let here = in_filter_map (called_edge (deps doc n)) (names_called doc n) name (call_edge p t) c
    is in
    let among = Contains-append_right (needed_edges (deps doc n))
    (filter_map (called_edge (deps doc n)) (names_called doc n)) (call_edge p t) here in
    in_map (λ (e : EdgeTo). e.to)
    (filter (λ (e : EdgeTo). is_direct e || is_called e) (edges doc n)) (call_edge p t)
    (in_filter (λ (e : EdgeTo). is_direct e || is_called e) (edges doc n) (call_edge p t) among
    refl)

called_place : (doc : Doc) (class : ℕ) (params : List Param) (n : Bytes) (p : ℕ)
    → Stands params n p
    → position (is_param n) (map (asked_for doc class) params) ≡ Some p
called_place doc class params n p s =
    let same : position_or_len (is_param n) (map (asked_for doc class) params) ≡ p =
    place_mapped doc class n params ∙ s.place in
    let lt : p < length params = s.within in
    let within : position_or_len (is_param n) (map (asked_for doc class) params)
    < length (map (asked_for doc class) params) =
    rw (same, length-map) lt in
    position_is (is_param n) (map (asked_for doc class) params) within ∙ ap Some same

-- ---- what the stage of types says of an item

pub record ItemFits (doc : Doc) (x : Item) : Type 0 where
  pub typed : has_its_type doc x ≡ true
  pub allowed : filter (λ p. not p.allowed) (types_of x) ≡ []

no_mismatch : (doc : Doc) (s : Statement) → type_mismatch doc s ≡ []
    → has_its_type doc s.item ≡ true
unfolding type_mismatch
no_mismatch doc s e = is_true (has_its_type doc s.item) _ e
  where
    is_true : {A : Type 0} (b : Bool) (x : A) → cond b [] (x ∷ []) ≡ [] → b ≡ true
    is_true true x e = refl
    is_true {A} false x e = absurd (let P : List A → Type 0 = λ zs. Contains zs x in
        none_in x (subst P e (0, omega arith, refl)))

no_bad_type : (doc : Doc) (s : Statement) → bad_type doc s ≡ []
    → filter (λ p. not p.allowed) (types_of s.item) ≡ []
unfolding bad_type
no_bad_type doc s e = map_nil _ (filter (λ p. not p.allowed) (types_of s.item)) e

pub item_fits : (doc : Doc) → StagesFindNothing doc → (m : ℕ) (x : Item) → item_at doc m ≡ Some x
    → ItemFits doc x
unfolding types_stage
item_fits doc none m x e =
    let s = statement_at doc m x e in
    let all = flat_nil (λ s. bad_type doc s ++ optional_of_inject doc s ++ type_mismatch doc s)
    (statements doc) s.0 none.types s.1 in
    let two = nil_left (bad_type doc s.0 ++ optional_of_inject doc s.0) (type_mismatch doc s.0) all
    in
    let front = nil_left (bad_type doc s.0) (optional_of_inject doc s.0) two in
    let back = nil_right (bad_type doc s.0 ++ optional_of_inject doc s.0) (type_mismatch doc s.0)
    all in
    let P : Item → Type 0 = ItemFits doc in
    subst P s.3 (record {
      typed = no_mismatch doc s.0 back;
      allowed = no_bad_type doc s.0 front;
    })

abbrev CallsOf : Item → ℕ → Type 0
CallsOf x p = Each HasRequest (params_of x) × IsCalled (params_of x) (called_params x) p

name_of_number : (params : List Param) (names : List Bytes) (p : ℕ)
    → Each (HasWay params) names → Contains (number_all params names) p
    → IsCalled params names p
name_of_number params names p ways c =
    let o = out_map (param_number params) names p c in
    (o.0, o.1, each_in (HasWay params) names o.0 ways o.1, o.2)

moved : {A : Type 0} (xs ys : List A) (x : A) → xs ≡ ys → Contains xs x → Contains ys x
moved {A} xs ys x e c = let P : List A → Type 0 = λ zs. Contains zs x in subst P e c

item_calls : (doc : Doc) (x : Item) (body : NTree) (p : ℕ) → ItemFits doc x
    → body_of doc x ≡ Some body → Contains (tree_part body).called p → CallsOf x p
unfolding types_of called_params
item_calls doc (item.Provides mk scope n params result e) body p fits is c =
    let same = same_Some (ntree.Leaf (numbered_expr doc params e)) body is in
    let calls : (tree_part body).called ≡ number_all params (calls_of_expr e) =
    ap (λ (t : NTree). (tree_part t).called) (sym same)
    ∙ leaf_calls (numbered_expr doc params e) ∙ expr_numbers doc params e in (
      params_ask is_plain_use plain_asks params (placed (is_result_use mk) result ∷ [])
          fits.allowed,
      name_of_number params (calls_of_expr e) p
          (expr_ways doc params e (inr (result.shape, fits.typed)))
          (moved (tree_part body).called (number_all params (calls_of_expr e)) p calls c),
    )
item_calls doc (item.Produces mk n params result t) body p fits is c =
    let same = same_Some (numbered_tree doc params t) body is in
    let calls : (tree_part body).called ≡ number_all params (calls_of_tree t) =
    ap (λ (t : NTree). (tree_part t).called) (sym same) ∙ tree_numbers doc params t in (
      params_ask is_use use_asks params (placed (is_result_use mk) result ∷ []) fits.allowed,
      name_of_number params (calls_of_tree t) p (tree_ways doc params t result.shape fits.typed)
          (moved (tree_part body).called (number_all params (calls_of_tree t)) p calls c),
    )
item_calls doc other body p fits is c = absurd (none-some body is)

-- ---- the law

abbrev Member : Doc → ℕ → ℕ → Type 0
Member doc m p = (x : Item) × (item_at doc m ≡ Some x) × CallsOf x p

member_calls : (doc : Doc) → StagesFindNothing doc → (class m p : ℕ)
    → Contains (calls_of doc (member_node class m)) p → Member doc m p
member_calls doc none class m p c =
    let o = out_list_of (λ (b : NTree). (tree_part b).called)
    (option_and_then (body_of doc) (item_at doc m)) p c in
    let x = out_and_then (body_of doc) (item_at doc m) o.0 o.1 in
    (x.0, x.1, item_calls doc x.0 o.0 p (item_fits doc none m x.0 x.1) x.2 o.2)

deferred_by : (doc : Doc) → StagesFindNothing doc → (class : ℕ) (kind : NodeKind) (p : ℕ)
    → (d : Dependency) → Contains (calls_of doc (node_of class kind)) p
    → slice_get (deps doc (node_of class kind)) p ≡ Some d → IsDeferred d.mode
deferred_by doc none class (node.Bound (binding.Member m)) p d c got =
    let f = member_calls doc none class m p c in
    let calls : CallsOf f.0 p = f.2 in
    let name : IsCalled (params_of f.0) (called_params f.0) p = calls.1 in
    let are = deps_are doc class m f.0 f.1 calls.0 in
    called_deferred doc class (params_of f.0) name.0 p d calls.0
    (stands_for (params_of f.0) name.0 p name.2 name.3)
    (sym (ap (λ (ds : List Dependency). slice_get ds p) are) ∙ got)
deferred_by doc none class other p d c got = absurd (none_in p c)

needed_by : (doc : Doc) → StagesFindNothing doc → (class : ℕ) (kind : NodeKind) (p : ℕ)
    → (d : Dependency) (t : Node) → Contains (calls_of doc (node_of class kind)) p
    → slice_get (deps doc (node_of class kind)) p ≡ Some d → is_called_mode d.mode ≡ true
    → target d ≡ Some t → Contains (needed_targets doc (node_of class kind)) t
needed_by doc none class (node.Bound (binding.Member m)) p d t c got so found =
    let f = member_calls doc none class m p c in
    let calls : CallsOf f.0 p = f.2 in
    let name : IsCalled (params_of f.0) (called_params f.0) p = calls.1 in
    let are = deps_are doc class m f.0 f.1 calls.0 in
    let s = stands_for (params_of f.0) name.0 p name.2 name.3 in
    let place : position (is_param name.0) (deps doc (member_node class m)) ≡ Some p =
    ap (λ (ds : List Dependency). position (is_param name.0) ds) are
    ∙ called_place doc class (params_of f.0) name.0 p s in
    let names : called_params f.0 ≡ names_called doc (member_node class m) =
    sym (ap (λ (o : Option Item). option_map_or called_params o []) f.1) in
    edge_needed doc (member_node class m) name.0 p t
    (moved (called_params f.0) (names_called doc (member_node class m)) name.0 names name.1)
    (edge_from (deps doc (member_node class m)) name.0 p d t place got so found)
needed_by doc none class other p d t c got so found = absurd (none_in p c)

pub calls_are_edges : (doc : Doc) → StagesFindNothing doc → CallsAreEdges doc
calls_are_edges doc none = record {
  deferred = λ n p d among c got. deferred_by doc none n.class n.kind p d c got;
  needed = λ n p d t among c got so found. needed_by doc none n.class n.kind p d t c got so found;
}
