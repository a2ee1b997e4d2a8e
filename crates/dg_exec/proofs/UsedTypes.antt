-- Which requests are for a `Producer`: only those of the parameters of `produces` lines.
use Rattle.std.proofs.Common.{◌≡◌, ◌⊎◌, inl, inr, ℕ, ◌<◌, Bool, true, false, cond, not, nat_lt, is_some, List, [], ◌∷◌, ◌++◌, length, map, filter, filter_map, slice_get, Contains, Option, Some, None, option_map, option_and_then, position, unwrap_or, refl, sym, ap, subst, ◌∙◌}
use Rattle.std.specs.List.{position_or_len, find}
use Rattle.std.specs.Option.{option_map_or}
use Rattle.std.proofs.lemmas.Bool.{false≢true, lt-ltb}
use Rattle.std.proofs.lemmas.List.Folds.{find_at}
use Rattle.std.proofs.lemmas.Option.{none-some, same_Some, slice_get_within, slice_get-map}
use Rattle.dg_lex.specs.Bytes.{Bytes}
use Rattle.dg_types.specs.declared.key.Core.{Core}
use Rattle.dg_types.specs.declared.key.Inner.{Inner}
use Rattle.dg_types.specs.declared.key.Inner.TheVariants as inner
use Rattle.dg_types.specs.declared.key.Key.{Key}
use Rattle.dg_types.specs.declared.key.Mode.{Mode}
use Rattle.dg_types.specs.declared.key.Mode.TheVariants as mode
use Rattle.dg_types.specs.declared.key.Request.{Request}
use Rattle.dg_types.specs.declared.shape.Shape.{Shape, out-Shape}
use Rattle.dg_types.specs.declared.shape.Shape.TheOpen.{Shape-F}
use Rattle.dg_types.specs.declared.shape.TypeUse.{TypeUse}
use Rattle.dg_types.specs.Requests.{Layer, Asked, base_at, base_of, core_at, core_of, asked_as, deferred_at, deferred_of, plain_at, plain_of, producing_at, producing_of, first_of_two, asked_of, request_of, is_plain_use, is_use}
use Rattle.dg_decl.specs.declared.document.Doc.{Doc}
use Rattle.dg_decl.specs.declared.binding.BindRef.TheVariants as binding
use Rattle.dg_decl.specs.declared.graph.Node.{Node}
use Rattle.dg_decl.specs.declared.graph.NodeKind.{NodeKind}
use Rattle.dg_decl.specs.declared.graph.NodeKind.TheVariants as node
use Rattle.dg_decl.specs.declared.item.Item.{Item}
use Rattle.dg_decl.specs.declared.item.Item.TheVariants as item
use Rattle.dg_decl.specs.declared.item.Mark.{Mark}
use Rattle.dg_decl.specs.declared.item.Mark.TheVariants as mark
use Rattle.dg_decl.specs.declared.item.Param.{Param}
use Rattle.dg_decl.specs.Document.{statements}
use Rattle.dg_decl.specs.Names.{declared, is_class, class_item_named, item_at, params_of, result_of, default_fields, fields_of}
use Rattle.dg_decl.specs.Components.{deps_of}
use Rattle.dg_decl.specs.Lookup.{inside_key, contributions}
use Rattle.dg_decl.specs.Typing.{is_named, type_of_param}
use Rattle.dg_decl.specs.Graph.{Dependency, asked, of_param, of_params, of_entry, deps, node_of, nodes, mode_of_inner, inner_of, contribution_of, is_nothing}
use Rattle.dg_decl.specs.Sizes.{is_producer, is_produces_item}
use Rattle.dg_decl.specs.Stages.Types.{Placed, placed, is_base_use, is_base_set_at, is_multi_at, is_result_use, each_placed, types_of}
use Rattle.dg_decl.proofs.MemberLemmas.{none_in, in_front, the_one, out_map, out_filter, out_filter_map, out_option, out_option_map, out_and_then, out_list_of, in_got}
use Rattle.dg_decl.proofs.NodeWalks.{in_rest}
use Rattle.dg_slots.specs.Numbered.{param_number}
use Rattle.dg_eval.proofs.AcceptedDepth.{StagesFindNothing, not_nil}
use Rattle.dg_eval.proofs.CallLemmas.{HasRequest, plain_asks, params_ask, no_request, asked_for, all_asked, ItemFits, item_fits}
use Rattle.dg_eval.proofs.RunResults.{Each}
use Rattle.dg_eval.proofs.BodyResults.{each_in}
use Rattle.dg_requests.proofs.NodeKinds.{item_of_statement, IsInjected, node_fits, KindFits}
use Rattle.dg_exec.proofs.UsedTyping.{NoProducer, FieldsFit, Shows, text_no}

abbrev pub is_producer_mode : Mode → Bool
is_producer_mode mode.Producer = true
is_producer_mode other = false

-- ---- requests of types

asked_mode : (m : Mode) (o : Option Core) (a : Asked) → asked_as m o ≡ Some a → m ≡ a.0
asked_mode m o a e =
    let c = out_option_map (λ (x : Core). (m, x)) o a e in ap (λ (p : Asked). p.0) c.2

plain_mode : (m : Mode) (o : Option Core) (a : Asked) → is_producer_mode m ≡ false
    → asked_as m o ≡ Some a → is_producer_mode a.0 ≡ false
plain_mode m o a is e =
    let P : Mode → Type 0 = λ m. is_producer_mode m ≡ false in subst P (asked_mode m o a e) is

deferred_no : (l : Layer) (a : Asked) → deferred_at l ≡ Some a → is_producer_mode a.0 ≡ false
deferred_no (Shape-F.Lazy t) a e = plain_mode mode.ProviderLazy (core_of t) a refl e
deferred_no other a e = plain_mode mode.Provider (core_at other) a refl e

deferred_of_no : (s : Shape) (a : Asked) → deferred_of s ≡ Some a
    → is_producer_mode a.0 ≡ false
deferred_of_no s a e = deferred_no (out-Shape s) a e

plain_at_no : (l : Layer) (a : Asked) → plain_at l ≡ Some a → is_producer_mode a.0 ≡ false
plain_at_no (Shape-F.Provider t) a e = deferred_of_no t a e
plain_at_no (Shape-F.Lazy t) a e = plain_mode mode.Lazy (core_of t) a refl e
plain_at_no other a e = plain_mode mode.Instance (core_at other) a refl e

producing_no : (l : Layer) (a : Asked) → NoProducer l → producing_at l ≡ Some a
    → is_producer_mode a.0 ≡ false
producing_no (Shape-F.Set t) a fine e = plain_mode mode.Instance _ a refl e
producing_no (Shape-F.Map k t) a fine e = plain_mode mode.Instance _ a refl e
producing_no (Shape-F.Produced t) a fine e = plain_mode mode.Produced _ a refl e
producing_no (Shape-F.Producer t) a fine e = absurd fine
producing_no other a fine e = absurd (none-some a e)

either_asked : (x y : Option Asked) (a : Asked) → first_of_two x y ≡ Some a
    → (x ≡ Some a) ⊎ (y ≡ Some a)
either_asked (Some b) y a e = inl e
either_asked None y a e = inr e

asked_no : (s : Shape) (a : Asked) → NoProducer (out-Shape s) → asked_of s ≡ Some a
    → is_producer_mode a.0 ≡ false
unfolding asked_of plain_of producing_of
asked_no s a fine e =
    elim (either_asked (plain_at (out-Shape s)) (producing_at (out-Shape s)) a e) [
      | inl p ↦ plain_at_no (out-Shape s) a p
      | inr q ↦ producing_no (out-Shape s) a fine q
    ]

-- a type other than `Producer` asks in another mode
pub request_no : (u : TypeUse) (r : Request) → NoProducer (out-Shape u.shape)
    → request_of u ≡ Some r → is_producer_mode r.mode ≡ false
unfolding request_of
request_no u r fine e =
    let o = out_option_map _ (asked_of u.shape) r e in
    let P : Mode → Type 0 = λ m. is_producer_mode m ≡ false in
    subst P (ap (λ (r : Request). r.mode) o.2) (asked_no u.shape o.0 fine o.1)

-- ---- types in their places

plain_layer : (l : Layer) → is_some (plain_at l) ≡ true → NoProducer l
plain_layer (Shape-F.Producer t) e = false≢true e
plain_layer other e = tt

plain_use : (u : TypeUse) → is_plain_use u ≡ true → NoProducer (out-Shape u.shape)
unfolding is_plain_use plain_of
plain_use u e = plain_layer (out-Shape u.shape) e

base_layer : (l : Layer) → is_some (base_at l) ≡ true → NoProducer l
base_layer (Shape-F.Producer t) e = false≢true e
base_layer other e = tt

base_use : (u : TypeUse) → is_base_use u ≡ true → NoProducer (out-Shape u.shape)
unfolding base_of
base_use u e = base_layer (out-Shape u.shape) e

set_layer : (l : Layer) → is_base_set_at l ≡ true → NoProducer l
set_layer (Shape-F.Producer t) e = false≢true e
set_layer other e = tt

multi_layer : (l : Layer) → is_multi_at l ≡ true → NoProducer l
multi_layer (Shape-F.Producer t) e = false≢true e
multi_layer other e = tt

result_use : (m : Option Mark) (u : TypeUse) → is_result_use m u ≡ true
    → NoProducer (out-Shape u.shape)
result_use (Some mark.ElementsIntoSet) u e = set_layer (out-Shape u.shape) e
result_use other u e = base_use u e

kept_nil : {A : Type 0} (b : Bool) (x : A) (xs : List A) → cond (not b) (x ∷ xs) xs ≡ []
    → (b ≡ true) × (xs ≡ [])
kept_nil true x xs e = (refl, e)
kept_nil false x xs e = absurd (not_nil x xs e)

abbrev Bad : List Placed → List Placed
Bad ps = filter (λ p. not p.allowed) ps

abbrev pub ParamsPlain : List Param → Type 0
ParamsPlain ps = Each (λ p. NoProducer (out-Shape p.shape.shape)) ps

params_plain : (test : TypeUse → Bool)
    → ((u : TypeUse) → test u ≡ true → NoProducer (out-Shape u.shape)) → (ps : List Param)
    → (rest : List Placed) → Bad (each_placed test ps ++ rest) ≡ [] → ParamsPlain ps
params_plain test plain [] rest e = tt
params_plain test plain (p ∷ ps) rest e =
    let both = kept_nil (test p.shape) (placed test p.shape) _ e in
    (plain p.shape both.0, params_plain test plain ps rest both.1)

rest_nil : (test : TypeUse → Bool) (ps : List Param) (rest : List Placed)
    → Bad (each_placed test ps ++ rest) ≡ [] → Bad rest ≡ []
rest_nil test [] rest e = e
rest_nil test (p ∷ ps) rest e =
    rest_nil test ps rest (kept_nil (test p.shape) (placed test p.shape) _ e).1

appended_by : (b : Bool) (p : Placed) (ps : List Placed)
    → cond (not b) (p ∷ Bad ps) (Bad ps) ≡ [] → (Bad ps ≡ [] → Bad (ps ++ []) ≡ [])
    → cond (not b) (p ∷ Bad (ps ++ [])) (Bad (ps ++ [])) ≡ []
appended_by true p ps e later = later e
appended_by false p ps e later = absurd (not_nil p (Bad ps) e)

appended : (ps : List Placed) → Bad ps ≡ [] → Bad (ps ++ []) ≡ []
appended [] e = refl
appended (p ∷ ps) e = appended_by p.allowed p ps e (appended ps)

one_allowed : (p : Placed) → Bad (p ∷ []) ≡ [] → p.allowed ≡ true
one_allowed p e = (kept_nil p.allowed p [] e).0

-- the parameters of a line that is no `produces` one are of other types
pub item_params : (doc : Doc) (x : Item) → ItemFits doc x → is_produces_item x ≡ false
    → ParamsPlain (params_of x)
unfolding types_of
item_params doc (item.Class inject scope n params interfaces) fits no_one =
    params_plain is_plain_use plain_use params []
    (appended (each_placed is_plain_use params) fits.allowed)
item_params doc (item.Provides m scope n params result body) fits no_one =
    params_plain is_plain_use plain_use params _ fits.allowed
item_params doc (item.Binds m scope n param result) fits no_one =
    params_plain is_base_use base_use (param ∷ [])
    (placed (is_result_use m) result ∷ []) fits.allowed
item_params doc (item.Produces m n params result body) fits no_one =
    absurd (false≢true (sym no_one))
item_params doc other fits no_one = tt

-- and so is the result of each line
pub item_result : (doc : Doc) (x : Item) → ItemFits doc x → (u : TypeUse)
    → result_of x ≡ Some u → NoProducer (out-Shape u.shape)
unfolding types_of
item_result doc (item.Provides m scope n params result body) fits u e =
    let P : TypeUse → Type 0 = λ u. NoProducer (out-Shape u.shape) in
    subst P (same_Some result u e) (result_use m result
    (one_allowed (placed (is_result_use m) result)
    (rest_nil is_plain_use params (placed (is_result_use m) result ∷ []) fits.allowed)))
item_result doc (item.Binds m scope n param result) fits u e =
    let P : TypeUse → Type 0 = λ u. NoProducer (out-Shape u.shape) in
    subst P (same_Some result u e) (result_use m result
    (one_allowed (placed (is_result_use m) result)
    (rest_nil is_base_use (param ∷ []) (placed (is_result_use m) result ∷ []) fits.allowed)))
item_result doc (item.Produces m n params result body) fits u e =
    let P : TypeUse → Type 0 = λ u. NoProducer (out-Shape u.shape) in
    subst P (same_Some result u e) (result_use m result
    (one_allowed (placed (is_result_use m) result)
    (rest_nil is_use params (placed (is_result_use m) result ∷ []) fits.allowed)))
item_result doc (item.OptionalOf n result) fits u e =
    let P : TypeUse → Type 0 = λ u. NoProducer (out-Shape u.shape) in
    subst P (same_Some result u e) (base_use result (one_allowed _ fits.allowed))
item_result doc (item.Multibinds n result) fits u e =
    let P : TypeUse → Type 0 = λ u. NoProducer (out-Shape u.shape) in
    subst P (same_Some result u e)
    (multi_layer (out-Shape result.shape) (one_allowed _ fits.allowed))
item_result doc (item.BindsInstance n result) fits u e =
    let P : TypeUse → Type 0 = λ u. NoProducer (out-Shape u.shape) in
    subst P (same_Some result u e) (base_use result (one_allowed _ fits.allowed))
item_result doc (item.Entry n result) fits u e =
    let P : TypeUse → Type 0 = λ u. NoProducer (out-Shape u.shape) in
    subst P (same_Some result u e) (plain_use result (one_allowed _ fits.allowed))
item_result doc other fits u e = absurd (none-some u e)

-- ---- the fields of classes

found_from : {A : Type 0} (b : Bool) (y : A) (ys : List A) (o : Option A) (x : A)
    → cond b (Some y) o ≡ Some x → (o ≡ Some x → Contains ys x) → Contains (y ∷ ys) x
found_from {A} true y ys o x e later =
    let P : A → Type 0 = λ z. Contains (y ∷ ys) z in subst P (same_Some y x e) (in_front y ys)
found_from false y ys o x e later = in_rest x y ys (later e)

pub found_in : {A : Type 0} (p : A → Bool) (xs : List A) (x : A) → find p xs ≡ Some x
    → Contains xs x
found_in p [] x e = absurd (none-some x e)
found_in p (y ∷ ys) x e = found_from (p y) y ys (find p ys) x e (found_in p ys x)

not_none : {A : Type 0} (b : Bool) (o : Option A) (x : A) → cond b None o ≡ Some x → o ≡ Some x
not_none true o x e = absurd (none-some x e)
not_none false o x e = e

if_given : {A : Type 0} (b : Bool) (y x : A) → cond b (Some y) None ≡ Some x
    → (b ≡ true) × (y ≡ x)
if_given true y x e = (refl, same_Some y x e)
if_given false y x e = absurd (none-some x e)

class_no_producer : (x : Item) → is_class x ≡ true → is_produces_item x ≡ false
class_no_producer (item.Produces m n params result body) e = absurd (false≢true e)
class_no_producer other e = refl

class_params : (doc : Doc) → StagesFindNothing doc → (n : Bytes) (i : ℕ) (x : Item)
    → class_item_named doc n ≡ Some i → item_at doc i ≡ Some x → ParamsPlain (params_of x)
unfolding class_item_named declared
class_params doc none n i x e at =
    let s = out_and_then _ (declared doc n) i e in
    let w = if_given (is_class s.0.item) s.0.index i s.2 in
    let c : Contains (statements doc) s.0 =
    found_in _ (statements doc) s.0 (not_none _ _ s.0 s.1) in
    let same : s.0.item ≡ x =
    same_Some s.0.item x (sym (item_of_statement doc s.0 c) ∙ ap (item_at doc) w.1 ∙ at) in
    let P : Item → Type 0 = λ y. is_class y ≡ true in
    item_params doc x (item_fits doc none i x at) (class_no_producer x (subst P same w.0))

fields_by : (doc : Doc) → StagesFindNothing doc → (n : Bytes) (b : Bool) (fields : List Param)
    → cond b (Some default_fields) (option_map params_of (option_and_then (item_at doc)
    (class_item_named doc n))) ≡ Some fields → ParamsPlain fields
fields_by doc none n true fields e =
    let P : List Param → Type 0 = ParamsPlain in
    subst P (same_Some default_fields fields e) (text_no, tt)
fields_by doc none n false fields e =
    let x = out_option_map params_of _ fields e in
    let i = out_and_then (item_at doc) (class_item_named doc n) x.0 x.1 in
    let P : List Param → Type 0 = ParamsPlain in
    subst P x.2 (class_params doc none n i.0 x.0 i.1 i.2)

pub fields_fit : (doc : Doc) → StagesFindNothing doc → FieldsFit doc
unfolding fields_of
fields_fit doc none class fields e = fields_by doc none class _ fields e

-- ---- the modes of dependencies

params_modes : (doc : Doc) (class : ℕ) (ps : List Param) (d : Dependency) → ParamsPlain ps
    → Contains (filter_map (of_param doc class) ps) d → is_producer_mode d.mode ≡ false
params_modes doc class ps d plain c =
    let o = out_filter_map (of_param doc class) ps d c in
    let r = out_option_map (asked doc class (Some o.0.name)) (request_of o.0.shape) d o.2 in
    let P : Dependency → Type 0 = λ d. is_producer_mode d.mode ≡ false in
    subst P r.2 (request_no o.0.shape r.0
    (each_in (λ p. NoProducer (out-Shape p.shape.shape)) ps o.0 plain o.1) r.1)

item_modes : (doc : Doc) → StagesFindNothing doc → (class i : ℕ) (x : Item) (d : Dependency)
    → item_at doc i ≡ Some x → is_produces_item x ≡ false → Contains (of_params doc class i) d
    → is_producer_mode d.mode ≡ false
item_modes doc none class i x d at no_one c =
    let P : List Dependency → Type 0 = λ ds. Contains ds d in
    params_modes doc class (params_of x) d
    (item_params doc x (item_fits doc none i x at) no_one)
    (subst P (ap (λ (o : Option Item). option_map_or (λ x. filter_map (of_param doc class)
    (params_of x)) o []) at) c)

entry_modes : (doc : Doc) → StagesFindNothing doc → (class i : ℕ) (d : Dependency)
    → Contains (of_entry doc class i) d → is_producer_mode d.mode ≡ false
entry_modes doc none class i d c =
    let e = out_option _ d c in
    let r = out_option_map (asked doc class None) _ d e in
    let u = out_and_then request_of (option_and_then result_of (item_at doc i)) r.0 r.1 in
    let x = out_and_then result_of (item_at doc i) u.0 u.1 in
    let P : Dependency → Type 0 = λ d. is_producer_mode d.mode ≡ false in
    subst P r.2 (request_no u.0 r.0
    (item_result doc x.0 (item_fits doc none i x.0 x.1) u.0 x.2) u.2)

form_modes : (form : Inner) → is_producer_mode (mode_of_inner form) ≡ false
form_modes inner.Plain = refl
form_modes inner.Provider = refl
form_modes inner.Lazy = refl
form_modes inner.ProviderLazy = refl
form_modes inner.Produced = refl

pub injected_no : (x : Item) → IsInjected x → is_produces_item x ≡ false
injected_no (item.Produces m n params result body) i = absurd i
injected_no other i = refl

abbrev inside_asked : Doc → ℕ → Key → Dependency
inside_asked doc class key =
    asked doc class None
    (record { mode = mode_of_inner (inner_of key.core); key = inside_key key })

modes_by : (doc : Doc) → StagesFindNothing doc → (class : ℕ) (k : NodeKind) (d : Dependency)
    → KindFits doc class k → is_producer doc (node_of class k) ≡ false
    → Contains (deps doc (node_of class k)) d → is_producer_mode d.mode ≡ false
unfolding deps
modes_by doc none class (node.Bound (binding.Member m)) d fits plain c =
    item_modes doc none class m fits.0 d fits.1
    (sym (ap (λ (o : Option Item). option_map_or is_produces_item o false) fits.1) ∙ plain) c
modes_by doc none class (node.Bound (binding.ClassItem m)) d fits plain c =
    item_modes doc none class m fits.0 d fits.1 (injected_no fits.0 fits.2) c
modes_by doc none class (node.Bound (binding.Arg a)) d fits plain c = absurd (none_in d c)
modes_by doc none class (node.Bound binding.Default) d fits plain c = absurd (none_in d c)
modes_by doc none class (node.Bound (binding.Exposed dep e)) d fits plain c =
    let o = out_list_of (λ (o : ℕ). of_entry doc o e) (slice_get (deps_of doc class) dep) d c in
    entry_modes doc none o.0 e d o.2
modes_by doc none class (node.Multi key) d fits plain c =
    let o = out_map (contribution_of class key) (contributions doc class key) d c in
    let P : Dependency → Type 0 = λ d. is_producer_mode d.mode ≡ false in
    subst P o.2 (form_modes (inner_of key.core))
modes_by doc none class (node.Opt key) d fits plain c =
    let o = out_filter (λ (d : Dependency). not (is_nothing d.found))
    (inside_asked doc class key ∷ []) d c in
    let P : Dependency → Type 0 = λ d. is_producer_mode d.mode ≡ false in
    subst P (the_one d (inside_asked doc class key) o.0) (form_modes (inner_of key.core))
modes_by doc none class (node.EntryOf e) d fits plain c = entry_modes doc none class e d c

-- a node that is no `produces` line asks for no `Producer`
pub plain_modes : (doc : Doc) → StagesFindNothing doc → (n : Node) (d : Dependency)
    → Contains (nodes doc) n → is_producer doc n ≡ false → Contains (deps doc n) d
    → is_producer_mode d.mode ≡ false
plain_modes doc none n d among plain c =
    modes_by doc none n.class n.kind d (node_fits doc n among) plain c

-- ---- which parameters are hidden

-- a parameter of a node is a `Producer`
abbrev pub hides : Doc → Node → ℕ → Bool
hides doc n p = option_map_or (λ d. is_producer_mode d.mode) (slice_get (deps doc n) p) false

abbrev pub member_node : ℕ → ℕ → Node
member_node class m = node_of class (node.Bound (binding.Member m))

deps_are : (doc : Doc) (class m : ℕ) (x : Item) → item_at doc m ≡ Some x
    → Each HasRequest (params_of x)
    → deps doc (member_node class m) ≡ map (asked_for doc class) (params_of x)
unfolding deps
deps_are doc class m x e every =
    ap (λ (o : Option Item). option_map_or (λ (x : Item). filter_map (of_param doc class)
    (params_of x)) o []) e ∙ all_asked doc class (params_of x) every

position_is : {A : Type 0} (p : A → Bool) (xs : List A) → position_or_len p xs < length xs
    → position p xs ≡ Some (position_or_len p xs)
position_is p xs within =
    let lt : nat_lt (position_or_len p xs) (length xs) ≡ true =
    lt-ltb (position_or_len p xs) (length xs) within in
    rw lt refl

named_at : (params : List Param) (n : Bytes) (t : Shape) → type_of_param params n ≡ Some t
    → (x : Param) × (slice_get params (param_number params n) ≡ Some x) × (x.shape.shape ≡ t)
named_at params n t e =
    let o = out_option_map (λ (p : Param). p.shape.shape) (find (is_named n) params) t e in
    let got : slice_get params (position_or_len (is_named n) params) ≡ Some o.0 =
    sym (find_at (is_named n) params) ∙ o.1 in
    let within : position_or_len (is_named n) params < length params =
    slice_get_within params (position_or_len (is_named n) params) o.0 got in
    let same : position_or_len (is_named n) params ≡ param_number params n =
    sym (ap (λ (i : Option ℕ). unwrap_or i 0) (position_is (is_named n) params within)) in
    let Q : ℕ → Type 0 = λ j. slice_get params j ≡ Some o.0 in
    (o.0, subst Q same got, o.2)

pub shows_plain : (doc : Doc) (class m : ℕ) (x : Item) → item_at doc m ≡ Some x
    → Each HasRequest (params_of x) → Shows (hides doc (member_node class m)) (params_of x)
shows_plain doc class m x at every n t e fine =
    let o = named_at (params_of x) n t e in
    let r = each_in HasRequest (params_of x) o.0 every
    (in_got (params_of x) (param_number (params_of x) n) o.0 o.1) in
    let P : Shape → Type 0 = λ s. NoProducer (out-Shape s) in
    let mode_is : is_producer_mode r.0.mode ≡ false =
    request_no o.0.shape r.0 (subst P (sym o.2) fine) r.1 in
    ap (λ (ds : List Dependency). option_map_or (λ d. is_producer_mode d.mode) (slice_get ds
    (param_number (params_of x) n)) false) (deps_are doc class m x at every)
    ∙ ap (λ (o : Option Dependency). option_map_or (λ d. is_producer_mode d.mode) o false)
    (slice_get-map (asked_for doc class) (params_of x) (param_number (params_of x) n)
    ∙ ap (option_map (asked_for doc class)) o.1)
    ∙ ap (λ (o : Option Request). is_producer_mode (unwrap_or o no_request).mode) r.1 ∙ mode_is

-- ---- parameters have requests

-- a line with a body
abbrev pub is_member_item : Item → Bool
is_member_item (item.Provides m scope n params result body) = true
is_member_item (item.Produces m n params result body) = true
is_member_item other = false

is_there : {A : Type 0} (o : Option A) → is_some o ≡ true → (x : A) × (o ≡ Some x)
is_there None e = absurd (false≢true e)
is_there (Some x) e = (x, refl)

use_asks : (u : TypeUse) → is_use u ≡ true → (r : Request) × (request_of u ≡ Some r)
unfolding is_use request_of
use_asks u e = let o = is_there (asked_of u.shape) e in (_, ap (option_map _) o.1)

pub provides_ask : (doc : Doc) (x : Item) → ItemFits doc x → is_member_item x ≡ true
    → Each HasRequest (params_of x)
unfolding types_of
provides_ask doc (item.Provides m scope n params result body) fits e =
    params_ask is_plain_use plain_asks params (placed (is_result_use m) result ∷ []) fits.allowed
provides_ask doc (item.Produces m n params result body) fits e =
    params_ask is_use use_asks params (placed (is_result_use m) result ∷ []) fits.allowed
provides_ask doc other fits e = absurd (false≢true e)
