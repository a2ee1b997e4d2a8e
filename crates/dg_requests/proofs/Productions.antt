-- In an accepted document a production that isn't a producer is passed on by the slot of an exposed
-- entry or an unscoped `binds` line, from its one dependency.
use Rattle.std.proofs.Common.{◌≡◌, ◌⊎◌, inl, inr, ℕ, suc, ◌+◌, Bool, true, false, cond, not, is_some, List, [], ◌∷◌, filter_map, slice_get, Contains, Option, Some, None, option_map, option_and_then, option_to_list, refl, sym, ap, subst, ◌∙◌, arith}
use Rattle.std.specs.List.{cons_option, enumerate_from}
use Rattle.std.specs.Option.{option_map_or}
use Rattle.std.proofs.lemmas.Bool.{false≢true}
use Rattle.std.proofs.lemmas.Option.{none-some, same_Some}
use Rattle.dg_lex.specs.Bytes.{Bytes}
use Rattle.dg_types.specs.declared.key.Base.{Base}
use Rattle.dg_types.specs.declared.key.Base.TheVariants as base
use Rattle.dg_types.specs.declared.key.Core.{Core}
use Rattle.dg_types.specs.declared.key.Core.TheVariants as core
use Rattle.dg_types.specs.declared.key.Key.{Key}
use Rattle.dg_types.specs.declared.key.Mode.{Mode}
use Rattle.dg_types.specs.declared.key.Mode.TheVariants as mode
use Rattle.dg_types.specs.declared.key.Request.{Request}
use Rattle.dg_types.specs.declared.shape.Qualifier.{Qualifier}
use Rattle.dg_types.specs.declared.shape.Shape.{out-Shape}
use Rattle.dg_types.specs.declared.shape.Shape.TheOpen.{Shape-F}
use Rattle.dg_types.specs.declared.shape.TypeUse.{TypeUse}
use Rattle.dg_types.specs.Requests.{Layer, Asked, base_at, base_of, plain_at, plain_of, producing_of, first_of_two, asked_of, request_of}
use Rattle.dg_decl.specs.declared.document.Doc.{Doc}
use Rattle.dg_decl.specs.declared.binding.BindRef.{BindRef}
use Rattle.dg_decl.specs.declared.binding.BindRef.TheVariants as binding
use Rattle.dg_decl.specs.declared.component.Exposed.{Exposed}
use Rattle.dg_decl.specs.declared.graph.Node.{Node}
use Rattle.dg_decl.specs.declared.graph.NodeKind.TheVariants as node
use Rattle.dg_decl.specs.declared.item.Item.{Item}
use Rattle.dg_decl.specs.declared.item.Item.TheVariants as item
use Rattle.dg_decl.specs.declared.item.Mark.{Mark}
use Rattle.dg_decl.specs.declared.item.Param.{Param}
use Rattle.dg_decl.specs.Diagnostics.{IsAccepted}
use Rattle.dg_decl.specs.Walks.{IsReached, root, step}
use Rattle.dg_decl.specs.Names.{item_at, params_of, result_of}
use Rattle.dg_decl.specs.Components.{deps_of, entries_of, plain_instance, exposed_key, exposed_as, exposed_of}
use Rattle.dg_decl.specs.Graph.{Dependency, asked, of_param, of_entry, deps, targets, node_of, nodes}
use Rattle.dg_decl.specs.Sizes.{is_producer, is_unscoped_binds, passed_on, IsProduction, is_production}
use Rattle.dg_decl.specs.Stages.Types.{is_base_use, types_of}
use Rattle.dg_decl.proofs.GraphLemmas.{productions_by_short_walks}
use Rattle.dg_decl.proofs.MemberLemmas.{none_in, in_front, first_or_rest, the_one, out_flat_map, out_filter_map, out_option_map, out_and_then, out_if, in_if}
use Rattle.dg_eval.proofs.AcceptedDepth.{stages_of_accepted, not_nil}
use Rattle.dg_eval.proofs.CallLemmas.{item_fits}
use Rattle.dg_requests.proofs.NodeKinds.{BindingFits, IsInjected}

-- ---- walks by their first step

first_step : {N : Type 0} (next : N → List N) (n m : N) → IsReached next (n ∷ []) m
    → (n ≡ m) ⊎ ((t : N) × Contains (next n) t × IsReached next (t ∷ []) m)
first_step {N} next n m (root a c) = inl (the_one m n c)
first_step {N} next n m (step a b w c) = from (first_step next n a w)
  where
    from : (n ≡ a) ⊎ ((t : N) × Contains (next n) t × IsReached next (t ∷ []) a)
        → (n ≡ m) ⊎ ((t : N) × Contains (next n) t × IsReached next (t ∷ []) m)
    from (inl e) = inr (m, subst (λ x. Contains (next x) m) (sym e) c, root m (in_front m []))
    from (inr f) = inr (f.0, f.1, step a m f.2 c)

one_more : {N : Type 0} (next : N → List N) (n t m : N) → Contains (next n) t
    → IsReached next (t ∷ []) m → IsReached next (n ∷ []) m
one_more next n t m c (root a h) =
    step n m (root n (in_front n [])) (subst (Contains (next n)) (the_one m t h) c)
one_more next n t m c (step a b w h) = step a m (one_more next n t a c w) h

-- ---- productions by one step

pub producer_is : (doc : Doc) (n : Node) → Contains (nodes doc) n → is_producer doc n ≡ true
    → is_production doc n ≡ true
producer_is doc n among h =
    (productions_by_short_walks doc n among).1 (n, root n (in_front n []), h)

pub passed_production : (doc : Doc) (n t : Node) → Contains (nodes doc) n → Contains (nodes doc) t
    → Contains (passed_on doc n) t → is_production doc t ≡ true → is_production doc n ≡ true
passed_production doc n t among there c h =
    let w = (productions_by_short_walks doc t there).0 h in
    (productions_by_short_walks doc n among).1 (w.0, one_more (passed_on doc) n t w.0 c w.1, w.2)

pub production_passes : (doc : Doc) (n : Node) → Contains (nodes doc) n → is_producer doc n ≡ false
    → is_production doc n ≡ true → (t : Node) × Contains (passed_on doc n) t × IsProduction doc t
production_passes doc n among other h =
    let w = (productions_by_short_walks doc n among).0 h in
    elim (first_step (passed_on doc) n w.0 w.1) [
      | inl e ↦ absurd (false≢true (sym other ∙ ap (is_producer doc) e ∙ w.2))
      | inr f ↦ (f.0, f.1, (w.0, f.2, w.2))
    ]

-- ---- what passes on

-- an exposed entry, or an unscoped `binds` line
abbrev pub Passes : Doc → BindRef → Type 0
Passes doc (binding.Exposed dep entry) = Unit {0}
Passes doc (binding.Member m) =
    (x : Item) × (item_at doc m ≡ Some x) × (is_unscoped_binds x ≡ true)
Passes doc other = ⊥

so_item : (o : Option Item) → option_map_or is_unscoped_binds o false ≡ true
    → (x : Item) × (o ≡ Some x) × (is_unscoped_binds x ≡ true)
so_item None e = absurd (false≢true e)
so_item (Some x) e = (x, refl, e)

injected_no : (x : Item) → IsInjected x → is_unscoped_binds x ≡ true → ⊥
injected_no (item.Binds mk scope n param result) i e = i
injected_no other i e = false≢true e

pub passed_to : (doc : Doc) (class : ℕ) (b : BindRef) (t : Node) → BindingFits doc class b
    → Contains (passed_on doc (node_of class (node.Bound b))) t
    → Contains (targets doc (node_of class (node.Bound b))) t × Passes doc b
unfolding passed_on
passed_to doc class (binding.Exposed dep entry) t fits c = (c, tt)
passed_to doc class (binding.Member m) t fits c =
    let w = out_if (option_map_or is_unscoped_binds (item_at doc m) false)
    (targets doc (node_of class (node.Bound (binding.Member m)))) t c in
    (w.1, so_item (item_at doc m) w.0)
passed_to doc class (binding.ClassItem m) t fits c =
    let w = out_if (option_map_or is_unscoped_binds (item_at doc m) false)
    (targets doc (node_of class (node.Bound (binding.ClassItem m)))) t c in
    let x = so_item (item_at doc m) w.0 in
    let same : x.0 ≡ fits.0 = same_Some x.0 fits.0 (sym x.1 ∙ fits.1) in
    absurd (injected_no fits.0 fits.2 (sym (ap is_unscoped_binds same) ∙ x.2))
passed_to doc class (binding.Arg a) t fits c = absurd (none_in t c)
passed_to doc class binding.Default t fits c = absurd (none_in t c)

pub to_passed : (doc : Doc) (class : ℕ) (b : BindRef) (t : Node) → Passes doc b
    → Contains (targets doc (node_of class (node.Bound b))) t
    → Contains (passed_on doc (node_of class (node.Bound b))) t
unfolding passed_on
to_passed doc class (binding.Exposed dep entry) t passes c = c
to_passed doc class (binding.Member m) t passes c =
    in_if (option_map_or is_unscoped_binds (item_at doc m) false)
    (targets doc (node_of class (node.Bound (binding.Member m)))) t
    (ap (λ (o : Option Item). option_map_or is_unscoped_binds o false) passes.1 ∙ passes.2) c
to_passed doc class (binding.ClassItem m) t passes c = absurd passes
to_passed doc class (binding.Arg a) t passes c = absurd passes
to_passed doc class binding.Default t passes c = absurd passes

-- ---- the one dependency of what passes on

-- a node has one dependency, which asks for an instance of a base type
pub record OneInstance (doc : Doc) (n : Node) : Type 0 where
  pub only : Dependency
  pub are : deps doc n ≡ only ∷ []
  pub mode : only.mode ≡ mode.Instance
  pub base : Base
  pub key : only.key.core ≡ core.One base

base_asked : (l : Layer) (b : Base) → base_at l ≡ Some b
    → plain_at l ≡ Some (mode.Instance, core.One b)
base_asked Shape-F.Text b e =
    ap (λ (b : Base). Some (mode.Instance, core.One b)) (same_Some base.Text b e)
base_asked Shape-F.Int b e =
    ap (λ (b : Base). Some (mode.Instance, core.One b)) (same_Some base.Int b e)
base_asked (Shape-F.Named n) b e =
    ap (λ (b : Base). Some (mode.Instance, core.One b)) (same_Some (base.Named n) b e)
base_asked other b e = absurd (none-some b e)

abbrev base_request : TypeUse → Base → Request
base_request u b = record {
  mode = mode.Instance;
  key = record { qualifier = u.qualifier; core = core.One b };
}

requests_base : (u : TypeUse) (b : Base) → base_of u.shape ≡ Some b
    → request_of u ≡ Some (base_request u b)
unfolding request_of asked_of plain_of base_of
requests_base u b e =
    ap (λ (o : Option Asked). option_map (λ (a : Asked). record {
      mode = a.0;
      key = record { qualifier = u.qualifier; core = a.1 };
    }) (first_of_two o (producing_of u.shape))) (base_asked (out-Shape u.shape) b e)

some_of : {A : Type 0} (o : Option A) → is_some o ≡ true → (x : A) × (o ≡ Some x)
some_of None e = absurd (false≢true e)
some_of (Some x) e = (x, refl)

kept_nil : {A : Type 0} (b : Bool) (x : A) (xs : List A) → cond (not b) (x ∷ xs) xs ≡ []
    → b ≡ true
kept_nil true x xs e = refl
kept_nil false x xs e = absurd (not_nil x xs e)

binds_base : (doc : Doc) → IsAccepted doc → (m : ℕ) (mk : Option Mark) (scope : Option Bytes)
    → (n : Bytes) (param : Param) (result : TypeUse)
    → item_at doc m ≡ Some (item.Binds mk scope n param result)
    → (b : Base) × (base_of param.shape.shape ≡ Some b)
unfolding types_of
binds_base doc accepted m mk scope n param result at =
    let fits = item_fits doc (stages_of_accepted doc accepted) m
    (item.Binds mk scope n param result) at in
    some_of (base_of param.shape.shape)
    (kept_nil (is_base_use param.shape) _ _ fits.allowed)

binds_one : (doc : Doc) → IsAccepted doc → (class m : ℕ) (x : Item) → item_at doc m ≡ Some x
    → is_unscoped_binds x ≡ true → OneInstance doc (node_of class (node.Bound (binding.Member m)))
unfolding deps
binds_one doc accepted class m (item.Binds mk scope n param result) at h =
    let b = binds_base doc accepted m mk scope n param result at in
    let r = requests_base param.shape b.0 b.1 in
    record {
      only = asked doc class (Some param.name) (base_request param.shape b.0);
      are = ap (λ (o : Option Item). option_map_or (λ (x : Item). filter_map (of_param doc class)
          (params_of x)) o []) at
          ∙ ap (λ (o : Option Request). cons_option
          (option_map (asked doc class (Some param.name)) o) []) r;
      mode = refl;
      base = b.0;
      key = refl;
    }
binds_one doc accepted class m other at h = absurd (false≢true h)

plain_is : (m : Mode) (q : Option Qualifier) (c : Core) (k : Key)
    → plain_instance (record { mode = m; key = record { qualifier = q; core = c } }) ≡ Some k
    → (m ≡ mode.Instance) × ((b : Base) × (c ≡ core.One b))
plain_is mode.Instance q (core.One b) k e = (refl, (b, refl))
plain_is m q c k e = absurd (none-some k e)

enumerated : {A : Type 0} (k : ℕ) (xs : List A) (p : ℕ × A) → Contains (enumerate_from k xs) p
    → (j : ℕ) × (p.0 ≡ k + j) × (slice_get xs j ≡ Some p.1)
enumerated k [] p c = absurd (none_in p c)
enumerated {A} k (x ∷ xs) p c =
    elim (first_or_rest p (k, x) (enumerate_from (k + 1) xs) c) [
      | inl e ↦ (let index : k ≡ p.0 = ap (λ (p : ℕ × A). p.0) e in
          (0, omega arith, ap (λ (p : ℕ × A). Some p.1) e))
      | inr r ↦ (let w = enumerated (k + 1) xs p r in
          let index : p.0 ≡ k + 1 + w.0 = w.1 in
          (suc w.0, omega arith, w.2))
    ]

exposed_one : (doc : Doc) (class dep entry : ℕ) → BindingFits doc class (binding.Exposed dep entry)
    → OneInstance doc (node_of class (node.Bound (binding.Exposed dep entry)))
unfolding deps exposed_of
exposed_one doc class dep entry fits =
    let d = out_flat_map (λ (d : ℕ × ℕ). filter_map (exposed_as doc d.0) (entries_of doc d.1))
    (enumerate_from 0 (deps_of doc class)) fits.0 fits.1 in
    let e = out_filter_map (exposed_as doc d.0.0) (entries_of doc d.0.1) fits.0 d.2 in
    let k = out_option_map _ (exposed_key doc e.0) fits.0 e.2 in
    let r = out_and_then plain_instance (option_and_then request_of
    (option_and_then result_of (item_at doc e.0))) k.0 k.1 in
    let plain = plain_is r.0.mode r.0.key.qualifier r.0.key.core k.0 r.2 in
    let place = enumerated 0 (deps_of doc class) d.0 d.1 in
    let same_entry : e.0 ≡ entry = ap (λ (x : Exposed). x.entry) k.2 ∙ fits.3 in
    let same_dep : place.0 ≡ dep = (let first : d.0.0 ≡ 0 + place.0 = place.1 in
    let given : d.0.0 ≡ dep = ap (λ (x : Exposed). x.dep) k.2 ∙ fits.2 in
    omega arith) in
    record {
      only = asked doc d.0.1 None r.0;
      are = ap (λ (o : Option ℕ). option_map_or (λ d. of_entry doc d entry) o [])
          (sym (ap (slice_get (deps_of doc class)) same_dep) ∙ place.2)
          ∙ ap (λ (o : Option Request). option_to_list (option_map (asked doc d.0.1 None) o))
          (sym (ap (λ (x : ℕ). option_and_then request_of (option_and_then result_of
          (item_at doc x))) same_entry) ∙ r.1);
      mode = plain.0;
      base = plain.1.0;
      key = plain.1.1;
    }

pub passing_one : (doc : Doc) → IsAccepted doc → (class : ℕ) (b : BindRef)
    → BindingFits doc class b → Passes doc b → OneInstance doc (node_of class (node.Bound b))
passing_one doc accepted class (binding.Exposed dep entry) fits passes =
    exposed_one doc class dep entry fits
passing_one doc accepted class (binding.Member m) fits passes =
    binds_one doc accepted class m passes.0 passes.1 passes.2
passing_one doc accepted class (binding.ClassItem m) fits passes = absurd passes
passing_one doc accepted class (binding.Arg a) fits passes = absurd passes
passing_one doc accepted class binding.Default fits passes = absurd passes
