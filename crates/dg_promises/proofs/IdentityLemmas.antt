-- The identities of the objects of `@Inject` classes.
use Rattle.std.proofs.Common.{◌≡◌, ◌↔◌, ℕ, zero, suc, Bool, false, cond, List, [], ◌∷◌, Option, Some, None, option_map, Ok, Err, refl, sym, ap, subst, ◌∙◌}
use Rattle.std.specs.Prelude.{IsTrue}
use Rattle.std.specs.Option.{option_map_or}
use Rattle.std.proofs.lemmas.List.{append_cancel_right}
use Rattle.std.proofs.lemmas.Option.{none-some, same_Some}
use Rattle.dg_decl.specs.declared.document.Doc.{Doc}
use Rattle.dg_decl.specs.declared.binding.BindRef.TheVariants as binding
use Rattle.dg_decl.specs.declared.graph.Node.{Node}
use Rattle.dg_decl.specs.declared.graph.NodeKind.TheVariants as node
use Rattle.dg_decl.specs.Graph.{node_of}
use Rattle.dg_decl.proofs.MemberLemmas.{out_option_map}
use Rattle.dg_slots.specs.Numbered.{number_of_class_item}
use Rattle.dg_value.specs.declared.place.Place.{Place}
use Rattle.dg_value.specs.declared.place.PlaceRoot.{PlaceRoot}
use Rattle.dg_value.specs.declared.place.PlaceRoot.TheVariants as root
use Rattle.dg_value.specs.declared.place.PlaceStep.TheVariants as step
use Rattle.dg_value.specs.declared.value.Kept.TheOpen.{Value-F}
use Rattle.dg_value.specs.declared.value.Kept.TheViews.{out-roll-Value}
use Rattle.dg_value.specs.declared.value.Value.{Value, out-Value}
use Rattle.dg_value.specs.declared.value.Value.TheVariants as value
use Rattle.dg_value.specs.Places.{then_step, same_place}
use Rattle.dg_value.specs.Same.{Layer, same_at, same_element}
use Rattle.dg_value.proofs.PlaceLemmas.{places_tell_equal}
use Rattle.dg_eval.specs.Runs.{Asked, Run, before, and_then, all, mistyped}
use Rattle.dg_eval.specs.Operations.{or_mistyped}
use Rattle.dg_eval.specs.Meaning.{node_in, is_cell, cell_place, Eval, held, instance, given, object_of, eval_node, eval, content_of}
use Rattle.dg_eval.specs.Report.{value_of_run}
use Rattle.dg_eval.proofs.NodeLemmas.{node_in_class}
use Rattle.dg_promises.specs.Uses.{Way, by_request, by_provider, by_lazy, given_by, identity_at, identity_of, IsInjected, IsScopedObject, made_at, IsUnscopedObject, IdentitiesDiffer}

-- ---- values of runs

before_value : {A : Type 0} (asked : List Asked) (x : Run A)
    → value_of_run (before asked x) ≡ value_of_run x
before_value asked None = refl
before_value asked (Some (Ok a, more)) = refl
before_value asked (Some (Err f, more)) = refl

value_then : {A B : Type 0} (x : Run A) (f : A → Run B) (b : B)
    → value_of_run (and_then x f) ≡ Some b → (a : A) × (value_of_run (f a) ≡ Some b)
value_then None f b e = absurd (none-some b e)
value_then (Some (Ok a, asked)) f b e = (a, sym (before_value asked (f a)) ∙ e)
value_then (Some (Err g, asked)) f b e = absurd (none-some b e)

value_or : {A : Type 0} (o : Option A) → value_of_run (or_mistyped o) ≡ o
value_or None = refl
value_or (Some a) = refl

value_option : {A B : Type 0} (o : Option A) (f : A → Run B) (b : B)
    → value_of_run (option_map_or f o mistyped) ≡ Some b
    → (a : A) × (o ≡ Some a) × (value_of_run (f a) ≡ Some b)
value_option None f b e = absurd (none-some b e)
value_option (Some a) f b e = (a, refl, e)

-- ---- the object of a class

out_object : (class : ℕ) (p : Place) (vs : List Value)
    → out-Value (value.Object class p vs) ≡ Value-F.Object class p vs
out_object class p vs =
    ap out-Value (sym (value.rolls-Object class p vs)) ∙ out-roll-Value (Value-F.Object class p vs)

-- it is the first `new` at its place
object_identity : (doc : Doc) (c : ℕ) (q : Place) (vs : List Value) (v : Value)
    → value_of_run (object_of doc c q vs) ≡ Some v
    → identity_of v ≡ Some (then_step q (step.New 1))
object_identity doc c q vs v e =
    let object : ℕ → Value = λ class. value.Object class (then_step q (step.New 1)) vs in
    let o = out_option_map object (number_of_class_item doc c) v
    (sym (value_or (option_map object (number_of_class_item doc c))) ∙ e) in
    ap identity_of (sym o.2) ∙ ap identity_at (out_object o.0 (then_step q (step.New 1)) vs)

eval_identity : (doc : Doc) (d i k : ℕ) (q : Place) (v : Value) → IsInjected doc k
    → value_of_run (eval doc d i k q) ≡ Some v → identity_of v ≡ Some (then_step q (step.New 1))
unfolding eval
eval_identity doc zero i k q v h e = absurd (none-some v e)
eval_identity doc (suc d) i k q v h e =
    let n : Node = node_of h.owner (node.Bound (binding.ClassItem h.class_item)) in
    let o = value_option (node_in doc i k) (λ n. eval_node doc (eval doc d) d i k n q) v e in
    let same : o.0 ≡ n = same_Some o.0 n (sym (node_in_class doc i k o.0 o.1) ∙ h.is_node) in
    let P : Node → Type 0 = λ n. value_of_run (eval_node doc (eval doc d) d i k n q) ≡ Some v in
    let made = value_then (all (given doc (eval doc d) i n q)) (object_of doc h.class_item q) v
    (subst P same o.2) in
    object_identity doc h.class_item q made.0 v made.1

scoped_identity : (doc : Doc) (i k : ℕ) (v : Value) → IsScopedObject doc i k v
    → identity_of v ≡ Some (then_step (cell_place i k) (step.New 1))
unfolding content_of
scoped_identity doc i k v h = eval_identity doc 128 i k (cell_place i k) v h.injected h.content

instance_at : (doc : Doc) (f : Eval) (i k : ℕ) (q : Place) → is_cell doc k ≡ false
    → instance doc f i k q ≡ f i k q
instance_at doc f i k q h = ap (λ b. cond b (held f i k) (f i k q)) h

given_at : (doc : Doc) (d i k : ℕ) (w : Way) → is_cell doc k ≡ false
    → given_by doc d i k w ≡ eval doc d i k (made_at w)
given_at doc d i k (by_request q) h = instance_at doc (eval doc d) i k q h
given_at doc d i k (by_provider q) h = instance_at doc (eval doc d) i k q h
given_at doc d i k (by_lazy p) h = instance_at doc (eval doc d) i k _ h

unscoped_identity : (doc : Doc) (q : Place) (v : Value) → IsUnscopedObject doc q v
    → identity_of v ≡ Some (then_step q (step.New 1))
unscoped_identity doc q v h =
    eval_identity doc h.depth h.inst h.slot (made_at h.way) v h.injected
    (sym (ap value_of_run (given_at doc h.depth h.inst h.slot h.way h.unscoped)) ∙ h.given)
    ∙ ap (λ p. Some (then_step p (step.New 1))) h.at

-- ---- which objects are one

same_objects : (l m : Layer) (p q : Place) → identity_at l ≡ Some p → identity_at m ≡ Some q
    → same_at l m ≡ same_place p q
same_objects (Value-F.Object c a fields) (Value-F.Object d b others) p q e f =
    λ x. same_place (same_Some a p e x) (same_Some b q f x)
same_objects (Value-F.Object c a fields) other p q e f = absurd (none-some q f)
same_objects other m p q e f = absurd (none-some p e)

same_by_identity : (v w : Value) (p q : Place) → identity_of v ≡ Some p → identity_of w ≡ Some q
    → IsTrue (same_element v w) ↔ (p ≡ q)
unfolding same_element
same_by_identity v w p q e f =
    let P : Bool → Type 0 = λ b. IsTrue b ↔ (p ≡ q) in
    subst P (sym (same_objects (out-Value v) (out-Value w) p q e f)) (places_tell_equal p q)

before_new : (p q : Place) → then_step p (step.New 1) ≡ then_step q (step.New 1) → p ≡ q
before_new p q e =
    let steps = append_cancel_right p.steps q.steps (step.New 1 ∷ [])
    (ap (λ (r : Place). r.steps) e) in
    let first = ap (λ (r : Place). r.root) e in
    λ x. record { root = first x; steps = steps x }

abbrev inst_in : PlaceRoot → ℕ
inst_in (root.Cell i k) = i
inst_in other = 0

abbrev slot_in : PlaceRoot → ℕ
slot_in (root.Cell i k) = k
slot_in other = 0

cells_apart : (i k j l : ℕ) → cell_place i k ≡ cell_place j l → (i ≡ j) × (k ≡ l)
cells_apart i k j l e =
    (ap (λ (r : Place). inst_in r.root) e, ap (λ (r : Place). slot_in r.root) e)

one_by_cell : (doc : Doc) (i k j l : ℕ) (v w : Value) → IsScopedObject doc i k v
    → IsScopedObject doc j l w → IsTrue (same_element v w) ↔ ((i ≡ j) × (k ≡ l))
one_by_cell doc i k j l v w g h =
    let one = same_by_identity v w (then_step (cell_place i k) (step.New 1))
    (then_step (cell_place j l) (step.New 1)) (scoped_identity doc i k v g)
    (scoped_identity doc j l w h) in (
      λ s. cells_apart i k j l (before_new (cell_place i k) (cell_place j l) (one.0 s)),
      λ same. one.1 (λ x. then_step (cell_place (same.0 x) (same.1 x)) (step.New 1)),
    )

one_by_place : (doc : Doc) (p q : Place) (v w : Value) → IsUnscopedObject doc p v
    → IsUnscopedObject doc q w → IsTrue (same_element v w) ↔ (p ≡ q)
one_by_place doc p q v w g h =
    let one = same_by_identity v w (then_step p (step.New 1)) (then_step q (step.New 1))
    (unscoped_identity doc p v g) (unscoped_identity doc q w h) in (
      λ s. before_new p q (one.0 s),
      λ same. one.1 (λ x. then_step (same x) (step.New 1)),
    )

pub identities_differ : IdentitiesDiffer
identities_differ doc = record {
  scoped = scoped_identity doc;
  unscoped = unscoped_identity doc;
  instances = one_by_cell doc;
  places = one_by_place doc;
}
