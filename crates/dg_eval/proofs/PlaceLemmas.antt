-- What is evaluated, and each Lazy that is made, stands at its place.
use Rattle.std.proofs.Common.{◌≡◌, ℕ, suc, ◌+◌, List, [], ◌∷◌, ◌++◌, not, slice_get, Contains, Option, Some, None, option_map, option_and_then, refl, sym, ap, subst, ◌∙◌, arith, inl, inr}
use Rattle.std.specs.List.{enumerate_from}
use Rattle.std.proofs.lemmas.Option.{slice_get_within}
use Rattle.dg_types.specs.declared.key.Mode.{Mode}
use Rattle.dg_types.specs.declared.key.Mode.TheVariants as mode
use Rattle.dg_types.specs.declared.key.Key.{Key}
use Rattle.dg_decl.specs.declared.document.Doc.{Doc}
use Rattle.dg_decl.specs.declared.graph.Node.{Node}
use Rattle.dg_decl.specs.declared.graph.NodeKind.{NodeKind}
use Rattle.dg_decl.specs.declared.graph.NodeKind.TheVariants as node
use Rattle.dg_decl.specs.Graph.{Dependency, deps, asked, is_nothing, mode_of_inner, inner_of, node_of}
use Rattle.dg_decl.specs.Lookup.{inside_key}
use Rattle.dg_decl.proofs.MemberLemmas.{none_in, first_or_rest}
use Rattle.dg_slots.proofs.ClassLemmas.{filter_few}
use Rattle.dg_slots.specs.declared.session.Ask.{Ask}
use Rattle.dg_value.specs.declared.place.Place.{Place}
use Rattle.dg_value.specs.declared.place.PlaceRoot.{PlaceRoot}
use Rattle.dg_value.specs.declared.place.PlaceRoot.TheVariants as root
use Rattle.dg_value.specs.declared.place.PlaceStep.{PlaceStep}
use Rattle.dg_value.specs.declared.place.PlaceStep.TheVariants as step
use Rattle.dg_value.specs.Places.{then_step}
use Rattle.dg_eval.specs.Meaning.{node_at, cell_place, Target, target_of, step_to}
use Rattle.dg_eval.specs.At.{Stands, stands, dependency_at, called_mode, calls_of, as_called, call_at, inside_of, step_behind, steps_behind, at_path_step, ask_numbered, at_entry, at_ask, stands_from, stands_at}
use Rattle.dg_eval.specs.Laws.{IsPlaceOf}
use Rattle.dg_eval.proofs.AcceptedDepth.{StagesFindNothing, target_shallow_slot}
use Rattle.dg_eval.proofs.TotalLemmas.{Spot, Placed, Placing}

-- ---- a step further

-- a step that isn't one of an ask's path
abbrev pub IsPart : PlaceStep → Type 0
IsPart (step.Step k) = ⊥
IsPart other = Unit {0}

steps_then : (doc : Doc) (s : Option Stands) (xs : List PlaceStep) (x : PlaceStep)
    → steps_behind doc s (xs ++ x ∷ [])
    ≡ option_and_then (λ t. step_behind doc t x) (steps_behind doc s xs)
steps_then doc s [] x = refl
steps_then doc s (y ∷ xs) x = steps_then doc (option_and_then (λ t. step_behind doc t y) s) xs x

ask_then : (doc : Doc) (number : ℕ) (a : Ask) (xs : List PlaceStep) (x : PlaceStep) → IsPart x
    → at_ask doc number (xs ++ x ∷ []) a
    ≡ option_and_then (λ t. step_behind doc t x) (at_ask doc number xs a)
ask_then doc number a [] (step.Step k) part = absurd part
ask_then doc number a [] (step.Arg m) part = refl
ask_then doc number a [] (step.New m) part = refl
ask_then doc number a [] (step.Call m) part = refl
ask_then doc number a [] (step.Elem m) part = refl
ask_then doc number a [] step.Inside part = refl
ask_then doc number a (step.Step k ∷ xs) x part = steps_then doc (at_path_step doc number a k) xs x
ask_then doc number a (step.Arg m ∷ xs) x part =
    steps_then doc (at_entry doc a) (step.Arg m ∷ xs) x
ask_then doc number a (step.New m ∷ xs) x part =
    steps_then doc (at_entry doc a) (step.New m ∷ xs) x
ask_then doc number a (step.Call m ∷ xs) x part =
    steps_then doc (at_entry doc a) (step.Call m ∷ xs) x
ask_then doc number a (step.Elem m ∷ xs) x part =
    steps_then doc (at_entry doc a) (step.Elem m ∷ xs) x
ask_then doc number a (step.Inside ∷ xs) x part =
    steps_then doc (at_entry doc a) (step.Inside ∷ xs) x

of_ask_then : (doc : Doc) (number : ℕ) (o : Option Ask) (xs : List PlaceStep) (x : PlaceStep)
    → IsPart x
    → option_and_then (at_ask doc number (xs ++ x ∷ [])) o
    ≡ option_and_then (λ t. step_behind doc t x) (option_and_then (at_ask doc number xs) o)
of_ask_then doc number None xs x part = refl
of_ask_then doc number (Some a) xs x part = ask_then doc number a xs x part

from_then : (doc : Doc) (r : PlaceRoot) (xs : List PlaceStep) (x : PlaceStep) → IsPart x
    → stands_from doc r (xs ++ x ∷ [])
    ≡ option_and_then (λ t. step_behind doc t x) (stands_from doc r xs)
from_then doc (root.Ask r) xs x part = of_ask_then doc r (ask_numbered doc r) xs x part
from_then doc (root.Cell i k) xs x part = steps_then doc _ xs x
from_then doc (root.Arg i a) xs x part = refl

-- what stands a step behind what stands at a place
stands_then : (doc : Doc) (q : Place) (x : PlaceStep) (s : Stands) → IsPart x
    → stands_at doc q ≡ Some s → stands_at doc (then_step q x) ≡ step_behind doc s x
unfolding stands_at
stands_then doc q x s part at =
    from_then doc q.root q.steps x part ∙ ap (option_and_then (λ t. step_behind doc t x)) at

-- ---- the steps of a node

abbrev standing : Mode → ℕ → ℕ → Stands
standing m i k = record { mode = m; inst = i; slot = k }

dependency_is : (doc : Doc) (i : ℕ) (n : Node) (m : ℕ) (d : Dependency) (t : Target)
    → slice_get (deps doc n) m ≡ Some d → target_of doc i n d ≡ Some t
    → dependency_at doc i n (suc m) ≡ Some (standing d.mode t.inst t.slot)
dependency_is doc i n m d t got found =
    ap (option_and_then (λ d. option_map (stands d.mode) (target_of doc i n d))) got
    ∙ ap (option_map (stands d.mode)) found

arg_behind : (doc : Doc) (s : Stands) (n : Node) (m : ℕ) → node_at doc s.slot ≡ Some n
    → step_behind doc s (step.Arg m) ≡ dependency_at doc s.inst n m
arg_behind doc s n m is = ap (option_and_then _) is

elem_behind : (doc : Doc) (s : Stands) (n : Node) (m : ℕ) → node_at doc s.slot ≡ Some n
    → step_behind doc s (step.Elem m) ≡ dependency_at doc s.inst n m
elem_behind doc s n m is = ap (option_and_then _) is

call_behind : (doc : Doc) (s : Stands) (n : Node) (c : ℕ) → node_at doc s.slot ≡ Some n
    → step_behind doc s (step.Call c) ≡ call_at doc s.inst n c
call_behind doc s n c is = ap (option_and_then _) is

inside_behind : (doc : Doc) (s : Stands) (n : Node) → node_at doc s.slot ≡ Some n
    → step_behind doc s step.Inside ≡ inside_of doc s n
inside_behind doc s n is = ap (option_and_then _) is

-- ---- where a slot is evaluated

abbrev pub IsNoLazy : Mode → Type 0
IsNoLazy mode.Lazy = ⊥
IsNoLazy other = Unit {0}

-- a slot is evaluated where it stands, and not as a Lazy
abbrev pub Stood : Doc → Spot
Stood doc i k q = (m : Mode) × IsNoLazy m × (stands_at doc q ≡ Some (standing m i k))

pub placed_at : (doc : Doc) (m : Mode) (i k : ℕ) (q : Place)
    → stands_at doc q ≡ Some (record { mode = m; inst = i; slot = k })
    → Placed (Stood doc) (IsPlaceOf doc) m i k q
placed_at doc mode.Instance i k q at = (mode.Instance, tt, at)
placed_at doc mode.Produced i k q at = (mode.Produced, tt, at)
placed_at doc mode.Lazy i k q at = at
placed_at doc other i k q at = tt

-- an optional has one inside
opt_first : (doc : Doc) (class : ℕ) (key : Key) (m : ℕ) (d : Dependency)
    → slice_get (deps doc (node_of class (node.Opt key))) m ≡ Some d → m ≡ 0
unfolding deps
opt_first doc class key m d got =
    let few = filter_few (λ (d : Dependency). not (is_nothing d.found)) (asked doc class None
    (record { mode = mode_of_inner (inner_of key.core); key = inside_key key })
    ∷ []) in
    let lt = slice_get_within (deps doc (node_of class (node.Opt key))) m d got in
    omega (arith, few, lt)

opt_inside : (doc : Doc) (m : Mode) (i k class : ℕ) (key : Key) → IsNoLazy m
    → inside_of doc (standing m i k) (node_of class (node.Opt key))
    ≡ dependency_at doc i (node_of class (node.Opt key)) 1
opt_inside doc mode.Instance i k class key given = refl
opt_inside doc mode.Produced i k class key given = refl
opt_inside doc mode.Provider i k class key given = refl
opt_inside doc mode.Producer i k class key given = refl
opt_inside doc mode.ProviderLazy i k class key given = refl
opt_inside doc mode.Lazy i k class key given = absurd given

-- what stands at the place of a dependency
step_stands : (doc : Doc) (mo : Mode) (i k : ℕ) (q : Place) (class : ℕ) (kind : NodeKind) (m : ℕ)
    → (d : Dependency) (t : Target) → IsNoLazy mo
    → stands_at doc q ≡ Some (standing mo i k) → node_at doc k ≡ Some (node_of class kind)
    → slice_get (deps doc (node_of class kind)) m ≡ Some d
    → target_of doc i (node_of class kind) d ≡ Some t
    → stands_at doc (then_step q (step_to kind (suc m))) ≡ Some (standing d.mode t.inst t.slot)
step_stands doc mo i k q class (node.Multi key) m d t given at is got found =
    stands_then doc q (step.Elem (suc m)) (standing mo i k) tt at
    ∙ elem_behind doc (standing mo i k) (node_of class (node.Multi key)) (suc m) is
    ∙ dependency_is doc i (node_of class (node.Multi key)) m d t got found
step_stands doc mo i k q class (node.Opt key) m d t given at is got found =
    let zero_th : m ≡ 0 = opt_first doc class key m d got in
    let first : slice_get (deps doc (node_of class (node.Opt key))) 0 ≡ Some d =
    sym (ap (slice_get (deps doc (node_of class (node.Opt key)))) zero_th) ∙ got in
    stands_then doc q step.Inside (standing mo i k) tt at
    ∙ inside_behind doc (standing mo i k) (node_of class (node.Opt key)) is
    ∙ opt_inside doc mo i k class key given
    ∙ dependency_is doc i (node_of class (node.Opt key)) 0 d t first found
step_stands doc mo i k q class (node.Bound b) m d t given at is got found =
    stands_then doc q (step.Arg (suc m)) (standing mo i k) tt at
    ∙ arg_behind doc (standing mo i k) (node_of class (node.Bound b)) (suc m) is
    ∙ dependency_is doc i (node_of class (node.Bound b)) m d t got found
step_stands doc mo i k q class (node.EntryOf e) m d t given at is got found =
    stands_then doc q (step.Arg (suc m)) (standing mo i k) tt at
    ∙ arg_behind doc (standing mo i k) (node_of class (node.EntryOf e)) (suc m) is
    ∙ dependency_is doc i (node_of class (node.EntryOf e)) m d t got found

-- what stands at the place of a call
call_stands : (doc : Doc) (mo : Mode) (i k : ℕ) (q : Place) (n : Node) (c p : ℕ) (d : Dependency)
    → (t : Target) → stands_at doc q ≡ Some (standing mo i k) → node_at doc k ≡ Some n
    → slice_get (calls_of doc n) c ≡ Some p → slice_get (deps doc n) p ≡ Some d
    → target_of doc i n d ≡ Some t
    → stands_at doc (then_step q (step.Call (suc c)))
    ≡ Some (standing (called_mode d.mode) t.inst t.slot)
call_stands doc mo i k q n c p d t at is called got found =
    stands_then doc q (step.Call (suc c)) (standing mo i k) tt at
    ∙ call_behind doc (standing mo i k) n (suc c) is
    ∙ ap (option_and_then (λ p. option_map as_called (dependency_at doc i n (suc p)))) called
    ∙ ap (option_map as_called) (dependency_is doc i n p d t got found)

-- the content of a Lazy stands inside
lazy_stands : (doc : Doc) (i k : ℕ) (p : Place) (n : Node) → node_at doc k ≡ Some n
    → IsPlaceOf doc i k p
    → stands_at doc (then_step p step.Inside) ≡ Some (standing mode.Instance i k)
lazy_stands doc i k p n is at =
    stands_then doc p step.Inside (standing mode.Lazy i k) tt at
    ∙ inside_behind doc (standing mode.Lazy i k) n is

cell_stands : (doc : Doc) (i k : ℕ)
    → stands_at doc (cell_place i k) ≡ Some (standing mode.Instance i k)
unfolding stands_at
cell_stands doc i k = refl

-- an element of a list with its index
pub numbered_in : {A : Type 0} (k : ℕ) (xs : List A) (m : ℕ) (x : A)
    → Contains (enumerate_from k xs) (m, x)
    → (j : ℕ) × (m ≡ k + j) × (slice_get xs j ≡ Some x)
numbered_in k [] m x c = absurd (none_in (m, x) c)
numbered_in {A} k (y ∷ ys) m x c =
    elim (first_or_rest (m, x) (k, y) (enumerate_from (k + 1) ys) c) [
      | inl e ↦ (let same : k ≡ m = ap (λ (p : ℕ × A). p.0) e in
          (0, omega arith, ap Some (ap (λ (p : ℕ × A). p.1) e)))
      | inr r ↦ (let o = numbered_in (k + 1) ys m x r in
          let more : m ≡ (k + 1) + o.0 = o.1 in
          (suc o.0, omega arith, o.2))
    ]

nth_dependency : (ds : List Dependency) (m : ℕ) (d : Dependency)
    → Contains (enumerate_from 0 ds) (m, d) → slice_get ds m ≡ Some d
nth_dependency ds m d c =
    let o = numbered_in 0 ds m d c in
    let same : o.0 ≡ m = omega (arith, o.1) in
    let P : ℕ → Type 0 = λ j. slice_get ds j ≡ Some d in
    subst P same o.2

pub placing : (doc : Doc) → StagesFindNothing doc → Placing doc (Stood doc) (IsPlaceOf doc)
placing doc none = record {
  cell = λ i s. (mode.Instance, tt, cell_stands doc i s);
  inside = λ i s p n is at. (mode.Instance, tt, lazy_stands doc i s p n is at);
  arg = λ i s q n m d t is at among found. placed_at doc d.mode t.inst t.slot _
      (step_stands doc at.0 i s q n.class n.kind m d t at.1 at.2 is
      (nth_dependency (deps doc n) m d among) found);
  slot = λ i n d t found. target_shallow_slot doc none i n d t found;
  call = λ i s q n c p d t is at called got found.
      placed_at doc (called_mode d.mode) t.inst t.slot _
      (call_stands doc at.0 i s q n c p d t at.2 is called got found);
}
