-- What a node reaches is asked for by its evaluation, or used by what that asks for.
use Rattle.std.proofs.Common.{◌≡◌, ◌≢◌, ◌⊎◌, inl, inr, ℕ, zero, suc, ◌≤◌, Bool, true, false, cond, ◌||◌, is_some, List, [], ◌∷◌, ◌++◌, map, Contains, Option, Some, None, Ok, Err, refl, sym, ap, subst, ◌∙◌, arith}
use Rattle.std.specs.List.{enumerate_from}
use Rattle.std.specs.Option.{option_map_or}
use Rattle.std.proofs.lemmas.Bool.{false≢true}
use Rattle.std.proofs.lemmas.Option.{none-some, same_Some, slice_get-get_or}
use Rattle.dg_types.specs.declared.key.Mode.{Mode}
use Rattle.dg_types.specs.declared.key.Mode.TheVariants as mode
use Rattle.dg_decl.specs.declared.document.Doc.{Doc}
use Rattle.dg_decl.specs.declared.binding.BindRef.{BindRef}
use Rattle.dg_decl.specs.declared.binding.BindRef.TheVariants as binding
use Rattle.dg_decl.specs.declared.graph.Node.{Node}
use Rattle.dg_decl.specs.declared.graph.NodeKind.{NodeKind}
use Rattle.dg_decl.specs.declared.graph.NodeKind.TheVariants as node
use Rattle.dg_decl.specs.Graph.{Dependency, deps, node_of}
use Rattle.dg_decl.specs.Sizes.{scope_of, is_producer}
use Rattle.dg_decl.proofs.MemberLemmas.{none_in, first_or_rest}
use Rattle.dg_value.specs.declared.place.Place.{Place}
use Rattle.dg_value.specs.declared.value.Value.{Value}
use Rattle.dg_value.specs.declared.value.Value.TheVariants as value
use Rattle.dg_value.specs.Places.{then_step}
use Rattle.dg_eval.specs.Runs as runs
use Rattle.dg_eval.specs.Runs.{Asked, cell, Run, gives, before, and_then, asking, both, all, outcome_of, mistyped}
use Rattle.dg_eval.specs.Meaning.{node_at, node_in, is_cell_node, is_cell, cell_place, Eval, content, held, instance, give, Target, step_to, given_one, given, eval_node, eval}
use Rattle.dg_eval.specs.Asks.{CellName, asked_by}
use Rattle.dg_eval.proofs.GrowthLemmas.{eval_grows_to}
use Rattle.dg_eval.proofs.RunGrowth.{stays}
use Rattle.dg_eval.proofs.RunResults.{Each}
use Rattle.dg_exec.specs.Jobs.{is_producer_at, reached}
use Rattle.dg_exec.specs.Modes.{is_direct}
use Rattle.dg_exec.proofs.FitLemmas.{in_numbered}
use Rattle.dg_exec.proofs.FitWalks.{IsSlotIn, leads_to_slot, DirectStep, Reaches, out_reached, none_reached}
use Rattle.dg_exec.proofs.FitEnds.{in_its_class, eval_step, content_is}

-- ---- a run with a result, all that it asks for is of a kind

-- there is a result, and each that is asked for has the property
pub record Asks {A : Type 0} (W : Asked → Type 0) (r : Run A) : Type 0 where
  pub some : r ≢ None
  pub each : Each W (runs.asks_of r)

each_left : {A : Type 0} (P : A → Type 0) (xs ys : List A) → Each P (xs ++ ys) → Each P xs
each_left P [] ys every = tt
each_left P (x ∷ xs) ys every = (every.0, each_left P xs ys every.1)

each_right : {A : Type 0} (P : A → Type 0) (xs ys : List A) → Each P (xs ++ ys) → Each P ys
each_right P [] ys every = every
each_right P (x ∷ xs) ys every = each_right P xs ys every.1

is_there : {A : Type 0} (x : A) → Some x ≢ None
is_there x e = none-some x (sym e)

first_of_before : {A : Type 0} (W : Asked → Type 0) (asked : List Asked) (r : Run A)
    → Asks W (before asked r) → Each W asked
first_of_before W asked None h = absurd (h.some refl)
first_of_before W asked (Some (a, more)) h = each_left W asked more h.each

-- what goes on asks for what was asked for before
pub first_asks : {A B : Type 0} (W : Asked → Type 0) (x : Run A) (f : A → Run B)
    → Asks W (and_then x f) → Asks W x
first_asks W None f h = absurd (h.some refl)
first_asks W (Some (Ok a, asked)) f h =
    record { some = is_there (Ok a, asked); each = first_of_before W asked (f a) h }
first_asks W (Some (Err e, asked)) f h = record { some = is_there (Err e, asked); each = h.each }

both_first : {A : Type 0} (W : Asked → Type 0) (x : Run A) (xs : Run (List A))
    → Asks W (both x xs) → Asks W x
both_first W None xs h = absurd (h.some refl)
both_first W (Some (a, asked)) None h = absurd (h.some refl)
both_first W (Some (a, asked)) (Some (more, others)) h =
    record { some = is_there (a, asked); each = each_left W asked others h.each }

both_rest : {A : Type 0} (W : Asked → Type 0) (x : Run A) (xs : Run (List A))
    → Asks W (both x xs) → Asks W xs
both_rest W None xs h = absurd (h.some refl)
both_rest W (Some (a, asked)) None h = absurd (h.some refl)
both_rest W (Some (a, asked)) (Some (more, others)) h =
    record { some = is_there (more, others); each = each_right W asked others h.each }

-- all of some runs ask for what each of them does
pub all_ask : {A B : Type 0} (W : Asked → Type 0) (f : A → Run B) (xs : List A) (x : A)
    → Asks W (all (map f xs)) → Contains xs x → Asks W (f x)
all_ask W f [] x h c = absurd (none_in x c)
all_ask {A} {B} W f (y ∷ ys) x h c =
    elim (first_or_rest x y ys c) [
      | inl e ↦ (let P : A → Type 0 = λ z. Asks W (f z) in
          subst P e (both_first W (f y) (all (map f ys)) h))
      | inr r ↦ all_ask W f ys x (both_rest W (f y) (all (map f ys)) h) r
    ]

outcome_asks : (W : Asked → Type 0) (r : Run Value) → Asks W (outcome_of r) → Asks W r
outcome_asks W None h = absurd (h.some refl)
outcome_asks W (Some (a, asked)) h = record { some = is_there (a, asked); each = h.each }

asking_asks : {A : Type 0} (W : Asked → Type 0) (x : Asked) (r : Run A) → Asks W (asking x r)
    → W x × (r ≢ None)
asking_asks W x None h = absurd (h.some refl)
asking_asks W x (Some (a, asked)) h = (h.each.0, is_there (a, asked))

then_some : {A B : Type 0} (x : Run A) (f : A → Run B) → and_then x f ≢ None → x ≢ None
then_some None f some e = some refl
then_some (Some r) f some e = is_there r e

-- ---- what a direct request asks for

-- a cell that is asked for, with what its content asks for; or a slot that is evaluated here
abbrev pub AskedFor : (Asked → Type 0) → Doc → Eval → ℕ → ℕ → Place → Type 0
AskedFor W doc f i k q =
    ((is_cell doc k ≡ true) × W (cell i k) × (content f i k ≢ None))
    ⊎ ((is_cell doc k ≡ false) × Asks W (f i k q))

instance_asks : (W : Asked → Type 0) (doc : Doc) (f : Eval) (i k : ℕ) (q : Place)
    → Asks W (instance doc f i k q) → AskedFor W doc f i k q
instance_asks W doc f i k q h = by_test (is_cell doc k) h
  where
    by_test : (b : Bool) → Asks W (cond b (held f i k) (f i k q))
        → ((b ≡ true) × W (cell i k) × (content f i k ≢ None)) ⊎ ((b ≡ false) × Asks W (f i k q))
    by_test true h =
        let a = asking_asks W (cell i k)
        (and_then (content f i k) (λ v. gives (value.Held i k))) h in
        inl (refl, a.0, then_some (content f i k) (λ v. gives (value.Held i k)) a.1)
    by_test false h = inr (refl, h)

give_asks : (W : Asked → Type 0) (doc : Doc) (f : Eval) (m : Mode) (i k : ℕ) (q : Place)
    → is_direct m ≡ true → Asks W (give doc f m i k q) → AskedFor W doc f i k q
give_asks W doc f mode.Instance i k q e h = instance_asks W doc f i k q h
give_asks W doc f mode.Produced i k q e h =
    instance_asks W doc f i k q (outcome_asks W (instance doc f i k q) h)
give_asks W doc f other i k q e h = absurd (false≢true e)

-- each dependency of a node is evaluated
abbrev pub EachGiven : (Asked → Type 0) → Doc → Eval → ℕ → Node → Place → Type 0
EachGiven W doc f i n q =
    (m : ℕ) (d : Dependency) → Contains (enumerate_from 0 (deps doc n)) (m, d)
    → Asks W (given_one doc f i n q (suc m) d)

given_asks : (W : Asked → Type 0) (doc : Doc) (f : Eval) (i : ℕ) (n : Node) (q : Place)
    → Asks W (all (given doc f i n q)) → EachGiven W doc f i n q
given_asks W doc f i n q h m d c =
    all_ask W (λ (d : ℕ × Dependency). given_one doc f i n q (suc d.0) d.1)
    (enumerate_from 0 (deps doc n)) (m, d) h c

no_deps : (W : Asked → Type 0) (doc : Doc) (f : Eval) (i : ℕ) (n : Node) (q : Place)
    → deps doc n ≡ [] → EachGiven W doc f i n q
no_deps W doc f i n q e m d c =
    let P : List Dependency → Type 0 = λ ds. Contains (enumerate_from 0 ds) (m, d) in
    absurd (none_in (m, d) (subst P e c))

arg_needs : (doc : Doc) (class a : ℕ) → deps doc (node_of class (node.Bound (binding.Arg a))) ≡ []
unfolding deps
arg_needs doc class a = refl

default_needs : (doc : Doc) (class : ℕ)
    → deps doc (node_of class (node.Bound binding.Default)) ≡ []
unfolding deps
default_needs doc class = refl

binding_asks : (W : Asked → Type 0) (doc : Doc) (f : Eval) (depth i k class : ℕ) (b : BindRef)
    → (q : Place) → Asks W (eval_node doc f depth i k (node_of class (node.Bound b)) q)
    → EachGiven W doc f i (node_of class (node.Bound b)) q
binding_asks W doc f depth i k class (binding.Member m) q h =
    given_asks W doc f i (node_of class (node.Bound (binding.Member m))) q
    (first_asks W (all (given doc f i (node_of class (node.Bound (binding.Member m))) q)) _
    (first_asks W _ _ h))
binding_asks W doc f depth i k class (binding.ClassItem c) q h =
    given_asks W doc f i (node_of class (node.Bound (binding.ClassItem c))) q
    (first_asks W (all (given doc f i (node_of class (node.Bound (binding.ClassItem c))) q)) _ h)
binding_asks W doc f depth i k class (binding.Arg a) q h =
    no_deps W doc f i (node_of class (node.Bound (binding.Arg a))) q (arg_needs doc class a)
binding_asks W doc f depth i k class binding.Default q h =
    no_deps W doc f i (node_of class (node.Bound binding.Default)) q (default_needs doc class)
binding_asks W doc f depth i k class (binding.Exposed dep e) q h =
    given_asks W doc f i (node_of class (node.Bound (binding.Exposed dep e))) q
    (first_asks W (all (given doc f i (node_of class (node.Bound (binding.Exposed dep e))) q)) _ h)

-- the evaluation of a node evaluates all that it depends on
node_asks : (W : Asked → Type 0) (doc : Doc) (f : Eval) (depth i k class : ℕ) (kind : NodeKind)
    → (q : Place) → Asks W (eval_node doc f depth i k (node_of class kind) q)
    → EachGiven W doc f i (node_of class kind) q
node_asks W doc f depth i k class (node.Bound b) q h = binding_asks W doc f depth i k class b q h
node_asks W doc f depth i k class (node.Multi key) q h =
    given_asks W doc f i (node_of class (node.Multi key)) q
    (first_asks W (all (given doc f i (node_of class (node.Multi key)) q)) _ h)
node_asks W doc f depth i k class (node.Opt key) q h =
    given_asks W doc f i (node_of class (node.Opt key)) q
    (first_asks W (all (given doc f i (node_of class (node.Opt key)) q)) _ h)
node_asks W doc f depth i k class (node.EntryOf e) q h =
    given_asks W doc f i (node_of class (node.EntryOf e)) q
    (first_asks W (all (given doc f i (node_of class (node.EntryOf e)) q)) _ h)

-- ---- what is reached

-- what is used is closed under what contents ask for
abbrev pub IsClosed : Doc → (Asked → Type 0) → Type 0
IsClosed doc W = (x : Asked) → W x → Each W (asked_by doc x)

abbrev pub CellIn : (Asked → Type 0) → CellName → Type 0
CellIn W c = W (cell c.inst c.slot)

-- the evaluation of a content, where the cell is used
content_asks : (W : Asked → Type 0) (doc : Doc) → IsClosed doc W → (d i k : ℕ) → d ≤ 128
    → W (cell i k) → content (eval doc d) i k ≢ None
    → Asks W (eval doc 128 i k (cell_place i k))
unfolding asked_by
content_asks W doc closed d i k le w some =
    let more : eval doc 128 i k (cell_place i k) ≡ eval doc d i k (cell_place i k) =
    stays (eval doc d i k (cell_place i k)) (eval doc 128 i k (cell_place i k))
    (eval_grows_to doc d 128 le i k (cell_place i k)) some in
    let P : Run Value → Type 0 = λ r. Each W (runs.asks_of r) in
    record {
      some = λ e. some (sym more ∙ e);
      each = subst P (content_is doc i k) (closed (cell i k) w);
    }

producer_is_cell : (doc : Doc) (k : ℕ) → is_producer_at doc k ≡ true → is_cell doc k ≡ true
unfolding is_cell
producer_is_cell doc k h = by_node (node_at doc k) h
  where
    either : (b : Bool) → (b || true) ≡ true
    either true = refl
    either false = refl

    by_node : (o : Option Node) → option_map_or (is_producer doc) o false ≡ true
        → option_map_or (is_cell_node doc) o false ≡ true
    by_node None h = absurd (false≢true h)
    by_node (Some n) h =
        ap (λ (b : Bool). is_some (scope_of doc n) || b) h ∙ either (is_some (scope_of doc n))

-- what is so behind a direct edge
behind_asked : (W : Asked → Type 0) (doc : Doc) → IsClosed doc W → (edges d : ℕ) → d ≤ 128
    → (t : Target) (q : Place) (c : CellName) → IsSlotIn doc t
    → AskedFor W doc (eval doc d) t.inst t.slot q → Reaches doc edges t c
    → ((e : ℕ) (p : Place) (x : Node) → e ≤ 128 → node_in doc t.inst t.slot ≡ Some x
    → Asks W (eval doc e t.inst t.slot p) → Contains (reached doc edges t.inst x) c → CellIn W c)
    → CellIn W c
behind_asked W doc closed edges d le t q c s a r later =
    elim r [
      | inl p ↦ elim a [
        | inl b ↦ subst (CellIn W) p.1 b.1
        | inr b ↦ absurd (false≢true (sym b.0 ∙ producer_is_cell doc t.slot p.0))
      ]
      | inr p ↦ (let x : s.node ≡ p.1.0 = same_Some s.node p.1.0 (sym s.is_node ∙ p.1.1) in
          let there : node_in doc t.inst t.slot ≡ Some p.1.0 =
          in_its_class doc t.inst t.slot s.node s.is_node s.class ∙ ap Some x in
          elim a [
            | inl b ↦ later 128 (cell_place t.inst t.slot) p.1.0 (omega arith) there
                (content_asks W doc closed d t.inst t.slot le b.1 b.2) p.1.2
            | inr b ↦ later d q p.1.0 le there b.1 p.1.2
          ])
    ]

no_result : (doc : Doc) (i k : ℕ) (q : Place) → eval doc zero i k q ≡ None
unfolding eval
no_result doc i k q = refl

-- the evaluation of a slot evaluates all that it depends on, at a depth that is one less
record GivenBelow (W : Asked → Type 0) (doc : Doc) (e i : ℕ) (n : Node) (q : Place) : Type 0 where
  depth : ℕ
  less : depth ≤ e
  given : EachGiven W doc (eval doc depth) i n q

eval_asks : (W : Asked → Type 0) (doc : Doc) (e i k : ℕ) (q : Place) (n : Node)
    → node_in doc i k ≡ Some n → Asks W (eval doc e i k q) → GivenBelow W doc e i n q
eval_asks W doc zero i k q n there h = absurd (h.some (no_result doc i k q))
eval_asks W doc (suc d) i k q n there h =
    let P : Run Value → Type 0 = Asks W in
    record {
      depth = d;
      less = omega arith;
      given = node_asks W doc (eval doc d) d i k n.class n.kind q
          (subst P (eval_step doc d i k q n there) h);
    }

-- Where all that a node depends on is evaluated, the cell of each producer that it reaches is asked
-- for, or used by what is asked for.
pub reached_given : (W : Asked → Type 0) (doc : Doc) → IsClosed doc W → (edges d i : ℕ) → d ≤ 128
    → (n : Node) (q : Place) (c : CellName) → EachGiven W doc (eval doc d) i n q
    → Contains (reached doc edges i n) c → CellIn W c
reached_given W doc closed zero d i le n q c given h = absurd (none_reached doc i n c h)
reached_given W doc closed (suc edges) d i le n q c given h =
    let o = out_reached doc edges i n c h in
    let s : DirectStep doc i n o.0 = o.1 in
    let at = slice_get-get_or (deps doc n) s.among.0 s.dependency s.among.1 ∙ ap Some s.among.2 in
    let P : Option Target → Type 0 = λ t. Asks W (option_map_or (λ t. give doc (eval doc d)
    s.dependency.mode t.inst t.slot (then_step q (step_to n.kind (suc s.among.0)))) t mistyped) in
    let a = give_asks W doc (eval doc d) s.dependency.mode o.0.inst o.0.slot
    (then_step q (step_to n.kind (suc s.among.0))) s.direct
    (subst P s.found (given s.among.0 s.dependency
    (in_numbered (deps doc n) s.among.0 s.dependency at))) in
    behind_asked W doc closed edges d le o.0 (then_step q (step_to n.kind (suc s.among.0))) c
    (leads_to_slot doc i n s.dependency o.0 s.found) a o.2
    (λ e p x most there asks on. (let b = eval_asks W doc e o.0.inst o.0.slot p x there asks in
    let less : b.depth ≤ e = b.less in
    reached_given W doc closed edges b.depth o.0.inst (omega (arith, less, most)) x p c b.given on))

-- the same of a slot that is evaluated
pub reached_asked : (W : Asked → Type 0) (doc : Doc) → IsClosed doc W → (edges d i k : ℕ)
    → d ≤ 128 → (n : Node) (q : Place) (c : CellName) → node_in doc i k ≡ Some n
    → Asks W (eval doc d i k q) → Contains (reached doc edges i n) c → CellIn W c
reached_asked W doc closed edges d i k le n q c there asks h =
    let b = eval_asks W doc d i k q n there asks in
    let less : b.depth ≤ d = b.less in
    reached_given W doc closed edges b.depth i (omega (arith, less, le)) n q c b.given h
