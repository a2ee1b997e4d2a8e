-- What walks of direct edges find, one edge after another.
use Rattle.std.proofs.Common.{◌≡◌, inl, inr, ℕ, zero, suc, ◌+◌, ◌<◌, ◌≤◌, Bool, true, false, cond, List, [], ◌∷◌, ◌++◌, length, map, flat_map, take, get_or, slice_get, Contains, Option, Some, None, option_map, refl, sym, ap, subst, ◌∙◌, append-nil, arith}
use Rattle.std.specs.Option.{option_map_or}
use Rattle.std.proofs.lemmas.Bool.{false≢true}
use Rattle.std.proofs.lemmas.Grind.{flat_map-append}
use Rattle.std.proofs.lemmas.List.{map-append, take_more, take_all}
use Rattle.std.proofs.lemmas.Option.{none-some, same_Some, get_or_from_slice_get, slice_get_within}
use Rattle.dg_types.specs.declared.key.Mode.{Mode}
use Rattle.dg_types.specs.declared.key.Mode.TheVariants as mode
use Rattle.dg_decl.specs.declared.document.Doc.{Doc}
use Rattle.dg_decl.specs.declared.graph.EdgeKind.TheVariants as edge
use Rattle.dg_decl.specs.declared.graph.Node.{Node}
use Rattle.dg_decl.specs.Diagnostics.{IsAccepted}
use Rattle.dg_decl.specs.Graph.{Dependency, deps, nodes, edge_kind}
use Rattle.dg_decl.specs.Sizes.{is_producer}
use Rattle.dg_decl.proofs.MemberLemmas.{none_in, in_got, in_map, out_map}
use Rattle.dg_slots.specs.declared.plan.Input.{Input}
use Rattle.dg_slots.specs.declared.plan.Plan.{Plan}
use Rattle.dg_slots.specs.declared.plan.Slot.{Slot}
use Rattle.dg_slots.specs.Plans.{inputs_of, slot_of}
use Rattle.dg_eval.specs.declared.world.World.{World}
use Rattle.dg_eval.specs.Asks.{CellName as Cell}
use Rattle.dg_eval.specs.Meaning.{node_at, node_in, Target as Look, target_of, enough, eval, cell_place}
use Rattle.dg_eval.proofs.AcceptedDepth.{stages_of_accepted}
use Rattle.dg_eval.proofs.EntryNodes.{node_shallow}
use Rattle.dg_eval.proofs.InputLemmas.{inputs_are_look_ups, no_input_is_left_out}
use Rattle.dg_eval.proofs.TargetLemmas.{Shallow, none_shallow, direct_shallow}
use Rattle.dg_requests.specs.Contexts.{IsContextOf, IsInputFor, WalksAreShort, is_producing}
use Rattle.dg_requests.proofs.Behind.{slot_is}
use Rattle.dg_requests.proofs.ContextLemmas.{slots_are, in_class_is, in_its_class}
use Rattle.dg_requests.proofs.GivingLemmas.{input_here}
use Rattle.dg_exec.specs.declared.cells.CellName.{CellName}
use Rattle.dg_exec.specs.Jobs.{is_producer_at, led_to, reached_by, reached}
use Rattle.dg_exec.specs.Modes.{is_direct}
use Rattle.dg_exec.specs.Tables.{as_name, cell_at, has_cell, with_cell, with_cells}
use Rattle.dg_exec.specs.Walks.{direct_target, is_producing_at, AreDone, Walked}
use Rattle.dg_exec.proofs.CellLists.{among_has, kept_one, out_one, with_more, added_all, nothing_new}
use Rattle.dg_exec.proofs.CellTables.{producing_is}
use Rattle.dg_exec.proofs.FitLemmas.{named, in_numbered}
use Rattle.dg_exec.proofs.FitWalks.{leads_to_slot, node_shallow_at}

-- ---- one edge

direct_kind : (m : Mode) → is_direct m ≡ true → edge_kind m ≡ edge.Direct
direct_kind mode.Instance e = refl
direct_kind mode.Produced e = refl
direct_kind other e = absurd (false≢true e)

-- a direct edge of a node in an instance leads to a slot, from which walks are shorter
pub record Edge (doc : Doc) (k : ℕ) (t : Look) : Type 0 where
  pub node : Node
  pub is_node : node_at doc t.slot ≡ Some node
  pub is_in : node_in doc t.inst t.slot ≡ Some node
  pub short : Shallow doc k node

if_direct : (b : Bool) (o : Option Look) (t : Look) → cond b o None ≡ Some t
    → (b ≡ true) × (o ≡ Some t)
if_direct true o t e = (refl, e)
if_direct false o t e = absurd (none-some t e)

pub edge_is : (doc : Doc) (k i m : ℕ) (n : Node) (d : Dependency) (t : Look)
    → Shallow doc (suc k) n → slice_get (deps doc n) m ≡ Some d
    → direct_target doc i n d ≡ Some t → Edge doc k t
edge_is doc k i m n d t sh at e =
    let two = if_direct (is_direct d.mode) (target_of doc i n d) t e in
    let s = leads_to_slot doc i n d t two.1 in
    let less = direct_shallow doc k i n m d t sh two.1 (in_numbered (deps doc n) m d at)
    (direct_kind d.mode two.0) in
    record {
      node = s.node;
      is_node = s.is_node;
      is_in = in_its_class doc t.inst t.slot s.node s.class s.is_node;
      short = node_shallow_at doc k t.slot s.node less s.is_node;
    }

-- ---- what is reached, one edge on

by_direct : (b : Bool) (g : Look → List Cell) (o : Option Look)
    → cond b (option_map_or g o []) [] ≡ option_map_or g (cond b o None) []
by_direct true g o = refl
by_direct false g o = refl

pub by_target : (doc : Doc) (f : ℕ → Node → List Cell) (i : ℕ) (n : Node) (d : Dependency)
    → reached_by doc f i n d ≡ option_map_or (led_to doc f) (direct_target doc i n d) []
by_target doc f i n d = by_direct (is_direct d.mode) (led_to doc f) (target_of doc i n d)

reached_none : (doc : Doc) (i : ℕ) (n : Node) → reached doc zero i n ≡ []
unfolding reached
reached_none doc i n = refl

reached_on : (doc : Doc) (k i : ℕ) (n : Node)
    → reached doc (suc k) i n ≡ flat_map (reached_by doc (reached doc k) i n) (deps doc n)
unfolding reached
reached_on doc k i n = refl

flat_same : (f g : Dependency → List Cell) (ds : List Dependency)
    → ((m : ℕ) (d : Dependency) → slice_get ds m ≡ Some d → f d ≡ g d)
    → flat_map f ds ≡ flat_map g ds
flat_same f g [] same = refl
flat_same f g (d ∷ ds) same =
    let here = same 0 d refl in
    let later = flat_same f g ds (λ m c at. same (suc m) c at) in λ i. here i ++ later i

flat_none : (f : Dependency → List Cell) (ds : List Dependency)
    → ((m : ℕ) (d : Dependency) → slice_get ds m ≡ Some d → f d ≡ []) → [] ≡ flat_map f ds
flat_none f [] none = refl
flat_none f (d ∷ ds) none =
    let here = none 0 d refl in
    let later = flat_none f ds (λ m c at. none (suc m) c at) in
    λ i. sym here i ++ later i

led_same : (doc : Doc) (f g : ℕ → Node → List Cell) (t : Look) (x : Node)
    → node_at doc t.slot ≡ Some x → f t.inst x ≡ g t.inst x → led_to doc f t ≡ led_to doc g t
led_same doc f g t x at same =
    let at_node : option_map_or (f t.inst) (node_at doc t.slot) []
    ≡ option_map_or (g t.inst) (node_at doc t.slot) [] =
    ap (λ (o : Option Node). option_map_or (f t.inst) o []) at
    ∙ (same ∙ sym (ap (λ (o : Option Node). option_map_or (g t.inst) o []) at)) in
    ap (λ (l : List Cell). cond (is_producer_at doc t.slot) (named t.inst t.slot ∷ []) l) at_node

-- walks of more edges than there are reach nothing more
reached_more : (doc : Doc) (k i : ℕ) (n : Node) → Shallow doc (suc k) n
    → reached doc k i n ≡ reached doc (suc k) i n
reached_more doc zero i n sh =
    reached_none doc i n
    ∙ (flat_none (reached_by doc (reached doc zero) i n) (deps doc n)
    (λ m d at. by_target doc (reached doc zero) i n d
    ∙ nowhere m d at (direct_target doc i n d) refl)
    ∙ sym (reached_on doc zero i n))
  where
    nowhere : (m : ℕ) (d : Dependency) → slice_get (deps doc n) m ≡ Some d → (o : Option Look)
        → direct_target doc i n d ≡ o
        → option_map_or (led_to doc (reached doc zero)) o [] ≡ []
    nowhere m d at None e = refl
    nowhere m d at (Some t) e =
        let s = edge_is doc zero i m n d t sh at e in
        absurd (none_shallow doc t.slot (s.node, s.is_node, s.short))
reached_more doc (suc k) i n sh =
    reached_on doc k i n
    ∙ (flat_same (reached_by doc (reached doc k) i n) (reached_by doc (reached doc (suc k)) i n)
    (deps doc n) (λ m d at. by_target doc (reached doc k) i n d
    ∙ (somewhere m d at (λ j x less. reached_more doc k j x less) (direct_target doc i n d) refl
    ∙ sym (by_target doc (reached doc (suc k)) i n d)))
    ∙ sym (reached_on doc (suc k) i n))
  where
    somewhere : (m : ℕ) (d : Dependency) → slice_get (deps doc n) m ≡ Some d
        → ((j : ℕ) (x : Node) → Shallow doc (suc k) x
        → reached doc k j x ≡ reached doc (suc k) j x)
        → (o : Option Look) → direct_target doc i n d ≡ o
        → option_map_or (led_to doc (reached doc k)) o []
        ≡ option_map_or (led_to doc (reached doc (suc k))) o []
    somewhere m d at later None e = refl
    somewhere m d at later (Some t) e =
        let s = edge_is doc (suc k) i m n d t sh at e in
        led_same doc (reached doc k) (reached doc (suc k)) t s.node s.is_node
        (later t.inst s.node s.short)

-- in an accepted document what walks reach is what their edges lead to
pub reached_step : (doc : Doc) → IsAccepted doc → (i : ℕ) (n : Node) → Contains (nodes doc) n
    → reached doc enough i n
    ≡ flat_map (reached_by doc (reached doc enough) i n) (deps doc n)
reached_step doc accepted i n among =
    reached_more doc 128 i n (node_shallow doc (stages_of_accepted doc accepted) n among)
    ∙ reached_on doc 128 i n

-- ---- inputs

pub mode_is : (doc : Doc) → IsAccepted doc → (i k m : ℕ) (n : Node) (d : Dependency) (x : Input)
    → IsInputFor doc i k m n d x → x.mode ≡ d.mode
mode_is doc accepted i k m n d x asks =
    let is = in_class_is doc i k n asks.is_node in
    let w = inputs_are_look_ups doc accepted i k m n d (record {
      is_node = is.0;
      class = is.1;
      is_dependency = asks.is_dependency;
    }) in
    let same : w.input ≡ x = same_Some w.input x (sym w.is_input ∙ asks.is_input) in
    sym (ap (λ (y : Input). y.mode) same) ∙ w.mode

-- where an input leads, by its mode
pub direct_is : (doc : Doc) → IsAccepted doc → (i k m : ℕ) (n : Node) (d : Dependency) (x : Input)
    → (b : Bool) → IsInputFor doc i k m n d x → is_direct x.mode ≡ b
    → cond b (target_of doc i n d) None ≡ direct_target doc i n d
direct_is doc accepted i k m n d x b asks e =
    ap (λ (c : Bool). cond c (target_of doc i n d) None)
    (sym e ∙ ap is_direct (mode_is doc accepted i k m n d x asks))

-- the input at an index is that of a dependency
pub record At (doc : Doc) (i k m : ℕ) (n : Node) (x : Input) : Type 0 where
  pub dependency : Dependency
  pub is_input : IsInputFor doc i k m n dependency x

pub input_at : (doc : Doc) (plan : Plan) (world : World) → IsContextOf doc plan world
    → (i k m : ℕ) (n : Node) (s : Slot) (xs : List Input) (x : Input)
    → node_in doc i k ≡ Some n → Some s ≡ option_map (slot_of doc) (node_in doc i k)
    → xs ≡ s.inputs → m < length xs → At doc i k m n (get_or xs m x)
input_at doc plan world of i k m n s xs x is slot list within =
    let g = input_here doc plan world of (eval doc 0) i k m n (cell_place 0 0) s xs x is slot list
    within in
    record {
      dependency = g.dependency;
      is_input = g.is_input;
    }

-- all inputs are all dependencies
pub all_inputs : (doc : Doc) → IsAccepted doc → (i k m : ℕ) (n : Node) (s : Slot)
    → (xs : List Input) → node_in doc i k ≡ Some n
    → Some s ≡ option_map (slot_of doc) (node_in doc i k) → xs ≡ s.inputs → length xs ≤ m
    → take m (deps doc n) ≡ deps doc n
all_inputs doc accepted i k m n s xs is slot list past =
    let count = no_input_is_left_out doc accepted k n (in_class_is doc i k n is).0 in
    let same = slot_is doc n s (node_in doc i k) slot is in
    let inputs : length xs ≡ length (inputs_of doc n) =
    ap (λ (l : List Input). length l) (list ∙ ap (λ (s : Slot). s.inputs) same) in
    take_all m (deps doc n) (omega (arith, count, inputs, past))

-- what the dependencies up to the next one lead to
next_led : (f : Dependency → List Cell) (ds : List Dependency) (m : ℕ) (d : Dependency)
    → slice_get ds m ≡ Some d
    → flat_map f (take (m + 1) ds) ≡ flat_map f (take m ds) ++ f d
next_led f ds m d at =
    ap (flat_map f) (take_more ds m d (slice_get_within ds m d at))
    ∙ (ap (λ (y : Dependency). flat_map f (take m ds ++ y ∷ [])) (get_or_from_slice_get ds m d d at)
    ∙ (flat_map-append f (take m ds) (d ∷ [])
    ∙ ap (λ (l : List Cell). flat_map f (take m ds) ++ l) (append-nil (f d))))

-- ---- what is found

pub walked_none : (doc : Doc) (found done : List CellName) → Walked doc [] found done found done
walked_none doc found done h = record { adds = refl; keeps = h }

walked_both : (doc : Doc) (xs ys : List Cell) (f d f1 d1 f2 d2 : List CellName)
    → Walked doc xs f d f1 d1 → Walked doc ys f1 d1 f2 d2 → Walked doc (xs ++ ys) f d f2 d2
walked_both doc xs ys f d f1 d1 f2 d2 w v h =
    let a = w h in
    let b = v a.keeps in
    record {
      adds = b.adds
          ∙ (ap (λ (l : List CellName). with_cells l (map as_name ys)) a.adds
          ∙ (sym (with_more f (map as_name xs) (map as_name ys))
          ∙ sym (ap (with_cells f) (map-append as_name xs ys))));
      keeps = b.keeps;
    }

walked_as : (doc : Doc) (xs ys : List Cell) (f d f1 d1 : List CellName) → xs ≡ ys
    → Walked doc xs f d f1 d1 → Walked doc ys f d f1 d1
walked_as doc xs ys f d f1 d1 e w =
    let P : List Cell → Type 0 = λ l. Walked doc l f d f1 d1 in subst P e w

-- an edge that leads to a slot
pub walked_edge : (doc : Doc) (i : ℕ) (n : Node) (e : Dependency) (t : Look)
    → (f d f1 d1 : List CellName) → Some t ≡ direct_target doc i n e
    → Walked doc (led_to doc (reached doc enough) t) f d f1 d1
    → Walked doc (reached_by doc (reached doc enough) i n e) f d f1 d1
walked_edge doc i n e t f d f1 d1 to w =
    walked_as doc (led_to doc (reached doc enough) t)
    (reached_by doc (reached doc enough) i n e) f d f1 d1
    (sym (by_target doc (reached doc enough) i n e
    ∙ ap (λ (o : Option Look). option_map_or (led_to doc (reached doc enough)) o []) (sym to))) w

-- what is no direct edge
pub walked_nowhere : (doc : Doc) (i : ℕ) (n : Node) (e : Dependency) (f d : List CellName)
    → None ≡ direct_target doc i n e
    → Walked doc (reached_by doc (reached doc enough) i n e) f d f d
walked_nowhere doc i n e f d to =
    walked_as doc [] (reached_by doc (reached doc enough) i n e) f d f d
    (sym (by_target doc (reached doc enough) i n e
    ∙ ap (λ (o : Option Look). option_map_or (led_to doc (reached doc enough)) o []) (sym to)))
    (walked_none doc f d)

-- one input more
pub walked_next : (doc : Doc) (i m : ℕ) (n : Node) (e : Dependency)
    → (f d f1 d1 f2 d2 : List CellName) → slice_get (deps doc n) m ≡ Some e
    → Walked doc (flat_map (reached_by doc (reached doc enough) i n) (take m (deps doc n)))
    f d f1 d1
    → Walked doc (reached_by doc (reached doc enough) i n e) f1 d1 f2 d2
    → Walked doc (flat_map (reached_by doc (reached doc enough) i n) (take (m + 1) (deps doc n)))
    f d f2 d2
walked_next doc i m n e f d f1 d1 f2 d2 at w v =
    walked_as doc
    (flat_map (reached_by doc (reached doc enough) i n) (take m (deps doc n))
    ++ reached_by doc (reached doc enough) i n e)
    (flat_map (reached_by doc (reached doc enough) i n) (take (m + 1) (deps doc n))) f d f2 d2
    (sym (next_led (reached_by doc (reached doc enough) i n) (deps doc n) m e at))
    (walked_both doc
    (flat_map (reached_by doc (reached doc enough) i n) (take m (deps doc n)))
    (reached_by doc (reached doc enough) i n e) f d f1 d1 f2 d2 w v)

-- behind the last input all is found that is reached
pub walked_all : (doc : Doc) → IsAccepted doc → (i k m : ℕ) (n : Node) (s : Slot)
    → (xs : List Input) (f d f1 d1 : List CellName) → node_in doc i k ≡ Some n
    → Some s ≡ option_map (slot_of doc) (node_in doc i k) → xs ≡ s.inputs → length xs ≤ m
    → Walked doc (flat_map (reached_by doc (reached doc enough) i n) (take m (deps doc n)))
    f d f1 d1
    → Walked doc (reached doc enough i n) f d f1 d1
walked_all doc accepted i k m n s xs f d f1 d1 is slot list past w =
    walked_as doc
    (flat_map (reached_by doc (reached doc enough) i n) (take m (deps doc n)))
    (reached doc enough i n) f d f1 d1
    (ap (flat_map (reached_by doc (reached doc enough) i n))
    (all_inputs doc accepted i k m n s xs is slot list past)
    ∙ sym (reached_step doc accepted i n
    (in_got (nodes doc) k n (in_class_is doc i k n is).0))) w

-- ---- at a slot

producing_at : (doc : Doc) (o : Option Node)
    → option_map_or (λ (s : Slot). is_producing s.cell) (option_map (slot_of doc) o) false
    ≡ option_map_or (is_producer doc) o false
producing_at doc None = refl
producing_at doc (Some n) = producing_is doc n

pub producer_at : (doc : Doc) (plan : Plan) (world : World) → IsContextOf doc plan world → (k : ℕ)
    → is_producing_at plan.slots k ≡ is_producer_at doc k
producer_at doc plan world of k =
    ap (λ (o : Option Slot). option_map_or (λ (s : Slot). is_producing s.cell) o false)
    (slots_are doc plan world of k) ∙ producing_at doc (node_at doc k)

led_by : (doc : Doc) (t : Look) (b : Bool) → is_producer_at doc t.slot ≡ b
    → led_to doc (reached doc enough) t
    ≡ cond b (named t.inst t.slot ∷ [])
    (option_map_or (reached doc enough t.inst) (node_at doc t.slot) [])
led_by doc t b e =
    ap (λ (c : Bool). cond c (named t.inst t.slot ∷ [])
    (option_map_or (reached doc enough t.inst) (node_at doc t.slot) [])) e

-- the slot is a producer
pub walked_producer : (doc : Doc) (plan : Plan) (world : World) → IsContextOf doc plan world
    → (t : Look) (f d f1 : List CellName) → true ≡ is_producing_at plan.slots t.slot
    → f1 ≡ with_cell f (cell_at t.inst t.slot)
    → Walked doc (led_to doc (reached doc enough) t) f d f1 d
walked_producer doc plan world of t f d f1 is e h = record {
  adds = e ∙ sym (ap (λ (l : List Cell). with_cells f (map as_name l))
      (led_by doc t true (sym (is ∙ producer_at doc plan world of t.slot))));
  keeps = λ c among x at y r.
      let P : List CellName → Type 0 = λ l. Contains l (as_name y) in
      subst P (sym e) (kept_one f (cell_at t.inst t.slot) (as_name y) (h c among x at y r));
}

led_on : (doc : Doc) (plan : Plan) (world : World) → IsContextOf doc plan world → (t : Look)
    → (n : Node) → false ≡ is_producing_at plan.slots t.slot → node_in doc t.inst t.slot ≡ Some n
    → reached doc enough t.inst n ≡ led_to doc (reached doc enough) t
led_on doc plan world of t n is there =
    sym (led_by doc t false (sym (is ∙ producer_at doc plan world of t.slot))
    ∙ ap (λ (o : Option Node). option_map_or (reached doc enough t.inst) o [])
    (in_class_is doc t.inst t.slot n there).0)

-- what is reached behind the slot is found already
pub walked_before : (doc : Doc) (plan : Plan) (world : World) → IsContextOf doc plan world
    → (t : Look) (n : Node) (f d : List CellName) → false ≡ is_producing_at plan.slots t.slot
    → node_in doc t.inst t.slot ≡ Some n → true ≡ has_cell d (cell_at t.inst t.slot)
    → Walked doc (led_to doc (reached doc enough) t) f d f d
walked_before doc plan world of t n f d is there has =
    walked_as doc (reached doc enough t.inst n) (led_to doc (reached doc enough) t) f d f d
    (led_on doc plan world of t n is there) (λ h. record {
      adds = sym (nothing_new f (map as_name (reached doc enough t.inst n)) (λ c r.
          let o = out_map as_name (reached doc enough t.inst n) c r in
          subst (Contains f) o.2 (h (cell_at t.inst t.slot)
          (among_has d (cell_at t.inst t.slot) (sym has)) n
          (in_class_is doc t.inst t.slot n there).0 o.0 o.1)));
      keeps = h;
    })

-- what is reached behind the slot is found now
pub walked_now : (doc : Doc) (plan : Plan) (world : World) → IsContextOf doc plan world
    → (t : Look) (n : Node) (f d f1 d1 d2 : List CellName)
    → false ≡ is_producing_at plan.slots t.slot → node_in doc t.inst t.slot ≡ Some n
    → Walked doc (reached doc enough t.inst n) f d f1 d1
    → d2 ≡ with_cell d1 (cell_at t.inst t.slot)
    → Walked doc (led_to doc (reached doc enough) t) f d f1 d2
walked_now doc plan world of t n f d f1 d1 d2 is there w e =
    walked_as doc (reached doc enough t.inst n) (led_to doc (reached doc enough) t) f d f1 d2
    (led_on doc plan world of t n is there) (λ h.
    let a = w h in
    record {
      adds = a.adds;
      keeps = λ c among x at y r.
          let P : List CellName → Type 0 = λ l. Contains l c in
          elim (out_one d1 (cell_at t.inst t.slot) c (subst P e among)) [
            | inl before ↦ a.keeps c before x at y r
            | inr same ↦ here a.adds c same x at y r
          ];
    })
  where
    here : f1 ≡ with_cells f (map as_name (reached doc enough t.inst n)) → (c : CellName)
        → cell_at t.inst t.slot ≡ c → (x : Node) → node_at doc c.slot ≡ Some x → (y : Cell)
        → Contains (reached doc enough c.inst x) y → Contains f1 (as_name y)
    here found c same x at y r =
        let inst : t.inst ≡ c.inst = ap (λ (c : CellName). c.inst) same in
        let slot : t.slot ≡ c.slot = ap (λ (c : CellName). c.slot) same in
        let node : x ≡ n = same_Some x n (sym at
        ∙ (sym (ap (node_at doc) slot) ∙ (in_class_is doc t.inst t.slot n there).0)) in
        let Q : List Cell → Type 0 = λ l. Contains l y in
        let P : List CellName → Type 0 = λ l. Contains l (as_name y) in
        let there_now : reached doc enough c.inst x ≡ reached doc enough t.inst n =
        λ k. reached doc enough (sym inst k) (node k) in
        subst P (sym found)
        (added_all f (map as_name (reached doc enough t.inst n)) (as_name y)
        (in_map as_name (reached doc enough t.inst n) y (subst Q there_now r)))

-- walks are never as long as that
pub walked_too_far : (doc : Doc) (depth : ℕ) (n : Node) (cells : List Cell) (f d : List CellName)
    → depth ≡ 0 → WalksAreShort doc depth n → Walked doc cells f d f d
walked_too_far doc depth n cells f d none short =
    let lt : 0 < depth = short 0 n refl in absurd (omega (arith, none, lt))

-- ---- from nothing

nothing_in : (xs : List CellName) → length xs ≡ 0 → xs ≡ []
nothing_in [] e = refl
nothing_in (x ∷ xs) e = absurd (omega (arith, e))

nothing_done : (doc : Doc) (found : List CellName) → AreDone doc found []
nothing_done doc found c among = absurd (none_in c among)

-- where nothing is found before, what walks reach is found, each once
pub found_all : (doc : Doc) (plan : Plan) (world : World) → IsContextOf doc plan world
    → (i k : ℕ) (n : Node) → node_in doc i k ≡ Some n → (f d f1 d1 : List CellName)
    → length f ≡ 0 → length d ≡ 0
    → (Shallow doc 129 n → Walked doc (reached doc enough i n) f d f1 d1)
    → f1 ≡ with_cells [] (map as_name (reached doc enough i n))
found_all doc plan world of i k n is f d f1 d1 no_f no_d walk =
    let short = node_shallow doc (stages_of_accepted doc of.accepted) n
    (in_got (nodes doc) k n (in_class_is doc i k n is).0) in
    let P : List CellName → Type 0 = λ l. AreDone doc f l in
    let w = walk short (subst P (sym (nothing_in d no_d)) (nothing_done doc f)) in
    w.adds ∙ ap (λ (l : List CellName). with_cells l (map as_name (reached doc enough i n)))
    (nothing_in f no_f)
