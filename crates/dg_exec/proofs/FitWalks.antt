-- Walks of direct edges to producers: where they lead, and how far.
use Rattle.std.proofs.Common.{◌≡◌, ◌⊎◌, inl, inr, ℕ, zero, suc, ◌<◌, Bool, true, false, cond, List, [], ◌∷◌, find, Contains, Option, Some, None, refl, sym, ap, subst, ◌∙◌, arith}
use Rattle.std.specs.Option.{option_map_or}
use Rattle.std.proofs.lemmas.Bool.{eqb-true, false≢true}
use Rattle.std.proofs.lemmas.Option.{none-some, same_Some, slice_get-get_or}
use Rattle.dg_types.specs.declared.key.Mode.{Mode}
use Rattle.dg_types.specs.declared.key.Mode.TheVariants as mode
use Rattle.dg_decl.specs.declared.document.Doc.{Doc}
use Rattle.dg_decl.specs.declared.graph.EdgeKind.TheVariants as edge
use Rattle.dg_decl.specs.declared.graph.Node.{Node}
use Rattle.dg_decl.specs.Components.{is_number}
use Rattle.dg_decl.specs.Graph.{Dependency, deps, target, nodes, number_of, edge_kind}
use Rattle.dg_decl.specs.Sizes.{is_producer}
use Rattle.dg_decl.proofs.MemberLemmas.{the_one, in_front, in_flat_map, out_flat_map, out_list_of, out_if, out_option_map, out_and_then}
use Rattle.dg_eval.specs.World.{class_of_inst, chain_of_inst, up}
use Rattle.dg_eval.specs.Meaning.{node_at, Target, target_of, asking_inst, enough}
use Rattle.dg_eval.specs.Asks.{CellName}
use Rattle.dg_eval.proofs.AcceptedDepth.{StagesFindNothing}
use Rattle.dg_eval.proofs.EntryNodes.{node_shallow}
use Rattle.dg_eval.proofs.TargetLemmas.{Shallow, ShallowSlot, none_shallow, more_shallow, direct_shallow, number_is}
use Rattle.dg_exec.specs.Jobs.{is_producer_at, led_to, reached_by, reached}
use Rattle.dg_exec.specs.Modes.{is_direct}
use Rattle.dg_exec.proofs.FitLemmas.{named, in_numbered, IsProducerCell}

-- ---- where a dependency leads

direct_kind : (m : Mode) → is_direct m ≡ true → edge_kind m ≡ edge.Direct
direct_kind mode.Instance e = refl
direct_kind mode.Produced e = refl
direct_kind other e = absurd (false≢true e)

passes_from : {A : Type 0} (p : A → Bool) (y x : A) (o : Option A) (b : Bool) → p y ≡ b
    → cond b (Some y) o ≡ Some x → (o ≡ Some x → p x ≡ true) → p x ≡ true
passes_from p y x o true h e later = ap p (sym (same_Some y x e)) ∙ h
passes_from p y x o false h e later = later e

-- what is found passes the test
pub found_passes : {A : Type 0} (p : A → Bool) (xs : List A) (x : A) → find p xs ≡ Some x
    → p x ≡ true
found_passes p [] x e = absurd (none-some x e)
found_passes p (y ∷ ys) x e =
    passes_from p y x (find p ys) (p y) refl e (found_passes p ys x)

number_of_some : (n : ℕ) (o : Option ℕ) → is_number n o ≡ true → o ≡ Some n
number_of_some n None e = absurd (false≢true e)
number_of_some n (Some m) e = ap Some (eqb-true m n e)

up_class : (doc : Doc) (i class o : ℕ) → up doc i class ≡ Some o
    → class_of_inst doc o ≡ Some class
unfolding up
up_class doc i class o e =
    number_of_some class (class_of_inst doc o)
    (found_passes (λ o. is_number class (class_of_inst doc o)) (chain_of_inst doc i) o e)

-- a slot, in an instance of its class
pub record IsSlotIn (doc : Doc) (t : Target) : Type 0 where
  pub node : Node
  pub is_node : node_at doc t.slot ≡ Some node
  pub class : class_of_inst doc t.inst ≡ Some node.class

pub leads_to_slot : (doc : Doc) (i : ℕ) (n : Node) (d : Dependency) (t : Target)
    → target_of doc i n d ≡ Some t → IsSlotIn doc t
leads_to_slot doc i n d t e =
    let a = out_and_then _ (target d) t e in
    let b = out_and_then _ (asking_inst doc i n) t a.2 in
    let c = out_and_then _ (up doc b.0 a.0.class) t b.2 in
    let m = out_option_map _ (number_of (nodes doc) a.0) t c.2 in
    let slot : m.0 ≡ t.slot = ap (λ (t : Target). t.slot) m.2 in
    let inst : c.0 ≡ t.inst = ap (λ (t : Target). t.inst) m.2 in
    record {
      node = a.0;
      is_node = sym (ap (node_at doc) slot) ∙ number_is (nodes doc) a.0 m.0 m.1;
      class = sym (ap (class_of_inst doc) inst) ∙ up_class doc b.0 a.0.class c.0 c.1;
    }

-- ---- the steps of a walk

-- a direct edge of a node in an instance
pub record DirectStep (doc : Doc) (i : ℕ) (n : Node) (t : Target) : Type 0 where
  pub dependency : Dependency
  pub among : Contains (deps doc n) dependency
  pub direct : is_direct dependency.mode ≡ true
  pub found : target_of doc i n dependency ≡ Some t

-- what a walk comes to behind an edge: the cell of the producer there, or what it reaches on
abbrev pub Reaches : Doc → ℕ → Target → CellName → Type 0
Reaches doc edges t c =
    ((is_producer_at doc t.slot ≡ true) × (named t.inst t.slot ≡ c))
    ⊎ ((is_producer_at doc t.slot ≡ false) × ((x : Node) × (node_at doc t.slot ≡ Some x)
    × Contains (reached doc edges t.inst x) c))

out_led : (doc : Doc) (edges : ℕ) (t : Target) (c : CellName)
    → Contains (led_to doc (reached doc edges) t) c → Reaches doc edges t c
out_led doc edges t c h = by_test (is_producer_at doc t.slot) h
  where
    by_test : (b : Bool) → Contains (cond b (named t.inst t.slot ∷ [])
        (option_map_or (reached doc edges t.inst) (node_at doc t.slot) [])) c
        → ((b ≡ true) × (named t.inst t.slot ≡ c))
        ⊎ ((b ≡ false) × ((x : Node) × (node_at doc t.slot ≡ Some x)
        × Contains (reached doc edges t.inst x) c))
    by_test true h = inl (refl, the_one c (named t.inst t.slot) h)
    by_test false h =
        inr (refl, out_list_of (reached doc edges t.inst) (node_at doc t.slot) c h)

in_led : (doc : Doc) (edges : ℕ) (t : Target) (c : CellName) → Reaches doc edges t c
    → Contains (led_to doc (reached doc edges) t) c
in_led doc edges t c r =
    elim r [
      | inl a ↦ (let same : led_to doc (reached doc edges) t ≡ named t.inst t.slot ∷ [] =
          ap (λ (b : Bool). cond b (named t.inst t.slot ∷ [])
          (option_map_or (reached doc edges t.inst) (node_at doc t.slot) [])) a.0 in
          let P : List CellName → Type 0 = λ cs. Contains cs c in
          let Q : CellName → Type 0 = λ x. Contains (named t.inst t.slot ∷ []) x in
          subst P (sym same) (subst Q a.1 (in_front (named t.inst t.slot) [])))
      | inr a ↦ (let same : led_to doc (reached doc edges) t ≡ reached doc edges t.inst a.1.0 =
          ap (λ (b : Bool). cond b (named t.inst t.slot ∷ [])
          (option_map_or (reached doc edges t.inst) (node_at doc t.slot) [])) a.0
          ∙ ap (λ (o : Option Node). option_map_or (reached doc edges t.inst) o []) a.1.1 in
          let P : List CellName → Type 0 = λ cs. Contains cs c in
          subst P (sym same) a.1.2)
    ]

-- what is reached is behind a first edge
pub out_reached : (doc : Doc) (edges i : ℕ) (n : Node) (c : CellName)
    → Contains (reached doc (suc edges) i n) c
    → (t : Target) × DirectStep doc i n t × Reaches doc edges t c
unfolding reached
out_reached doc edges i n c h =
    let o = out_flat_map (reached_by doc (reached doc edges) i n) (deps doc n) c h in
    let d = out_if (is_direct o.0.mode)
    (option_map_or (led_to doc (reached doc edges)) (target_of doc i n o.0) []) c o.2 in
    let t = out_list_of (led_to doc (reached doc edges)) (target_of doc i n o.0) c d.1 in (
      t.0,
      record { dependency = o.0; among = o.1; direct = d.0; found = t.1 },
      out_led doc edges t.0 c t.2,
    )

pub in_reached : (doc : Doc) (edges i : ℕ) (n : Node) (t : Target) (c : CellName)
    → DirectStep doc i n t → Reaches doc edges t c → Contains (reached doc (suc edges) i n) c
unfolding reached
in_reached doc edges i n t c s r =
    let same : reached_by doc (reached doc edges) i n s.dependency
    ≡ led_to doc (reached doc edges) t =
    ap (λ (b : Bool). cond b (option_map_or (led_to doc (reached doc edges))
    (target_of doc i n s.dependency) []) []) s.direct
    ∙ ap (λ (o : Option Target). option_map_or (led_to doc (reached doc edges)) o []) s.found in
    let P : List CellName → Type 0 = λ cs. Contains cs c in
    in_flat_map (reached_by doc (reached doc edges) i n) (deps doc n) s.dependency c s.among
    (subst P (sym same) (in_led doc edges t c r))

pub none_reached : (doc : Doc) (i : ℕ) (n : Node) (c : CellName)
    → Contains (reached doc zero i n) c → ⊥
unfolding reached
none_reached doc i n c h = (let lt : h.0 < 0 = h.1 in omega arith)

-- ---- what is reached

producer_there : (doc : Doc) (k : ℕ) (x : Node) → node_at doc k ≡ Some x
    → is_producer_at doc k ≡ true → is_producer doc x ≡ true
producer_there doc k x e h =
    sym (ap (λ (o : Option Node). option_map_or (is_producer doc) o false) e) ∙ h

-- a producer in an instance of its class
pub slot_producer : (doc : Doc) (t : Target) → IsSlotIn doc t → is_producer_at doc t.slot ≡ true
    → IsProducerCell doc (named t.inst t.slot)
slot_producer doc t s h = record {
  node = s.node;
  is_node = s.is_node;
  class = s.class;
  produces = producer_there doc t.slot s.node s.is_node h;
}

-- what is reached is the cell of a producer
pub reached_producer : (doc : Doc) (edges i : ℕ) (n : Node) (c : CellName)
    → Contains (reached doc edges i n) c → IsProducerCell doc c
reached_producer doc zero i n c h = absurd (none_reached doc i n c h)
reached_producer doc (suc edges) i n c h =
    let o = out_reached doc edges i n c h in
    elim o.2 [
      | inl a ↦ subst (IsProducerCell doc) a.1 (slot_producer doc o.0
          (leads_to_slot doc i n o.1.dependency o.0 o.1.found) a.0)
      | inr a ↦ reached_producer doc edges o.0.inst a.1.0 c a.1.2
    ]

step_shallow : (doc : Doc) (k i : ℕ) (n : Node) (t : Target) → Shallow doc (suc k) n
    → DirectStep doc i n t → ShallowSlot doc k t.slot
step_shallow doc k i n t sh s =
    let at = slice_get-get_or (deps doc n) s.among.0 s.dependency s.among.1 ∙ ap Some s.among.2 in
    direct_shallow doc k i n s.among.0 s.dependency t sh s.found
    (in_numbered (deps doc n) s.among.0 s.dependency at) (direct_kind s.dependency.mode s.direct)

pub node_shallow_at : (doc : Doc) (k s : ℕ) (x : Node) → ShallowSlot doc k s
    → node_at doc s ≡ Some x → Shallow doc k x
node_shallow_at doc k s x sh e =
    subst (Shallow doc k) (same_Some sh.0 x (sym sh.1 ∙ e)) sh.2

behind_shallow : (doc : Doc) (k s l : ℕ) (x : Node) → ShallowSlot doc k s → node_at doc s ≡ Some x
    → ((j : ℕ) → Shallow doc (suc j) x → ShallowSlot doc j l) → ShallowSlot doc k l
behind_shallow doc zero s l x less e later = absurd (none_shallow doc s less)
behind_shallow doc (suc j) s l x less e later =
    more_shallow doc j l (later j (node_shallow_at doc (suc j) s x less e))

-- and less deep than where the walk begins
pub reached_shallow : (doc : Doc) (edges k i : ℕ) (n : Node) (c : CellName)
    → Shallow doc (suc k) n → Contains (reached doc edges i n) c → ShallowSlot doc k c.slot
reached_shallow doc zero k i n c sh h = absurd (none_reached doc i n c h)
reached_shallow doc (suc edges) k i n c sh h =
    let o = out_reached doc edges i n c h in
    elim o.2 [
      | inl a ↦ (let P : CellName → Type 0 = λ x. ShallowSlot doc k x.slot in
          subst P a.1 (step_shallow doc k i n o.0 sh o.1))
      | inr a ↦ behind_shallow doc k o.0.slot c.slot a.1.0 (step_shallow doc k i n o.0 sh o.1) a.1.1
          (λ j less. reached_shallow doc edges j o.0.inst a.1.0 c less a.1.2)
    ]

-- walks of more edges than there are nodes on a walk reach nothing more
pub reached_within : (doc : Doc) (edges k i : ℕ) (n : Node) (c : CellName) → Shallow doc (suc k) n
    → Contains (reached doc edges i n) c → Contains (reached doc k i n) c
reached_within doc zero k i n c sh h = absurd (none_reached doc i n c h)
reached_within doc (suc edges) zero i n c sh h =
    let o = out_reached doc edges i n c h in
    absurd (none_shallow doc o.0.slot (step_shallow doc zero i n o.0 sh o.1))
reached_within doc (suc edges) (suc k) i n c sh h =
    let o = out_reached doc edges i n c h in
    elim o.2 [
      | inl a ↦ in_reached doc k i n o.0 c o.1 (inl a)
      | inr a ↦ in_reached doc k i n o.0 c o.1 (inr (
        a.0,
        (
          a.1.0,
          a.1.1,
          reached_within doc edges k o.0.inst a.1.0 c
              (node_shallow_at doc (suc k) o.0.slot a.1.0
              (step_shallow doc (suc k) i n o.0 sh o.1) a.1.1)
              a.1.2,
        ),
      ))
    ]

-- in a document whose stages find nothing, what any number of edges reaches is what 128 do
pub reached_enough : (doc : Doc) → StagesFindNothing doc → (edges i : ℕ) (n : Node) (c : CellName)
    → Contains (nodes doc) n → Contains (reached doc edges i n) c
    → Contains (reached doc enough i n) c
reached_enough doc none edges i n c among h =
    reached_within doc edges 128 i n c (node_shallow doc none n among) h

-- a direct edge to a producer reaches it
pub reached_producer_step : (doc : Doc) (i : ℕ) (n : Node) (t : Target) → DirectStep doc i n t
    → is_producer_at doc t.slot ≡ true
    → Contains (reached doc enough i n) (named t.inst t.slot)
reached_producer_step doc i n t s h =
    in_reached doc 127 i n t (named t.inst t.slot) s (inl (h, refl))

-- what the target of a direct edge reaches, where it is no producer, is reached
pub reached_on_step : (doc : Doc) → StagesFindNothing doc → (i : ℕ) (n : Node) (t : Target)
    → (x : Node) (c : CellName) → Contains (nodes doc) n → DirectStep doc i n t
    → is_producer_at doc t.slot ≡ false → node_at doc t.slot ≡ Some x
    → Contains (reached doc enough t.inst x) c → Contains (reached doc enough i n) c
reached_on_step doc none i n t x c among s h e r =
    reached_enough doc none 129 i n c among
    (in_reached doc 128 i n t c s (inr (h, (x, e, r))))
