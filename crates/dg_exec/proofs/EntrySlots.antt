-- The slot of the entry that an ask asks for is that of its node.
use Rattle.std.proofs.Common.{◌≡◌, ◌<◌, ℕ, ◌+◌, List, [], length, get_or, slice_get, Contains, Option, Some, None, option_map, option_and_then, refl, sym, ap, ◌∙◌, arith}
use Rattle.std.specs.List.{range_with_len}
use Rattle.std.specs.Option.{option_map_or}
use Rattle.std.proofs.lemmas.Option.{none-some, slice_get-map, slice_get_read}
use Rattle.std.proofs.lemmas.List.FromFn.{get_or-range_with_len, length-range_with_len}
use Rattle.dg_decl.specs.declared.document.Doc.{Doc}
use Rattle.dg_decl.specs.declared.graph.Node.{Node}
use Rattle.dg_decl.specs.declared.graph.NodeKind.TheVariants as node
use Rattle.dg_decl.specs.declared.item.Item.{Item}
use Rattle.dg_decl.specs.declared.item.Item.TheVariants as item
use Rattle.dg_decl.specs.Components.{class_count, class_named, entries_of}
use Rattle.dg_decl.specs.Document.{Statement, statements}
use Rattle.dg_decl.specs.Graph.{node_of, nodes, number_of}
use Rattle.dg_decl.proofs.ComponentLemmas.{class_below}
use Rattle.dg_decl.proofs.MemberLemmas.{in_got, out_filter_map, out_option_map, out_and_then}
use Rattle.dg_slots.specs.declared.plan.Plan.{Plan}
use Rattle.dg_slots.specs.declared.session.Ask.{Ask}
use Rattle.dg_slots.specs.declared.session.Inst.{Inst}
use Rattle.dg_slots.specs.Sessions.{inst_of, insts_of}
use Rattle.dg_slots.specs.Plans.{entries_of_class, entry_slots, plan_of}
use Rattle.dg_eval.specs.declared.world.World.{World}
use Rattle.dg_eval.specs.World.{inst_at, class_of_inst}
use Rattle.dg_eval.specs.Meaning.{node_in}
use Rattle.dg_eval.specs.Asks.{entry_node}
use Rattle.dg_eval.proofs.EntryNodes.{asked_entry}
use Rattle.dg_eval.proofs.InputLists.{EachGiven, given_at}
use Rattle.dg_eval.proofs.TargetLemmas.{number_is}
use Rattle.dg_requests.specs.Contexts.{IsContextOf}
use Rattle.dg_requests.proofs.ContextLemmas.{classes_are, in_its_class}
use Rattle.dg_exec.specs.Jobs.{needed, needed_by_ask}
use Rattle.dg_exec.specs.declared.cells.CellName.{CellName}
use Rattle.dg_exec.specs.Numbers.{entry_there, AreProducers, needed_by}
use Rattle.dg_exec.specs.Tables.{as_cell}
use Rattle.dg_exec.proofs.FitLemmas.{out_producers}

-- ---- the class of an instance

abbrev OpensClass : Doc → Statement → Inst → Type 0
OpensClass doc s x = inst_of doc s ≡ Some x → x.class < class_count doc

opens_class : (doc : Doc) (i l : ℕ) (block : Option ℕ) (x : Item) (made : Inst)
    → OpensClass doc (record { index = i; line = l; block = block; item = x }) made
unfolding inst_of
opens_class doc i l block (item.OpenLine n class parent args) made e =
    let o = out_option_map _ (class_named doc class) made e in
    let same : o.0 ≡ made.class = ap (λ (x : Inst). x.class) o.2 in
    let lt : o.0 < class_count doc = class_below doc class o.0 o.1 in
    omega arith
opens_class doc i l block other made e = absurd (none-some made e)

class_is_below : (doc : Doc) (i class : ℕ) → class_of_inst doc i ≡ Some class
    → class < class_count doc
unfolding insts_of
class_is_below doc i class e =
    let o = out_option_map (λ (x : Inst). x.class) (inst_at doc i) class e in
    let among : Contains (insts_of doc) o.0 = in_got (insts_of doc) i o.0 o.1 in
    let s = out_filter_map (inst_of doc) (statements doc) o.0 among in
    let lt : o.0.class < class_count doc =
    opens_class doc s.0.index s.0.line s.0.block s.0.item o.0 s.2 in
    let same : o.0.class ≡ class = o.2 in
    omega arith

-- ---- the slots of entries

-- the node of an entry of the class of an instance has a number
entry_numbered : (doc : Doc) (i class : ℕ) → class_of_inst doc i ≡ Some class
    → EachGiven (λ e. number_of (nodes doc) (node_of class (node.EntryOf e))) (entries_of doc class)
entry_numbered doc i class is x c =
    let at : slice_get (entries_of doc class) c.0 ≡ Some x =
    slice_get_read (entries_of doc class) (length (entries_of doc class)) c.0 x refl c.1 (sym c.2)
    in
    let n : Node = node_of class (node.EntryOf x) in
    let asks : entry_node doc (record { inst = i; entry = c.0; steps = [] }) ≡ Some n =
    ap (option_and_then (λ (k : ℕ). option_map (λ e. node_of k (node.EntryOf e))
    (slice_get (entries_of doc k) c.0))) is
    ∙ ap (option_map (λ (e : ℕ). node_of class (node.EntryOf e))) at in
    let entry = asked_entry doc (record { inst = i; entry = c.0; steps = [] }) n asks in
    (entry.number, entry.is_number)

entries_are : (doc : Doc) (plan : Plan) (world : World) → IsContextOf doc plan world → (class : ℕ)
    → class < class_count doc → slice_get plan.entries class ≡ Some (entries_of_class doc class)
unfolding plan_of entry_slots
entries_are doc plan world of class lt =
    ap (λ (p : Plan). slice_get p.entries class) of.of_plan
    ∙ slice_get-map (entries_of_class doc) (range_with_len 0 (class_count doc)) class
    ∙ ap (option_map (entries_of_class doc))
    (slice_get_read (range_with_len 0 (class_count doc)) (class_count doc) class class
    (sym (length-range_with_len 0 (class_count doc))) lt
    (let same : 0 + class ≡ class = omega arith in
    sym (get_or-range_with_len 0 (class_count doc) class class lt ∙ same)))

in_two : (doc : Doc) (class : ℕ) (o : Option ℕ)
    → option_and_then (λ (e : ℕ). number_of (nodes doc) (node_of class (node.EntryOf e))) o
    ≡ option_and_then (number_of (nodes doc))
    (option_map (λ (e : ℕ). node_of class (node.EntryOf e)) o)
in_two doc class None = refl
in_two doc class (Some e) = refl

-- the slot of an ask's entry, by the plan, is that of its node
pub entry_is : (doc : Doc) (plan : Plan) (world : World) → IsContextOf doc plan world → (a : Ask)
    → entry_there plan world a ≡ option_and_then (number_of (nodes doc)) (entry_node doc a)
entry_is doc plan world of a =
    ap (option_and_then (λ (c : ℕ). option_and_then (λ (slots : List ℕ). slice_get slots a.entry)
    (slice_get plan.entries c))) (classes_are doc plan world of a.inst)
    ∙ by_class (class_of_inst doc a.inst) refl
  where
    by_class : (o : Option ℕ) → class_of_inst doc a.inst ≡ o
        → option_and_then (λ (c : ℕ). option_and_then (λ (slots : List ℕ). slice_get slots a.entry)
        (slice_get plan.entries c)) o
        ≡ option_and_then (number_of (nodes doc))
        (option_and_then (λ (c : ℕ). option_map (λ e. node_of c (node.EntryOf e))
        (slice_get (entries_of doc c) a.entry)) o)
    by_class None is = refl
    by_class (Some c) is =
        ap (option_and_then (λ (slots : List ℕ). slice_get slots a.entry))
        (entries_are doc plan world of c (class_is_below doc a.inst c is))
        ∙ given_at (λ (e : ℕ). number_of (nodes doc) (node_of c (node.EntryOf e)))
        (entries_of doc c) a.entry (entry_numbered doc a.inst c is)
        ∙ in_two doc c (slice_get (entries_of doc c) a.entry)

-- the slot of an ask's entry
pub record EntrySlot (doc : Doc) (a : Ask) (k : ℕ) : Type 0 where
  pub node : Node
  pub is_asked : entry_node doc a ≡ Some node
  pub is_node : node_in doc a.inst k ≡ Some node

pub entry_slot_is : (doc : Doc) (plan : Plan) (world : World) → IsContextOf doc plan world
    → (a : Ask) (k : ℕ) → Some k ≡ entry_there plan world a → EntrySlot doc a k
entry_slot_is doc plan world of a k is =
    let o = out_and_then (number_of (nodes doc)) (entry_node doc a) k
    (sym (entry_is doc plan world of a) ∙ sym is) in
    let class = out_and_then _ (class_of_inst doc a.inst) o.0 o.1 in
    let entry = out_option_map (λ (e : ℕ). node_of class.0 (node.EntryOf e))
    (slice_get (entries_of doc class.0) a.entry) o.0 class.2 in
    let opened : Node = node_of class.0 (node.EntryOf entry.0) in
    let same : class.0 ≡ o.0.class = ap (λ (n : Node). n.class) {x = opened} entry.2 in
    record {
      node = o.0;
      is_asked = o.1;
      is_node = in_its_class doc a.inst k o.0 (class.1 ∙ ap Some same)
          (number_is (nodes doc) o.0 k o.2);
    }

-- what an ask needs, by the slot of its entry
pub needed_there : (doc : Doc) (a : Ask) (k : ℕ) (jobs : List ℕ) (e : EntrySlot doc a k)
    → jobs ≡ needed doc a.inst e.node → jobs ≡ needed_by_ask doc a
needed_there doc a k jobs e is =
    is ∙ sym (ap (λ (o : Option Node). option_map_or (needed doc a.inst) o []) e.is_asked)

pub nothing_needed : (doc : Doc) (plan : Plan) (world : World) → IsContextOf doc plan world
    → (a : Ask) → None ≡ entry_there plan world a → [] ≡ needed_by_ask doc a
nothing_needed doc plan world of a is = by_entry (entry_node doc a) refl
  where
    by_entry : (o : Option Node) → entry_node doc a ≡ o
        → [] ≡ option_map_or (needed doc a.inst) o []
    by_entry None e = refl
    by_entry (Some n) e =
        let entry = asked_entry doc a n e in
        absurd (none-some entry.number (is ∙ (entry_is doc plan world of a
        ∙ (ap (option_and_then (number_of (nodes doc))) e ∙ entry.is_number))))

-- what the job of a producer's cell needs, by its slot
pub record CellSlot (doc : Doc) (c : CellName) : Type 0 where
  pub node : Node
  pub is_in : node_in doc c.inst c.slot ≡ Some node
  pub same : needed doc c.inst node ≡ needed_by doc c

pub needed_here : (doc : Doc) (cells : List CellName) (i : ℕ) (c : CellName)
    → AreProducers doc cells → i < length cells → c ≡ get_or cells i c → CellSlot doc c
needed_here doc cells i c all lt here =
    let p = out_producers doc (as_cell c) (all c (i, lt, sym here)) in
    record {
      node = p.node;
      is_in = in_its_class doc c.inst c.slot p.node p.class p.is_node;
      same = sym (ap (λ (o : Option Node). option_map_or (needed doc c.inst) o []) p.is_node);
    }
