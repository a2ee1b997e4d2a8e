-- What an ask asks for is a node, from which no walk has more than 129 nodes.
use Rattle.std.proofs.Common.{◌≡◌, ◌<◌, ℕ, zero, suc, ◌+◌, Bool, true, false, cond, not, ◌||◌, nat_lt, List, [], ◌∷◌, length, map, position, slice_get, Contains, Option, Some, refl, ap, subst, arith}
use Rattle.std.specs.List.{list_any, position_or_len, range_with_len}
use Rattle.std.proofs.lemmas.Bool.{false≢true, lt-ltb}
use Rattle.std.proofs.lemmas.Option.{none-some}
use Rattle.dg_decl.specs.declared.document.Doc.{Doc}
use Rattle.dg_decl.specs.declared.graph.Node.{Node}
use Rattle.dg_decl.specs.declared.graph.NodeKind.TheVariants as node
use Rattle.dg_decl.specs.declared.item.Item.{Item}
use Rattle.dg_decl.specs.declared.item.Item.TheVariants as item
use Rattle.dg_decl.specs.Document.{Statement, statements}
use Rattle.dg_decl.specs.Components.{class_count, class_named, entries_of}
use Rattle.dg_decl.specs.Walks.{root}
use Rattle.dg_decl.specs.Graph.{deps, target, same_node, node_of, nodes, number_of, needed_targets, targets, entry_nodes, edges, is_direct, is_called}
use Rattle.dg_decl.specs.Sizes.{is_entry}
use Rattle.dg_decl.proofs.ComponentLemmas.{class_below}
use Rattle.dg_decl.proofs.GraphLemmas.{reached_nodes, target_is_node, leads_by}
use Rattle.dg_decl.proofs.MemberLemmas.{in_map, in_flat_map, in_got, in_range, out_filter_map, out_option_map, out_and_then}
use Rattle.dg_decl.proofs.NodeWalks.{is_any}
use Rattle.dg_decl.proofs.NodeEquality.{node_decides}
use Rattle.dg_slots.specs.declared.session.Ask.{Ask}
use Rattle.dg_slots.specs.declared.session.Inst.{Inst}
use Rattle.dg_slots.specs.Sessions.{inst_of, insts_of}
use Rattle.dg_eval.specs.World.{inst_at, class_of_inst}
use Rattle.dg_eval.specs.Meaning.{node_at}
use Rattle.dg_eval.specs.Asks.{entry_node}
use Rattle.dg_eval.proofs.AcceptedDepth.{StagesFindNothing, accepted_shallow, found_no_entry}
use Rattle.dg_eval.proofs.TargetLemmas.{Shallow, number_is}

-- ---- a node has a number

cond_within : (b rest : Bool) (n len : ℕ) → (b || rest) ≡ true → (rest ≡ true → n < len)
    → cond (not b) (1 + n) 0 < suc len
cond_within true rest n len h later = omega arith
cond_within false rest n len h later = (let lt : n < len = later h in omega arith)

place_within : (p : Node → Bool) (xs : List Node) → list_any p xs ≡ true
    → position_or_len p xs < length xs
place_within p [] h = absurd (false≢true h)
place_within p (x ∷ xs) h =
    cond_within (p x) (list_any p xs) (position_or_len p xs) (length xs) h (place_within p xs)

found_at : (p : Node → Bool) (xs : List Node) → list_any p xs ≡ true
    → position p xs ≡ Some (position_or_len p xs)
found_at p xs h =
    let lt : nat_lt (position_or_len p xs) (length xs) ≡ true =
    lt-ltb (position_or_len p xs) (length xs) (place_within p xs h) in
    rw lt refl

numbered : (doc : Doc) (n : Node) → Contains (nodes doc) n
    → (k : ℕ) × (number_of (nodes doc) n ≡ Some k) × (node_at doc k ≡ Some n)
numbered doc n c =
    let found = found_at (same_node n) (nodes doc)
    (is_any same_node node_decides (nodes doc) n c) in (
      position_or_len (same_node n) (nodes doc),
      found,
      number_is (nodes doc) n (position_or_len (same_node n) (nodes doc)) found,
    )

-- ---- the class of an instance

abbrev OpensClass : Doc → Statement → Inst → Type 0
OpensClass doc s x = inst_of doc s ≡ Some x → x.class < class_count doc

opens_class : (doc : Doc) (i l : ℕ) (block : Option ℕ) (x : Item) (made : Inst)
    → OpensClass doc (record { index = i; line = l; block = block; item = x }) made
unfolding inst_of
opens_class doc i l block (item.OpenLine n class parent args) made e =
    let o = out_option_map _ (class_named doc class) made e in
    let same : o.0 ≡ made.class = ap (λ (x : Inst). x.class) o.2 in
    let lt : o.0 < class_count doc = class_below doc class o.0 o.1 in
    omega arith
opens_class doc i l block other made e = absurd (none-some made e)

class_is_below : (doc : Doc) (i class : ℕ) → class_of_inst doc i ≡ Some class
    → class < class_count doc
unfolding insts_of
class_is_below doc i class e =
    let o = out_option_map (λ (x : Inst). x.class) (inst_at doc i) class e in
    let among : Contains (insts_of doc) o.0 = in_got (insts_of doc) i o.0 o.1 in
    let s = out_filter_map (inst_of doc) (statements doc) o.0 among in
    let lt : o.0.class < class_count doc =
    opens_class doc s.0.index s.0.line s.0.block s.0.item o.0 s.2 in
    let same : o.0.class ≡ class = o.2 in
    omega arith

-- ---- the entry of an ask

-- an entry, as a node with its number
pub record IsEntryAt (doc : Doc) (n : Node) : Type 0 where
  pub number : ℕ
  pub is_number : number_of (nodes doc) n ≡ Some number
  pub is_node : node_at doc number ≡ Some n

pub asked_entry : (doc : Doc) (a : Ask) (n : Node) → entry_node doc a ≡ Some n → IsEntryAt doc n
asked_entry doc a n e =
    let class = out_and_then _ (class_of_inst doc a.inst) n e in
    let entry = out_option_map (λ (k : ℕ). node_of class.0 (node.EntryOf k))
    (slice_get (entries_of doc class.0) a.entry) n class.2 in
    let lt : class.0 < class_count doc = class_is_below doc a.inst class.0 class.1 in
    let here : Contains (entries_of doc class.0) entry.0 =
    in_got (entries_of doc class.0) a.entry entry.0 entry.1 in
    let among : Contains (entry_nodes doc) (node_of class.0 (node.EntryOf entry.0)) =
    in_flat_map (λ c. map (λ i. node_of c (node.EntryOf i)) (entries_of doc c))
    (range_with_len 0 (class_count doc)) class.0 (node_of class.0 (node.EntryOf entry.0))
    (in_range (class_count doc) class.0 lt)
    (in_map (λ i. node_of class.0 (node.EntryOf i)) (entries_of doc class.0) entry.0 here) in
    let P : Node → Type 0 = λ m. Contains (entry_nodes doc) m in
    let found = numbered doc n ((reached_nodes doc n).1 (root n (subst P entry.2 among))) in
    record { number = found.0; is_number = found.1; is_node = found.2 }

-- ---- how deep a node is

needed_is_target : (doc : Doc) (n m : Node) → Contains (needed_targets doc n) m
    → Contains (targets doc n) m
needed_is_target doc n m c = leads_by doc (λ e. is_direct e || is_called e) n m c

target_no_entry : (doc : Doc) (n m : Node) → Contains (targets doc n) m → is_entry m ≡ false
target_no_entry doc n m c =
    let o = out_filter_map target (deps doc n) m c in
    found_no_entry o.0.class o.0.key o.0.found m o.2

-- from an entry a walk is one longer
pub node_shallow : (doc : Doc) → StagesFindNothing doc → (n : Node) → Contains (nodes doc) n
    → Shallow doc 129 n
node_shallow doc none n among zero last w = omega arith
node_shallow doc none n among (suc edges) last w =
    let c : Contains (targets doc n) w.0 = needed_is_target doc n w.0 w.1 in
    let lt : edges < 128 =
    accepted_shallow doc none w.0 (target_is_node doc n w.0 among c) (target_no_entry doc n w.0 c)
    edges last w.2 in
    omega arith
