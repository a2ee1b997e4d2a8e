-- Nodes on walks that return and have a called edge, by their numbers.
use Rattle.std.proofs.Common.{◌≡◌, ◌↔◌, ◌⊎◌, inl, inr, ℕ, suc, ◌+◌, ◌<◌, Bool, true, false, ◌||◌}
use Rattle.std.proofs.Common.{◌&&◌, List, [], ◌∷◌, length, get_or, map, filter, replicate}
use Rattle.std.proofs.Common.{slice_get, Contains, Some, sym, ap, subst, ◌∙◌, arith}
use Rattle.std.proofs.lemmas.Bool.{cases_lt, false≢true, or_cases, or_left, or_right}
use Rattle.std.proofs.lemmas.List.{get_or-replicate, length-replicate}
use Rattle.std.proofs.lemmas.List.Elements.{Contains-get_or}
use Rattle.std.proofs.lemmas.Option.{slice_get_within}
use Rattle.dg_num.specs.declared.graph.Graph.{Graph}
use Rattle.dg_num.specs.Counts.{IsReversed}
use Rattle.dg_num.specs.Graph.{node_count, successors, HasEdge, IsSound}
use Rattle.dg_num.specs.Walks.{Leads, IsReached, IsOnCycle, IsTrueAt, TellsExactly}
use Rattle.dg_num.proofs.Rows.{node_from_edge, HasEdge-reversed, HasEdge-back}
use Rattle.dg_num.proofs.WalkLaws.{Walk-push, Walk-reversed, Leads-trans, Leads-edge}
use Rattle.dg_num.proofs.WalkLaws.{IsOnCycle-from_leads}
use Rattle.dg_decl.specs.declared.document.Doc.{Doc}
use Rattle.dg_decl.specs.declared.graph.Node.{Node}
use Rattle.dg_decl.specs.declared.graph.Edge.{Edge}
use Rattle.dg_decl.specs.Graph.{nodes, EdgeTo, edges, edge_lists, is_direct, is_called}
use Rattle.dg_decl.specs.Graph.{needed_targets, called_targets, OnCall, is_on_call}
use Rattle.dg_decl.proofs.MemberLemmas.{in_got, in_front, the_one, in_map, out_map, in_filter}
use Rattle.dg_decl.proofs.MemberLemmas.{out_filter}
use Rattle.dg_decl.proofs.NodesOnce.{once_nodes}
use Rattle.dg_decl.proofs.NodeEquality.{first_so, second_so, both_so}
use Rattle.dg_decl.proofs.GraphLemmas.{cycles_by_short_walks}
use Rattle.dg_walks.specs.declared.rows.Follow.TheVariants as follow
use Rattle.dg_walks.specs.Rows.{row_of, rows_of, IsGraphOf}
use Rattle.dg_walks.specs.Calls.{IsCalledBelow, TellsCalled, AreParts, Joined, IsReachedFrom}
use Rattle.dg_walks.specs.Calls.{MarksBetween}
use Rattle.dg_walks.proofs.NumberLemmas.{node_at, one_number, edge_down, edge_up, walk_up}
use Rattle.dg_walks.proofs.NumberLemmas.{leads_down, leads_up, started, rooted, told}
use Rattle.dg_walks.proofs.RowLemmas.{called_agree, is_graph}

-- ---- marks of two searches

-- a search against the edges comes to the nodes from which walks lead here
pub back_is : (graph turned : Graph) → IsReversed graph turned → (to k : ℕ)
    → IsReachedFrom turned to k ↔ Leads (successors graph) k to
back_is graph turned rev to k = (
  λ r. (let P : ℕ → Type 0 = λ x. Leads (successors graph) k x in
      let w : Leads (successors graph) k r.0 = (
        r.2.0,
        Walk-reversed turned graph (λ a b e. HasEdge-back graph turned rev b a e) r.2.0 r.0
            k r.2.1,
      ) in
      subst P (sym (the_one r.0 to r.1)) w),
  λ l. (
    to,
    in_front to [],
    (l.0, Walk-reversed graph turned (HasEdge-reversed graph turned rev) l.0 k to l.1),
  ),
)

pub marks_between : (graph turned : Graph) (from : List ℕ) (to : ℕ)
    (before ahead back marks : List Bool) → IsReversed graph turned
    → length before ≡ node_count graph
    → TellsExactly graph (IsReached (successors graph) from) ahead
    → TellsExactly turned (IsReachedFrom turned to) back
    → Joined before ahead back (length before) marks → MarksBetween graph from to before marks
marks_between graph turned from to before ahead back marks rev len a b so = record {
  len = so.len;
  exact = λ k lt.
      (let lt' : k < node_count turned = omega (arith, rev.same_nodes) in
      let small : k < length before = omega arith in
      let is = so.done k small in
      let both = back_is graph turned rev to k in (
        λ t. elim (or_cases (get_or before k false) (get_or ahead k false && get_or back k false)
            (sym is ∙ t)) [
              | inl old ↦ inl old
              | inr new ↦ inr (
                (a.exact k lt).0 (first_so (get_or ahead k false) (get_or back k false) new),
                both.0 ((b.exact k lt').0
                    (second_so (get_or ahead k false) (get_or back k false) new)),
              )
            ],
        λ c. is ∙ elim c [
          | inl old ↦ or_left (get_or before k false)
              (get_or ahead k false && get_or back k false) old
          | inr new ↦ or_right (get_or before k false)
              (get_or ahead k false && get_or back k false)
              (both_so (get_or ahead k false) (get_or back k false) ((a.exact k lt).1 new.0)
              ((b.exact k lt').1 (both.1 new.1)))
        ],
      ));
}

pub marks_between_slices : (graph turned : Graph) (from : List ℕ) (to : ℕ)
    (before ahead back ahead' back' marks : List Bool) (n : ℕ) → IsReversed graph turned
    → length before ≡ node_count graph
    → TellsExactly graph (IsReached (successors graph) from) ahead
    → TellsExactly turned (IsReachedFrom turned to) back
    → ahead' ≡ ahead → back' ≡ back → n ≡ length before
    → Joined before ahead' back' n marks → MarksBetween graph from to before marks
marks_between_slices graph turned from to before ahead back ahead' back' marks n rev len a b ea eb
    en so =
    let P : List Bool → Type 0 = λ xs. Joined before xs back' n marks in
    let Q : List Bool → Type 0 = λ xs. Joined before ahead xs n marks in
    let R : ℕ → Type 0 = λ k. Joined before ahead back k marks in
    marks_between graph turned from to before ahead back marks rev len a b
    (subst R en (subst Q eb (subst P ea so)))

-- ---- the called edges of one more node

below_more : (graph called : Graph) (i k : ℕ) → IsCalledBelow graph called i k
    → IsCalledBelow graph called (i + 1) k
below_more graph called i k (m, t, lt, edge, to, back) = (m, t, omega arith, edge, to, back)

-- where what the called edges of the node add is there already, nothing changes
kept : (graph called : Graph) (i : ℕ) (marks : List Bool) → TellsCalled graph called i marks
    → ((k t : ℕ) → HasEdge called i t → Leads (successors graph) k i → Leads (successors graph) t k
    → IsCalledBelow graph called i k) → TellsCalled graph called (i + 1) marks
kept graph called i marks so old = record {
  for_each_node = so.for_each_node;
  exact = λ k lt. (
    λ t. below_more graph called i k ((so.exact k lt).0 t),
    λ c. (so.exact k lt).1 (narrow k c),
  );
}
  where
    narrow : (k : ℕ) → IsCalledBelow graph called (i + 1) k → IsCalledBelow graph called i k
    narrow k (m, t, lt, edge, to, back) =
        elim (cases_lt m i) [
          | inl below ↦ (m, t, below, edge, to, back)
          | inr at ↦ (let same : m ≡ i = omega arith in
              let P : ℕ → Type 0 = λ x. HasEdge called x t in
              let Q : ℕ → Type 0 = λ x. Leads (successors graph) k x in
              old k t (subst P same edge) (subst Q same to) back)
        ]

-- an edge that closes a walk ends at a node on a cycle, too
cycle_after : (graph : Graph) (a b : ℕ) → HasEdge graph a b → Leads (successors graph) b a
    → IsOnCycle (successors graph) b
cycle_after graph a b edge leads =
    (suc leads.0, omega arith, Walk-push graph leads.0 b a b leads.1 edge)

pub calls_below : (graph turned called : Graph) (on_cycle : List Bool) (i : ℕ) (from : List ℕ)
    → AreParts graph turned called on_cycle → from ≡ successors called i
    → (k d : ℕ) → k < length from → get_or from k d < node_count graph
calls_below graph turned called on_cycle i from parts row k d lt =
    let P : List ℕ → Type 0 = λ xs. Contains xs (get_or from k d) in
    let edge = subst P row (Contains-get_or from k d lt) in
    parts.sound.in_range i (get_or from k d) (parts.within i (get_or from k d) edge)

pub row_below : (graph turned called : Graph) (on_cycle : List Bool) (i : ℕ) (from : List ℕ)
    → AreParts graph turned called on_cycle → from ≡ successors called i
    → (k d : ℕ) → k < length from → get_or from k d < length on_cycle
row_below graph turned called on_cycle i from parts row k d lt =
    omega (
      arith,
      calls_below graph turned called on_cycle i from parts row k d lt,
      parts.cycles.for_each_node,
    )

-- a called edge of a node on such a walk makes it a cycle
closes : (graph turned called : Graph) (on_cycle : List Bool)
    → AreParts graph turned called on_cycle → (i k t : ℕ) → HasEdge called i t
    → Leads (successors graph) k i → Leads (successors graph) t k → IsOnCycle (successors graph) i
closes graph turned called on_cycle parts i k t edge to back =
    IsOnCycle-from_leads graph i t (parts.within i t edge) (Leads-trans graph t k i back to)

pub without_cycle : (graph turned called : Graph) (on_cycle marks : List Bool) (i : ℕ)
    → AreParts graph turned called on_cycle → i < node_count graph
    → TellsCalled graph called i marks → get_or on_cycle i false ≡ false
    → TellsCalled graph called (i + 1) marks
without_cycle graph turned called on_cycle marks i parts lt so off =
    kept graph called i marks so (λ k t edge to back. absurd (false≢true (sym off
    ∙ (parts.cycles.exact i lt).1 (closes graph turned called on_cycle parts i k t edge to back))))

-- and of the node to which it leads
pub without_called_cycle : (graph turned called : Graph) (on_cycle marks : List Bool) (i : ℕ)
    (from : List ℕ) → AreParts graph turned called on_cycle → from ≡ successors called i
    → TellsCalled graph called i marks
    → ((node : ℕ) × Contains from node × IsTrueAt on_cycle node → ⊥)
    → TellsCalled graph called (i + 1) marks
without_called_cycle graph turned called on_cycle marks i from parts row so none =
    kept graph called i marks so (λ k t edge to back.
    let P : List ℕ → Type 0 = λ xs. Contains xs t in
    let leads = parts.within i t edge in
    let lt : t < node_count graph = parts.sound.in_range i t leads in
    let closed = Leads-trans graph t k i back to in
    let around : IsOnCycle (successors graph) t =
    cycle_after graph i t leads closed in
    absurd (none (t, subst P (sym row) edge, (parts.cycles.exact t lt).1 around)))

pub when_marked : (graph turned called : Graph) (on_cycle marks : List Bool) (i : ℕ)
    → AreParts graph turned called on_cycle → i < node_count graph
    → TellsCalled graph called i marks → get_or marks i false ≡ true
    → TellsCalled graph called (i + 1) marks
when_marked graph turned called on_cycle marks i parts lt so marked =
    let c = (so.exact i lt).0 marked in
    kept graph called i marks so (λ k t edge to back. (
      c.0,
      c.1,
      c.2,
      c.3,
      Leads-trans graph k i c.0 to c.4,
      Leads-trans graph c.1 i k c.5 (Leads-trans graph i t k
          (Leads-edge graph i t (parts.within i t edge)) back),
    ))

pub called_more : (graph called : Graph) (i : ℕ) (from : List ℕ) (before marks : List Bool)
    → TellsCalled graph called i before → from ≡ successors called i
    → MarksBetween graph from i before marks → TellsCalled graph called (i + 1) marks
called_more graph called i from before marks so row between = record {
  for_each_node = between.len ∙ so.for_each_node;
  exact = λ k lt. (
    λ t. elim ((between.exact k lt).0 t) [
      | inl old ↦ below_more graph called i k ((so.exact k lt).0 old)
      | inr new ↦ (let r = new.0 in let P : List ℕ → Type 0 = λ xs. Contains xs r.0 in
          (i, r.0, omega arith, subst P row r.1, new.1, r.2))
    ],
    λ c. (between.exact k lt).1 (split k lt c),
  );
}
  where
    split : (k : ℕ) → k < node_count graph → IsCalledBelow graph called (i + 1) k
        → IsTrueAt before k ⊎ (IsReached (successors graph) from k × Leads (successors graph) k i)
    split k small (m, t, lt, edge, to, back) =
        elim (cases_lt m i) [
          | inl below ↦ inl ((so.exact k small).1 (m, t, below, edge, to, back))
          | inr at ↦ (let same : m ≡ i = omega arith in
              let P : ℕ → Type 0 = λ x. HasEdge called x t in
              let Q : ℕ → Type 0 = λ x. Leads (successors graph) k x in
              let R : List ℕ → Type 0 = λ xs. Contains xs t in
              inr ((t, subst R (sym row) (subst P same edge), back), subst Q same to))
        ]

pub called_none : (graph called : Graph) (n : ℕ) (marks : List Bool) → n ≡ node_count graph
    → marks ≡ replicate n false → TellsCalled graph called 0 marks
called_none graph called n marks count is = record {
  for_each_node = ap length is ∙ length-replicate {A = Bool} n false ∙ count;
  exact = λ k lt.
      (let small : k < n = omega arith in
      let off : get_or marks k false ≡ false =
      ap (λ xs. get_or xs k false) is ∙ get_or-replicate n k false false small in (
        λ t. absurd (false≢true (sym off ∙ t)),
        λ c. absurd (let lt : c.0 < 0 = c.2 in omega arith),
      ));
}

-- ---- the graphs of a document

pub called_graph : (doc : Doc) (graph : Graph) (lists : List (List Edge))
    → lists ≡ edge_lists doc → rows_of graph ≡ map (row_of follow.Called) lists
    → IsGraphOf (nodes doc) (called_targets doc) graph
called_graph doc graph lists are is = is_graph doc follow.Called is_called called_agree graph lists
    are is

called_is_needed : (doc : Doc) (m n : Node) → Contains (called_targets doc m) n
    → Contains (needed_targets doc m) n
called_is_needed doc m n c =
    let o = out_map (λ (e : EdgeTo). e.to) (filter is_called (edges doc m)) n c in
    let f = out_filter is_called (edges doc m) o.0 o.1 in
    let P : Node → Type 0 = Contains (needed_targets doc m) in
    subst P o.2 (in_map (λ (e : EdgeTo). e.to) (filter (λ e. is_direct e || is_called e)
    (edges doc m)) o.0 (in_filter (λ e. is_direct e || is_called e) (edges doc m) o.0 f.0
    (or_right (is_direct o.0) (is_called o.0) f.1)))

pub edges_within : (doc : Doc) (graph called : Graph)
    → IsGraphOf (nodes doc) (needed_targets doc) graph
    → IsGraphOf (nodes doc) (called_targets doc) called
    → (a b : ℕ) → HasEdge called a b → HasEdge graph a b
edges_within doc graph called g h a b edge =
    let lt : a < node_count called = node_from_edge called a b edge in
    let n = node_at (nodes doc) a (omega (arith, h.counted)) in
    let d = edge_down (nodes doc) (called_targets doc) called h a b n.0 n.1 edge in
    let u = edge_up (nodes doc) (needed_targets doc) graph g a n.0 d.0 n.1
    (called_is_needed doc n.0 d.0 d.2) in
    let P : ℕ → Type 0 = HasEdge graph a in
    subst P (one_number (nodes doc) (once_nodes doc) u.0 b d.0 u.1 d.1) u.2

pub are_parts : (doc : Doc) (graph turned called : Graph) (on_cycle marks : List Bool)
    → IsGraphOf (nodes doc) (needed_targets doc) graph
    → IsGraphOf (nodes doc) (called_targets doc) called → IsSound graph
    → IsReversed graph turned → TellsExactly graph (IsOnCycle (successors graph)) on_cycle
    → marks ≡ on_cycle → AreParts graph turned called marks
are_parts doc graph turned called on_cycle marks g h sound rev tells same =
    let P : List Bool → Type 0 = TellsExactly graph (IsOnCycle (successors graph)) in
    record {
      sound = sound;
      reversed = rev;
      counted = h.counted ∙ sym g.counted;
      within = λ a b edge. edges_within doc graph called g h a b edge;
      cycles = subst P (sym same) tells;
    }

-- ---- the answer

to_call : (doc : Doc) (graph called : Graph) → IsGraphOf (nodes doc) (needed_targets doc) graph
    → IsGraphOf (nodes doc) (called_targets doc) called → (k : ℕ) (n : Node)
    → slice_get (nodes doc) k ≡ Some n → IsCalledBelow graph called (node_count graph) k
    → OnCall doc n
to_call doc graph called g h k n at (m, t, lt, edge, to, back) =
    let next = needed_targets doc in
    let from = node_at (nodes doc) m (omega (arith, g.counted)) in
    let d = edge_down (nodes doc) (called_targets doc) called h m t from.0 from.1 edge in
    let first = leads_down (nodes doc) (needed_targets doc) graph g k m n from.0 at from.1 to in
    let last = leads_down (nodes doc) (needed_targets doc) graph g t k d.0 n d.1 at back in (
      from.0,
      d.0,
      rooted (needed_targets doc) (n ∷ []) from.0 (n, in_front n [], first),
      d.2,
      rooted (needed_targets doc) (d.0 ∷ []) n (d.0, in_front d.0 [], last),
    )

leads_from : (doc : Doc) (a b : Node) → IsReached (needed_targets doc) (a ∷ []) b
    → Leads (needed_targets doc) a b
leads_from doc a b r =
    let P : Node → Type 0 = λ x. Leads (needed_targets doc) x b in
    subst P (sym (the_one r.0 a r.1)) r.2

from_call : (doc : Doc) (graph called : Graph) → IsGraphOf (nodes doc) (needed_targets doc) graph
    → IsGraphOf (nodes doc) (called_targets doc) called → (k : ℕ) (n : Node)
    → slice_get (nodes doc) k ≡ Some n → OnCall doc n
    → IsCalledBelow graph called (node_count graph) k
from_call doc graph called g h k n at c =
    let first = leads_from doc n c.0 (started (needed_targets doc) (n ∷ []) c.0 c.2) in
    let last = leads_from doc c.1 n (started (needed_targets doc) (c.1 ∷ []) n c.4) in
    let u = walk_up (nodes doc) (needed_targets doc) graph g first.0 k n c.0 at first.1 in
    let e = edge_up (nodes doc) (called_targets doc) called h u.0 c.0 c.1 u.1 c.3 in (
      u.0,
      e.0,
      omega (arith, slice_get_within (nodes doc) u.0 c.0 u.1, g.counted),
      e.2,
      (first.0, u.2),
      leads_up (nodes doc) (needed_targets doc) graph g (once_nodes doc) e.0 k c.1 n e.1 at last,
    )

pub told_on_call : (doc : Doc) (graph called : Graph) (marks : List Bool)
    → IsGraphOf (nodes doc) (needed_targets doc) graph
    → IsGraphOf (nodes doc) (called_targets doc) called
    → TellsCalled graph called (node_count graph) marks
    → marks ≡ map (is_on_call doc) (nodes doc)
told_on_call doc graph called marks g h tells =
    told (nodes doc) graph (IsCalledBelow graph called (node_count graph)) (is_on_call doc) marks
    g.counted (record { for_each_node = tells.for_each_node; exact = tells.exact })
    (λ k n at. let law = (cycles_by_short_walks doc n (in_got (nodes doc) k n at)).1 in (
      λ c. law.1 (to_call doc graph called g h k n at c),
      λ t. from_call doc graph called g h k n at (law.0 t),
    ))
