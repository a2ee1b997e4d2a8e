use Rattle.std.proofs.Common.{◌-◌, ◌<◌, ◌∷◌, [], ℕ, List, Contains, length, get_or, take, refl, sym}
use Rattle.std.proofs.Common.{ap, subst, arith}
use Rattle.std.proofs.lemmas.List.{get_or_read}
use Rattle.std.proofs.lemmas.List.Elements.{Contains-get_or}
use Rattle.dg_num.proofs.Counts.{contained_at}
use Rattle.dg_num.proofs.Marks.{marked_within}
use Rattle.dg_num.proofs.Numberings.{Finished, Numbering-look, Numbering-next, Numbering-all}
use Rattle.dg_num.proofs.Rows.{node_from_edge, HasEdge-back, HasEdge-reversed}
use Rattle.dg_num.proofs.components.component_numbers.Goals as goal

pub index_mut-requires : goal.index_mut-requires
index_mut-requires c =
    let n = c.loop-next.invariant in
    let queue = c.loop-next.queue.items in
    let within : c.loop-next.next < length queue = omega arith in
    let at = get_or_read queue c.loop-next.next c.index-node.result.now within c.index-node.ensures
    0 in
    omega (
      arith,
      marked_within c.loop-next.marks.items c.index-node.result.now
          ((n.marked c.index-node.result.now).1 (contained_at queue c.loop-next.next
          c.index-node.result.now within (sym at))),
      n.for_marks,
      n.for_numbers,
    )

pub row-requires : goal.row-requires
row-requires c =
    let n = c.loop-next.invariant in
    let queue = c.loop-next.queue.items in
    let within : c.loop-next.next < length queue = omega arith in
    let at = get_or_read queue c.loop-next.next c.index-node.result.now within c.index-node.ensures
    0 in
    omega (
      arith,
      marked_within c.loop-next.marks.items c.index-node.result.now
          ((n.marked c.index-node.result.now).1 (contained_at queue c.loop-next.next
          c.index-node.result.now within (sym at))),
      n.for_marks,
      c.requires.turned.same_nodes,
    )

pub mark_new-requires-clause-row : goal.mark_new-requires-clause-row
mark_new-requires-clause-row c = λ k d h.
    let row = c.row.result.now in
    let node = c.index-node.result.now in
    let P : List ℕ → Type 0 = λ xs. Contains xs (get_or row k d) in
    let edge = subst P c.row.ensures.exact (Contains-get_or row k d h) in
    omega (
      arith,
      node_from_edge c.args.graph.now (get_or row k d) node
          (HasEdge-back c.args.graph.now c.args.turned.now c.requires.turned
          (get_or row k d) node edge),
      c.loop-next.invariant.for_marks,
    )

pub loop-next-preserved-then-next-len : goal.loop-next-preserved-then-next-len
loop-next-preserved-then-next-len c =
    let queue = c.loop-next.queue.items in
    let within : c.loop-next.next < length queue = omega arith in
    let at = get_or_read queue c.loop-next.next c.index-node.result.now within c.index-node.ensures
    0 in
    let added = c.in_ok-mark_new.ensures.added in
    Numbering-look c.args.graph.now c.args.turned.now c.in_ok-order.order.items
    (take c.loop-next.number queue) c.loop-next.marks.items _ queue _ added.0
    c.loop-next.numbers.items _ c.row.result.now c.loop-next.next c.loop-next.number
    c.loop-next.root c.index-node.result.now c.requires.turned c.loop-next.invariant within
    (sym at) refl c.row.ensures.exact (omega (arith, c.in_ok-mark_new.ensures.len))
    c.in_ok-mark_new.ensures.marked added.1 added.2 added.3 c.in_ok-mark_new.ensures.row

pub loop-next-preserved : goal.loop-next-preserved
loop-next-preserved c =
    let queue = c.loop-next.queue.items in
    let order = c.in_ok-order.order.items in
    let finished : Finished c.args.graph.now order = record {
      nodes = c.in_ok-order.ensures.nodes;
      each = c.in_ok-order.ensures.each;
      edges = c.in_ok-order.ensures.edges;
    } in
    let root = c.loop-next.root - 1 in
    let at = get_or_read order root c.index.result.now
    (omega (arith, c.loop-next.invariant.root_le)) c.index.ensures 0 in
    let added = c.in_ok-mark_new-2.ensures.added in
    Numbering-next c.args.graph.now c.args.turned.now order
    (take c.loop-next.number queue) c.loop-next.marks.items _ queue _ added.0
    c.loop-next.numbers.items (c.index.result.now ∷ []) c.loop-next.next c.loop-next.number
    c.loop-next.root root c.len-number.result c.requires.graph finished c.loop-next.invariant
    (omega arith) (omega arith) (omega arith) (ap (λ x. x ∷ []) at)
    (omega (arith, c.in_ok-mark_new-2.ensures.len)) c.in_ok-mark_new-2.ensures.marked added.1
    added.2 added.3 c.in_ok-mark_new-2.ensures.row

pub returns-else-root-gt0-clause-edges : goal.returns-else-root-gt0-clause-edges
returns-else-root-gt0-clause-edges c = λ a b edge.
    let graph = c.args.graph.now in
    let order = c.in_ok-order.order.items in
    let queue = c.loop-next.queue.items in
    let finished : Finished graph order = record {
      nodes = c.in_ok-order.ensures.nodes;
      each = c.in_ok-order.ensures.each;
      edges = c.in_ok-order.ensures.edges;
    } in
    let all = Numbering-all graph c.args.turned.now order
    (take c.loop-next.number queue) c.loop-next.marks.items queue c.loop-next.numbers.items
    c.loop-next.next c.loop-next.number c.loop-next.root c.requires.graph finished
    c.loop-next.invariant (omega arith) (omega arith) in
    all.0.edges b a (all.1 b (c.requires.graph.in_range a b edge))
    (HasEdge-reversed graph c.args.turned.now c.requires.turned a b edge)

pub returns-else-root-gt0-clause-same : goal.returns-else-root-gt0-clause-same
returns-else-root-gt0-clause-same c = λ a b la lb same.
    let graph = c.args.graph.now in
    let order = c.in_ok-order.order.items in
    let queue = c.loop-next.queue.items in
    let finished : Finished graph order = record {
      nodes = c.in_ok-order.ensures.nodes;
      each = c.in_ok-order.ensures.each;
      edges = c.in_ok-order.ensures.edges;
    } in
    let all = Numbering-all graph c.args.turned.now order
    (take c.loop-next.number queue) c.loop-next.marks.items queue c.loop-next.numbers.items
    c.loop-next.next c.loop-next.number c.loop-next.root c.requires.graph finished
    c.loop-next.invariant (omega arith) (omega arith) in
    all.0.same a b (all.1 a la) (all.1 b lb) same
