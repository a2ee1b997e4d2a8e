use Rattle.std.proofs.Common.{◌≡◌, ◌<◌, ◌++◌, ℕ, List, All, Contains, length, get_or, subst, ap}
use Rattle.std.proofs.Common.{◌∙◌, arith}
use Rattle.std.proofs.lemmas.List.{get_or_read}
use Rattle.std.proofs.lemmas.List.Elements.{Contains-get_or}
use Rattle.dg_num.specs.Graph.{successors}
use Rattle.dg_num.specs.Walks.{IsTrueAt}
use Rattle.dg_num.proofs.Marks.{marked_within}
use Rattle.dg_num.proofs.Searches.{Searched-start, Searched-step, Searched-end}
use Rattle.dg_num.proofs.reached.reach.Goals as goal

pub loop-next-init : goal.loop-next-init
loop-next-init c =
    let a = c.in_ok-mark_new.ensures.added in
    Searched-start c.args.graph.now c.args.from.now c.mark_new.new.marks.items
    c.mark_new.new.queue.items a.0 (omega (
      arith,
      c.in_ok-mark_new.ensures.len,
      c.in_ok-marks.ensures.len,
      c.len.ensures,
    )) c.in_ok-mark_new.ensures.marked
    (a.1 ∙ ap (λ xs. xs ++ a.0) c.new-queue.ensures.items) a.2 c.in_ok-mark_new.ensures.row

pub row-row-requires : goal.row-row-requires
row-row-requires c =
    let s = c.loop-next.invariant in
    let queue = c.loop-next.queue.items in
    let within : c.loop-next.next < length queue = omega arith in
    let read = get_or_read queue c.loop-next.next c.index.result.now within c.index.ensures 0 in
    let marked : IsTrueAt c.loop-next.marks.items (get_or queue c.loop-next.next 0) =
    (s.marked _).1 (Contains-get_or queue c.loop-next.next 0 within) in
    omega (arith, read, marked_within c.loop-next.marks.items _ marked, s.for_each_node)

pub mark_new-requires-in-loop-next-clause-row : goal.mark_new-requires-in-loop-next-clause-row
mark_new-requires-in-loop-next-clause-row c = λ k d h.
    let row = c.row-row.result.now in
    let e : row ≡ successors c.args.graph.now c.index.result.now = c.row-row.ensures.exact in
    let P : List ℕ → Type 0 = λ xs. Contains xs (get_or row k d) in
    let edge = subst P e (Contains-get_or row k d h) in
    omega (
      arith,
      c.requires.graph.in_range c.index.result.now (get_or row k d) edge,
      c.loop-next.invariant.for_each_node,
    )

pub loop-next-preserved : goal.loop-next-preserved
loop-next-preserved c =
    let a = c.in_ok-mark_new-2.ensures.added in
    let queue = c.loop-next.queue.items in
    let within : c.loop-next.next < length queue = omega arith in
    let node : c.index.result.now ≡ get_or queue c.loop-next.next 0 =
    get_or_read queue c.loop-next.next c.index.result.now within c.index.ensures 0 in
    let row : c.row-row.result.now ≡ successors c.args.graph.now (get_or queue c.loop-next.next 0) =
    c.row-row.ensures.exact ∙ ap (λ x. successors c.args.graph.now x) node in
    Searched-step c.args.graph.now c.args.from.now c.loop-next.marks.items _ queue _ a.0
    c.loop-next.next c.loop-next.invariant within
    (omega arith) c.in_ok-mark_new-2.ensures.marked a.1
    (let P : List ℕ → Type 0 = λ xs. All (Contains xs) a.0 in subst P row a.2)
    (let P : List ℕ → Type 0 = λ xs.
    All (IsTrueAt c.mark_new-in-loop-next.new.marks.items) xs in
    subst P row c.in_ok-mark_new-2.ensures.row)

pub returns : goal.returns
returns c = record {
  exact = Searched-end c.args.graph.now c.args.from.now c.loop-next.marks.items
      c.loop-next.queue.items c.loop-next.next c.loop-next.invariant (omega arith);
}
