use Rattle.std.proofs.Common.{◌≡◌, ◌<◌, ◌≤◌, ◌↔◌, length, ℕ, List, true, get_or, Contains, sym, ap}
use Rattle.std.proofs.Common.{◌∙◌, subst, arith}
use Rattle.std.proofs.lemmas.List.{get_or_read}
use Rattle.std.proofs.lemmas.List.Elements.{Contains-get_or}
use Rattle.dg_num.specs.Graph.{node_count, successors, HasEdge}
use Rattle.dg_num.specs.Walks.{IsOnCycle}
use Rattle.dg_num.proofs.Marks.{marks_exact-push}
use Rattle.dg_num.proofs.WalkLaws.{kept_along, IsOnCycle-from_leads, first_on_cycle}
use Rattle.dg_num.proofs.cycles.marks_on_cycle.Goals as goal

pub has_number-requires : goal.has_number-requires
has_number-requires c = λ k d h.
    let row = c.row.result.now in
    let P : List ℕ → Type 0 = λ xs. Contains xs (get_or row k d) in
    let edge = subst P c.row.ensures.exact (Contains-get_or row k d h) in
    omega (
      arith,
      c.requires.graph.in_range c.loop-node.node (get_or row k d) edge,
      c.in_ok-numbers.ensures.len,
      ap length c.deref.ensures.value,
    )

pub loop-node-preserved : goal.loop-node-preserved
loop-node-preserved c =
    let graph = c.args.graph.now in
    let node = c.loop-node.node in
    let numbers = c.in_ok-numbers.numbers.items in
    let row = c.row.result.now in
    let on = c.has_number.result in
    let given : c.deref.result.now ≡ numbers = c.deref.ensures.value in
    let within : node < node_count graph = omega arith in
    let read : c.index-number.result.now ≡ get_or numbers node 0 =
    get_or_read numbers node c.index-number.result.now
    (omega (arith, within, c.in_ok-numbers.ensures.len)) c.index-number.ensures 0 in
    let decided : (on ≡ true) ↔ IsOnCycle (successors graph) node = (
      λ yes.
          let found = c.has_number.ensures.exact.0 yes in
          let after = found.0 in
          let P : List ℕ → Type 0 = λ xs. Contains xs after in
          let edge : HasEdge graph node after = subst P c.row.ensures.exact found.1 in
          let same : get_or numbers after 0 ≡ get_or numbers node 0 =
          ap (λ xs. get_or xs after 0) (sym given) ∙ found.2 ∙ read in
          IsOnCycle-from_leads graph node after edge
          (c.in_ok-numbers.ensures.same after node
          (c.requires.graph.in_range node after edge) within same),
      λ cycle.
          let first = first_on_cycle graph node cycle in
          let after = first.0 in
          let up = kept_along graph (λ x. get_or numbers after 0 ≤ get_or numbers x 0)
          (λ a b le edge. omega (arith, le, c.in_ok-numbers.ensures.edges a b edge)) first.2.0
          after node first.2.1 (omega arith) in
          let same : get_or numbers after 0 ≡ get_or numbers node 0 =
          omega (arith, up, c.in_ok-numbers.ensures.edges node after first.1) in
          let P : List ℕ → Type 0 = λ xs. Contains xs after in
          c.has_number.ensures.exact.1 (
            after,
            subst P (sym c.row.ensures.exact) first.1,
            ap (λ xs. get_or xs after 0) given ∙ same ∙ sym read,
          ),
    ) in
    record {
      len = omega (arith, c.in_ok-push.ensures.len, c.loop-node.invariant.len);
      exact = marks_exact-push (IsOnCycle (successors graph)) c.loop-node.marks.items
          c.push.new.self.items node on (omega (arith, c.loop-node.invariant.len))
          c.in_ok-push.ensures.items c.loop-node.invariant.exact decided;
    }
