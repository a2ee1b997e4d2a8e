use Rattle.std.proofs.Common.{◌≡◌, ◌<◌, ◌≤◌, ◌++◌, ◌∷◌, [], ℕ, List, Vec, Global, length, get_or}
use Rattle.std.proofs.Common.{sym, ap, ◌∙◌, subst, ⊎_elim, arith}
use Rattle.std.proofs.lemmas.Bool.{cases_lt}
use Rattle.std.proofs.lemmas.List.{get_or_past, get_or_push, get_or_append_left}
use Rattle.dg_num.specs.Graph.{successors}
use Rattle.dg_num.proofs.Rows.{row_at_read, row_at_past}
use Rattle.dg_num.proofs.peeling.row_lengths.Goals as goal

pub loop-row-preserved : goal.loop-row-preserved
loop-row-preserved c =
    let i = c.loop-row.row-index in
    let row = c.row-item.result in
    let rows = c.args.graph.now.next.items in
    let lengths = c.loop-row.lengths.items in
    let n = c.len-in-loop-row.result in
    let new = c.push.new.self.items in
    let pushed : new ≡ lengths ++ n ∷ [] = c.in_ok-push.ensures.items in
    let within : i < length rows = omega (
      arith,
      c.loop-row-test.true,
      ap length c.deref-row-items.ensures.value,
    ) in
    let P : List (Vec ℕ Global) → Type 0 = λ xs. row ≡ get_or xs i row in
    let read = row_at_read rows i row within (subst P c.deref-row-items.ensures.value c.row-item.is)
    in
    let lens : length lengths ≡ i = omega (arith, c.loop-row.invariant.len) in
    record {
      len = omega (arith, c.in_ok-push.ensures.len, c.loop-row.invariant.len);
      exact = λ node lt. ⊎_elim (λ (before : node < i).
          ap (λ xs. get_or xs node 0) pushed ∙ get_or_append_left lengths (n ∷ []) 0 node
          (omega arith) ∙ c.loop-row.invariant.exact node before) (λ (at : i ≤ node).
          let e : i ≡ node = omega arith in
          let Q : ℕ → Type 0 = λ x. get_or new x 0 ≡ length (successors c.args.graph.now x) in
          let here : Q i = ap (λ xs. get_or xs i 0) pushed ∙ get_or_push lengths n 0 i lens
          ∙ c.len-in-loop-row.ensures ∙ row.ok.0 ∙ sym (ap length read) in
          subst Q e here) (cases_lt node i);
    }

pub returns-clause-exact : goal.returns-clause-exact
returns-clause-exact c = λ node.
    ⊎_elim
    (λ (lt : node < c.loop-row.row-index). c.loop-row.invariant.exact node lt)
    (λ (past : c.loop-row.row-index ≤ node).
    get_or_past c.loop-row.lengths.items node 0 (omega (arith, c.loop-row.invariant.len))
    ∙ sym (ap length (row_at_past c.args.graph.now.next.items node
    (omega (arith, c.loop-row-test.false, ap length c.deref-row-items.ensures.value)))))
    (cases_lt node c.loop-row.row-index)
