use Rattle.std.proofs.Common.{◌≡◌, ◌<◌, ◌+◌, List, ℕ, false, length, get_or, take, All, subst, sym}
use Rattle.std.proofs.Common.{ap, ◌∙◌, arith}
use Rattle.std.proofs.lemmas.List.{get_or_read, take_all}
use Rattle.dg_num.specs.Walks.{IsTrueAt}
use Rattle.dg_num.proofs.Marks.{Marking, Marking-none, Marking-push, Marking-skip}
use Rattle.dg_num.proofs.reached.mark_new.Goals as goal
use Rattle.dg_num.proofs.reached.mark_new.Goals.{then-not-index+in_ok-push, else-not-index}

pub loop-node-init : goal.loop-node-init
loop-node-init c = Marking-none c.args.marks.now.items c.args.queue.now.items c.args.row.now
    c.requires.marked

pub loop-node-preserved : goal.loop-node-preserved
loop-node-preserved c =
    let node = get_or c.args.row.now c.loop-node.node-index 0 in
    let within : node < length c.loop-node.marks.items =
    omega (
      arith,
      c.requires.row c.loop-node.node-index 0 c.loop-node-test.true,
      c.loop-node.invariant.len,
    ) in
    elim c.if-not-index.branch [
      | then-not-index+in_ok-push w ↦ Marking-push c.args.marks.now.items c.args.queue.now.items
          c.args.row.now c.loop-node.marks.items c.loop-node.queue.items _ _ c.loop-node.node-index
          c.loop-node.invariant c.loop-node-test.true within
          (sym (get_or_read c.loop-node.marks.items node c.index.result.now within c.index.ensures
          false) ∙ w.if-not-index.true) (ap (λ v. v.items) w.marks-is)
          (ap (λ v. v.items) w.queue-is ∙ w.in_ok-push.ensures.items)
      | else-not-index w ↦ subst (λ ms. Marking c.args.marks.now.items c.args.queue.now.items
          c.args.row.now ms c.if-not-index.queue.items (c.loop-node.node-index + 1))
          (sym (ap (λ v. v.items) w.marks-is)) (subst
          (λ qs. Marking c.args.marks.now.items c.args.queue.now.items c.args.row.now
          c.loop-node.marks.items qs (c.loop-node.node-index + 1))
          (sym (ap (λ v. v.items) w.queue-is)) (Marking-skip c.args.marks.now.items
          c.args.queue.now.items c.args.row.now c.loop-node.marks.items c.loop-node.queue.items
          c.loop-node.node-index c.loop-node.invariant c.loop-node-test.true
          (sym (get_or_read c.loop-node.marks.items node c.index.result.now within c.index.ensures
          false) ∙ w.if-not-index.false)))
    ]

pub returns-clause-row : goal.returns-clause-row
returns-clause-row c =
    let all : take c.loop-node.node-index c.args.row.now ≡ c.args.row.now =
    take_all c.loop-node.node-index c.args.row.now c.loop-node-test.false in
    let P : List ℕ → Type 0 = λ xs. All (IsTrueAt c.loop-node.marks.items) xs in
    subst P all c.loop-node.invariant.all
