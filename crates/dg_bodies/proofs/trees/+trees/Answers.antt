use Rattle.std.proofs.Common.{rules, refl, sym, ap, ◌∙◌, arith}
use Rattle.std.proofs.lemmas.Result.{err_from_is_err_and}
use Rattle.dg_eval.specs.Bodies.{cond_part, tree_part}
use Rattle.dg_requests.specs.Results.{as_end, ends}
use Rattle.dg_bodies.specs.declared.counters.NewsAndCalls.{NewsAndCalls}
use Rattle.dg_bodies.specs.Counts.{after}
use Rattle.dg_bodies.specs.Sites.{seen, run_at}
use Rattle.dg_bodies.proofs.RunLists.{stops_as}
use Rattle.dg_bodies.proofs.Steps.{can_begin, can_go_on, stops, goes_on, lacks_first, on_ok_map, on_passed, ran_passed, can_true, can_false, ran_true, ran_false}
use Rattle.dg_bodies.proofs.PartRuns.{choice_run}
use Rattle.dg_bodies.proofs.CountLemmas.{after_choice}
use Rattle.dg_bodies.proofs.TreeLemmas.{ends_counted, awaits_yes, awaits_no}
use Rattle.dg_bodies.proofs.trees.+trees.Goals as goal

pub chosen-condition-requires-clause-can : goal.chosen-condition-requires-clause-can
chosen-condition-requires-clause-can g t c =
    let s = g.S.InScope.scope in
    let see = seen s c.args.depth c.args.site.now in
    let at = c.args.at.now in
    let a = tree_part c.args.yes.now in
    let b = tree_part c.args.no.now in
    let first = run_at (cond_part c.args.cond.now) see at in
    can_begin s _ first _
    (choice_run c.args.cond.now c.args.yes.now c.args.no.now see at
    (after (cond_part c.args.cond.now) at) (after a (after (cond_part c.args.cond.now) at)) refl refl)
    c.requires.can

pub chosen-returns-in_err-condition-clause-ran : goal.chosen-returns-in_err-condition-clause-ran
chosen-returns-in_err-condition-clause-ran g t c =
    let s = g.S.InScope.scope in
    let see = seen s c.args.depth c.args.site.now in
    let at = c.args.at.now in
    let a = tree_part c.args.yes.now in
    let b = tree_part c.args.no.now in
    let first = run_at (cond_part c.args.cond.now) see at in
    let p = err_from_is_err_and c.from_residual.result c.from_residual.ensures.1 in
    stops s _ first _ _ _ c.in_err-condition.field-0.0 p.0 (ends c.from_residual.result)
    (choice_run c.args.cond.now c.args.yes.now c.args.no.now see at
    (after (cond_part c.args.cond.now) at) (after a (after (cond_part c.args.cond.now) at)) refl refl)
    c.requires.can c.in_err-condition.ensures.ran (ap ends p.1) p.2

pub chosen-tree-requires : goal.chosen-tree-requires
chosen-tree-requires g t c κs within = (
  omega (arith, c.decreases),
  (
    search rules,
    (
      search rules,
      (
        search rules,
        (
          c.requires.fit,
          (
            c.requires.of_world,
            (
              awaits_yes _ _ c.args.cond.now c.args.yes.now c.args.no.now c.requires.awaits,
              (
                c.requires.below,
                (
                  c.requires.deep,
                  (
                    c.condition.ensures.same,
                    (
                        let s = g.S.InScope.scope in
                        let see = seen s c.args.depth c.args.site.now in
                        let at = c.args.at.now in
                        let a = tree_part c.args.yes.now in
                        let b = tree_part c.args.no.now in
                        let first = run_at (cond_part c.args.cond.now) see at in
                        let then_at = c.condition.new.at in
                        let else_at = after a then_at in
                        let q = run_at a see then_at in
                        let r = run_at b see else_at in
                        let holds = c.in_ok-condition.field-0 in
                        let is = choice_run c.args.cond.now c.args.yes.now c.args.no.now see at then_at else_at
                        c.in_ok-condition.ensures.after refl in
                        let rest = can_go_on s _ first _ holds _ _ is c.requires.can c.in_ok-condition.ensures.ran in
                        can_true s holds q r c.if-branch.true rest
                        ),
                  ),
                ),
              ),
            ),
          ),
        ),
      ),
    ),
  ),
)

pub chosen-tree-requires-else-branch : goal.chosen-tree-requires-else-branch
chosen-tree-requires-else-branch g t c κs within = (
  omega (arith, c.decreases),
  (
    search rules,
    (
      search rules,
      (
        search rules,
        (
          c.requires.fit,
          (
            c.requires.of_world,
            (
              awaits_no _ _ c.args.cond.now c.args.yes.now c.args.no.now c.requires.awaits,
              (
                c.requires.below,
                (
                  c.requires.deep,
                  (
                    c.condition.ensures.same,
                    (
                        let s = g.S.InScope.scope in
                        let see = seen s c.args.depth c.args.site.now in
                        let at = c.args.at.now in
                        let a = tree_part c.args.yes.now in
                        let b = tree_part c.args.no.now in
                        let first = run_at (cond_part c.args.cond.now) see at in
                        let then_at = c.condition.new.at in
                        let else_at = c.pass_tree-else-branch.new.at in
                        let q = run_at a see then_at in
                        let r = run_at b see else_at in
                        let holds = c.in_ok-condition.field-0 in
                        let is = choice_run c.args.cond.now c.args.yes.now c.args.no.now see at then_at else_at
                        c.in_ok-condition.ensures.after c.in_ok-pass_tree.ensures.after in
                        let rest = can_go_on s _ first _ holds _ _ is c.requires.can c.in_ok-condition.ensures.ran in
                        can_false s holds q r c.if-branch.false rest
                        ),
                  ),
                ),
              ),
            ),
          ),
        ),
      ),
    ),
  ),
)

pub chosen-returns-in_err-end-clause-ran : goal.chosen-returns-in_err-end-clause-ran
chosen-returns-in_err-end-clause-ran g t c =
    let s = g.S.InScope.scope in
    let see = seen s c.args.depth c.args.site.now in
    let at = c.args.at.now in
    let a = tree_part c.args.yes.now in
    let b = tree_part c.args.no.now in
    let first = run_at (cond_part c.args.cond.now) see at in
    let then_at = c.condition.new.at in
    let else_at = after a then_at in
    let q = run_at a see then_at in
    let r = run_at b see else_at in
    let holds = c.in_ok-condition.field-0 in
    let is = choice_run c.args.cond.now c.args.yes.now c.args.no.now see at then_at else_at
    c.in_ok-condition.ensures.after refl in
    let p = err_from_is_err_and c.from_residual-in_err-end.result c.from_residual-in_err-end.ensures.1 in
    goes_on s _ first _ holds _ _ _ (ends c.from_residual-in_err-end.result) is c.requires.can
    c.in_ok-condition.ensures.ran
    (ran_true s holds q r _ _ (ends c.from_residual-in_err-end.result) c.if-branch.true
    (stops_as s q _ _ c.in_err-end.field-0.0 p.0 (ends c.from_residual-in_err-end.result)
    (ap ends p.1) p.2 c.in_err-end.ensures.ran))

pub chosen-returns-in_err-pass_tree-clause-ran : goal.chosen-returns-in_err-pass_tree-clause-ran
chosen-returns-in_err-pass_tree-clause-ran g t c =
    let s = g.S.InScope.scope in
    let see = seen s c.args.depth c.args.site.now in
    let at = c.args.at.now in
    let a = tree_part c.args.yes.now in
    let b = tree_part c.args.no.now in
    let first = run_at (cond_part c.args.cond.now) see at in
    let then_at = c.condition.new.at in
    let else_at = after a then_at in
    let q = run_at a see then_at in
    let r = run_at b see else_at in
    let holds = c.in_ok-condition.field-0 in
    let is = choice_run c.args.cond.now c.args.yes.now c.args.no.now see at then_at else_at
    c.in_ok-condition.ensures.after refl in
    let p = err_from_is_err_and c.from_residual-in_err-pass_tree.result c.from_residual-in_err-pass_tree.ensures.1 in
    goes_on s _ first _ holds _ _ _ (ends c.from_residual-in_err-pass_tree.result) is
    c.requires.can c.in_ok-condition.ensures.ran
    (ran_false s holds q r _ _ (ends c.from_residual-in_err-pass_tree.result) c.if-branch.false
    (lacks_first s r _ p.0 (ends c.from_residual-in_err-pass_tree.result) (ap ends p.1) p.2))

pub chosen-returns-in_ok-end-clause-ran : goal.chosen-returns-in_ok-end-clause-ran
chosen-returns-in_ok-end-clause-ran g t c =
    let s = g.S.InScope.scope in
    let see = seen s c.args.depth c.args.site.now in
    let at = c.args.at.now in
    let a = tree_part c.args.yes.now in
    let b = tree_part c.args.no.now in
    let first = run_at (cond_part c.args.cond.now) see at in
    let then_at = c.condition.new.at in
    let else_at = after a then_at in
    let q = run_at a see then_at in
    let r = run_at b see else_at in
    let holds = c.in_ok-condition.field-0 in
    let is = choice_run c.args.cond.now c.args.yes.now c.args.no.now see at then_at else_at
    c.in_ok-condition.ensures.after refl in
    let rest = can_go_on s _ first _ holds _ _ is c.requires.can c.in_ok-condition.ensures.ran in
    goes_on s _ first _ holds _ _ _ (ends c.passed.result) is c.requires.can
    c.in_ok-condition.ensures.ran
    (ran_true s holds q r _ _ (ends c.passed.result) c.if-branch.true
    (ran_passed s q (as_end c.in_ok-end.end) _ _ c.pass_tree.result (ends c.passed.result)
    (can_true s holds q r c.if-branch.true rest) c.in_ok-end.ensures.ran
    (ap ends c.passed.ensures.exact ∙ ends_counted c.in_ok-end.end c.pass_tree.result)))

pub chosen-returns-in_ok-end-clause-after : goal.chosen-returns-in_ok-end-clause-after
chosen-returns-in_ok-end-clause-after g t c =
    let s = g.S.InScope.scope in
    let see = seen s c.args.depth c.args.site.now in
    let at = c.args.at.now in
    let a = tree_part c.args.yes.now in
    let b = tree_part c.args.no.now in
    let first = run_at (cond_part c.args.cond.now) see at in
    on_passed c.in_ok-end.end c.pass_tree.result c.passed.result _
    (on_ok_map c.pass_tree.result _ _
    (λ e. e ∙ ap (λ (u : NewsAndCalls). after b u) (c.in_ok-end.ensures.after
    ∙ ap (λ (u : NewsAndCalls). after a u) c.in_ok-condition.ensures.after)
    ∙ sym (after_choice c.args.cond.now c.args.yes.now c.args.no.now at)) c.pass_tree.ensures.after)
    c.passed.ensures.exact

pub chosen-returns-in_ok-pass_tree-clause-ran : goal.chosen-returns-in_ok-pass_tree-clause-ran
chosen-returns-in_ok-pass_tree-clause-ran g t c =
    let s = g.S.InScope.scope in
    let see = seen s c.args.depth c.args.site.now in
    let at = c.args.at.now in
    let a = tree_part c.args.yes.now in
    let b = tree_part c.args.no.now in
    let first = run_at (cond_part c.args.cond.now) see at in
    let then_at = c.condition.new.at in
    let else_at = c.pass_tree-else-branch.new.at in
    let q = run_at a see then_at in
    let r = run_at b see else_at in
    let holds = c.in_ok-condition.field-0 in
    let is = choice_run c.args.cond.now c.args.yes.now c.args.no.now see at then_at else_at
    c.in_ok-condition.ensures.after c.in_ok-pass_tree.ensures.after in
    goes_on s _ first _ holds _ _ _ (ends c.tree-else-branch.result) is c.requires.can
    c.in_ok-condition.ensures.ran
    (ran_false s holds q r _ _ (ends c.tree-else-branch.result) c.if-branch.false
    c.tree-else-branch.ensures.ran)

pub chosen-returns-in_ok-pass_tree-clause-after : goal.chosen-returns-in_ok-pass_tree-clause-after
chosen-returns-in_ok-pass_tree-clause-after g t c =
    let s = g.S.InScope.scope in
    let see = seen s c.args.depth c.args.site.now in
    let at = c.args.at.now in
    let a = tree_part c.args.yes.now in
    let b = tree_part c.args.no.now in
    let first = run_at (cond_part c.args.cond.now) see at in
    on_ok_map c.tree-else-branch.result _ _
    (λ e. e ∙ ap (λ (u : NewsAndCalls). after b u) (c.in_ok-pass_tree.ensures.after
    ∙ ap (λ (u : NewsAndCalls). after a u) c.in_ok-condition.ensures.after)
    ∙ sym (after_choice c.args.cond.now c.args.yes.now c.args.no.now at))
    c.tree-else-branch.ensures.after
