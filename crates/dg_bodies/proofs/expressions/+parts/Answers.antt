use Rattle.std.proofs.Common.{Bool, List, Option, Ok, Err, rules, refl, map, sym, ap, ◌∙◌, arith}
use Rattle.std.proofs.lemmas.Result.{err_from_is_err_and}
use Rattle.dg_slots.specs.declared.body.NExpr.{the_lemmas}
use Rattle.dg_value.specs.declared.place.PlaceStep.TheVariants as step
use Rattle.dg_value.specs.declared.value.Value.{Value}
use Rattle.dg_value.specs.declared.value.Value.TheVariants as value
use Rattle.dg_value.specs.Places.{then_step}
use Rattle.dg_eval.specs.Runs.{Run, gives, and_then}
use Rattle.dg_requests.proofs.RanLemmas.{can_as, ran_as}
use Rattle.dg_slots.specs.declared.body.NExpr.{NExpr}
use Rattle.dg_slots.specs.declared.body.NCond.{NCond}
use Rattle.dg_eval.specs.Operations.{or_mistyped, sum_in, equal_in, less_in, field_in, inside_in, has_in, is_ok_in}
use Rattle.dg_eval.specs.Bodies.{by_param, expr_part, cond_part, called_with}
use Rattle.dg_eval.specs.Meaning.{param_in}
use Rattle.dg_bodies.specs.declared.counters.NewsAndCalls.{NewsAndCalls}
use Rattle.dg_bodies.specs.Counts.{after, row}
use Rattle.dg_bodies.specs.Sites.{Site, seen, run_at, looked_part, pair_part}
use Rattle.dg_bodies.proofs.RunLists.{passed_none, passed_can, passed_next, passed_stops, passed_nothing, passed_all, stops_as}
use Rattle.dg_bodies.proofs.Steps.{can_begin, can_go_on, stops, goes_on, lacks, lacks_first, on_ok, on_ok_map, on_paired, on_passed, ran_paired, ran_passed, ran_value, can_true, can_false, ran_true, ran_false}
use Rattle.dg_bodies.proofs.PlainRuns.{ran_made, ran_over, ran_in, plain_then, plain_param, plain_inside, plain_has, plain_is_ok, plain_sum, plain_equal, plain_less, plain_field}
use Rattle.dg_bodies.proofs.PartRuns.{pair_run, sum_run, equal_run, less_run, field_run, object_run, if_run, called_run, or_else_run, or_other, text_run, int_run, param_run, by_name_run, has_run, is_ok_run}
use Rattle.dg_bodies.proofs.CountLemmas.{after_looked, after_both, after_pair, after_sum, after_equal, after_less, after_field, after_object, after_if, after_called, after_or_else, after_has, after_is_ok, after_text, after_int, after_param, after_by_name}
use Rattle.dg_bodies.proofs.RowLemmas.{runs, row_start, run_here, row_next, row_done, row_all}
use Rattle.dg_bodies.proofs.expressions.+parts.Goals as goal

-- ---- contents

pub looked-returns-in_err-value-clause-ran : goal.looked-returns-in_err-value-clause-ran
looked-returns-in_err-value-clause-ran g t c =
    let s = g.S.InScope.scope in
    let see = seen s c.args.depth c.args.site.now in
    let at = c.args.at.now in
    let e = expr_part c.args.e.now in
    let p = err_from_is_err_and c.from_residual.result c.from_residual.ensures.1 in
    stops s _ (run_at e see at) see.look _ _ c.in_err-value.field-0.0 p.0 c.from_residual.result refl
    c.requires.can c.in_err-value.ensures.ran p.1 p.2

pub looked-look-requires-clause-can : goal.looked-look-requires-clause-can
looked-look-requires-clause-can g t c =
    let s = g.S.InScope.scope in
    let see = seen s c.args.depth c.args.site.now in
    let at = c.args.at.now in
    let e = expr_part c.args.e.now in
    can_go_on s _ (run_at e see at) see.look c.in_ok-value.value _ _ refl c.requires.can
    c.in_ok-value.ensures.ran

pub looked-returns-clause-ran : goal.looked-returns-clause-ran
looked-returns-clause-ran g t c =
    let s = g.S.InScope.scope in
    let see = seen s c.args.depth c.args.site.now in
    let at = c.args.at.now in
    let e = expr_part c.args.e.now in
    goes_on s _ (run_at e see at) see.look c.in_ok-value.value _ _ _ c.look.result refl
    c.requires.can c.in_ok-value.ensures.ran c.look.ensures.ran

pub looked-returns-clause-after : goal.looked-returns-clause-after
looked-returns-clause-after g t c =
    on_ok c.look.result _
    (c.in_ok-value.ensures.after ∙ sym (after_looked (expr_part c.args.e.now) c.args.at.now))

pub both-returns-in_err-v-clause-ran : goal.both-returns-in_err-v-clause-ran
both-returns-in_err-v-clause-ran g t c =
    let s = g.S.InScope.scope in
    let see = seen s c.args.depth c.args.site.now in
    let at = c.args.at.now in
    let a = expr_part c.args.a.now in
    let b = expr_part c.args.b.now in
    let p = err_from_is_err_and c.from_residual.result c.from_residual.ensures.1 in
    stops s _ (run_at (looked_part a) see at) _ _ _ c.in_err-v.field-0.0 p.0 c.from_residual.result
    (pair_run a b see at (after (looked_part a) at) refl) c.requires.can c.in_err-v.ensures.ran p.1
    p.2

pub both-looked-w-requires : goal.both-looked-w-requires
both-looked-w-requires g t c κs within = (
  omega (arith, c.decreases),
  (
    search rules,
    (
      search rules,
      (
        search rules,
        (
          c.requires.fit,
          (
            c.requires.below,
            (
              c.requires.deep,
              (
                c.looked.ensures.same,
                (
                    let s = g.S.InScope.scope in
                    let see = seen s c.args.depth c.args.site.now in
                    let at = c.args.at.now in
                    let a = expr_part c.args.a.now in
                    let b = expr_part c.args.b.now in
                    let next : Value → Run (Value × Value) = λ w. gives (c.in_ok-v.v, w) in
                    let is = pair_run a b see at c.looked.new.at c.in_ok-v.ensures.after in
                    let rest = can_go_on s _ (run_at (looked_part a) see at) _ c.in_ok-v.v _ _ is c.requires.can
                    c.in_ok-v.ensures.ran in
                    can_begin s _ (run_at (looked_part b) see c.looked.new.at) next refl rest
                    ),
              ),
            ),
          ),
        ),
      ),
    ),
  ),
)

pub both-returns-clause-ran : goal.both-returns-clause-ran
both-returns-clause-ran g t c =
    let s = g.S.InScope.scope in
    let see = seen s c.args.depth c.args.site.now in
    let at = c.args.at.now in
    let a = expr_part c.args.a.now in
    let b = expr_part c.args.b.now in
    let next : Value → Run (Value × Value) = λ w. gives (c.in_ok-v.v, w) in
    let is = pair_run a b see at c.looked.new.at c.in_ok-v.ensures.after in
    let rest = can_go_on s _ (run_at (looked_part a) see at) _ c.in_ok-v.v _ _ is c.requires.can
    c.in_ok-v.ensures.ran in
    goes_on s _ (run_at (looked_part a) see at) _ c.in_ok-v.v _ _ _ c.paired.result is
    c.requires.can c.in_ok-v.ensures.ran
    (ran_paired s (run_at (looked_part b) see c.looked.new.at) c.in_ok-v.v _ _ c.looked-w.result
    c.paired.result rest c.looked-w.ensures.ran c.paired.ensures.exact)

pub both-returns-clause-after : goal.both-returns-clause-after
both-returns-clause-after g t c =
    let s = g.S.InScope.scope in
    let see = seen s c.args.depth c.args.site.now in
    let at = c.args.at.now in
    let a = expr_part c.args.a.now in
    let b = expr_part c.args.b.now in
    on_paired c.in_ok-v.v c.looked-w.result c.paired.result _
    (on_ok_map c.looked-w.result _ _
    (λ e. e ∙ ap (λ (u : NewsAndCalls). after (looked_part b) u) c.in_ok-v.ensures.after
    ∙ sym (after_pair a b at)) c.looked-w.ensures.after) c.paired.ensures.exact

-- ---- sum

pub sum-both-requires : goal.sum-both-requires
sum-both-requires g t c κs within = (
  omega (arith, c.decreases),
  (
    search rules,
    (
      search rules,
      (
        search rules,
        (
          c.requires.fit,
          (
            c.requires.below,
            (
              c.requires.deep,
              (
                c.requires.same,
                (
                    let s = g.S.InScope.scope in
                    let see = seen s c.args.depth c.args.site.now in
                    let at = c.args.at.now in
                    let pair = run_at (pair_part (expr_part c.args.a.now) (expr_part c.args.b.now)) see at in
                    let is = sum_run c.args.a.now c.args.b.now see at in
                    can_begin s _ pair _ is c.requires.can
                    ),
              ),
            ),
          ),
        ),
      ),
    ),
  ),
)

pub sum-returns-in_err-pair-clause-ran : goal.sum-returns-in_err-pair-clause-ran
sum-returns-in_err-pair-clause-ran g t c =
    let s = g.S.InScope.scope in
    let see = seen s c.args.depth c.args.site.now in
    let at = c.args.at.now in
    let pair = run_at (pair_part (expr_part c.args.a.now) (expr_part c.args.b.now)) see at in
    let is = sum_run c.args.a.now c.args.b.now see at in
    let p = err_from_is_err_and c.from_residual.result c.from_residual.ensures.1 in
    stops s _ pair _ _ _ c.in_err-pair.field-0.0 p.0 c.from_residual.result is c.requires.can
    c.in_err-pair.ensures.ran p.1 p.2

pub sum-returns-clause-ran : goal.sum-returns-clause-ran
sum-returns-clause-ran g t c =
    let s = g.S.InScope.scope in
    let see = seen s c.args.depth c.args.site.now in
    let at = c.args.at.now in
    let pair = run_at (pair_part (expr_part c.args.a.now) (expr_part c.args.b.now)) see at in
    let is = sum_run c.args.a.now c.args.b.now see at in
    goes_on s _ pair _ c.in_ok-pair.pair _ _ _ c.sum_of.result is c.requires.can
    c.in_ok-pair.ensures.ran
    (ran_in s c.site.inside.slot c.args.site.now.slot
    (λ n. sum_in n c.in_ok-pair.pair.0 c.in_ok-pair.pair.1) _ c.sum_of.result
    (ap (λ (u : Site). u.slot) c.site.view_is)
    (plain_sum c.site.inside.slot c.in_ok-pair.pair.0 c.in_ok-pair.pair.1) c.sum_of.ensures.exact)

pub sum-returns-clause-after : goal.sum-returns-clause-after
sum-returns-clause-after g t c =
    on_ok c.sum_of.result _
    (c.in_ok-pair.ensures.after
    ∙ after_both (expr_part c.args.a.now) (expr_part c.args.b.now) c.args.at.now
    ∙ sym (after_sum c.args.a.now c.args.b.now c.args.at.now))

-- ---- equal

pub equal-both-requires : goal.equal-both-requires
equal-both-requires g t c κs within = (
  omega (arith, c.decreases),
  (
    search rules,
    (
      search rules,
      (
        search rules,
        (
          c.requires.fit,
          (
            c.requires.below,
            (
              c.requires.deep,
              (
                c.requires.same,
                (
                    let s = g.S.InScope.scope in
                    let see = seen s c.args.depth c.args.site.now in
                    let at = c.args.at.now in
                    let pair = run_at (pair_part (expr_part c.args.a.now) (expr_part c.args.b.now)) see at in
                    let is = equal_run c.args.a.now c.args.b.now see at in
                    can_begin s _ pair _ is c.requires.can
                    ),
              ),
            ),
          ),
        ),
      ),
    ),
  ),
)

pub equal-returns-in_err-pair-clause-ran : goal.equal-returns-in_err-pair-clause-ran
equal-returns-in_err-pair-clause-ran g t c =
    let s = g.S.InScope.scope in
    let see = seen s c.args.depth c.args.site.now in
    let at = c.args.at.now in
    let pair = run_at (pair_part (expr_part c.args.a.now) (expr_part c.args.b.now)) see at in
    let is = equal_run c.args.a.now c.args.b.now see at in
    let p = err_from_is_err_and c.from_residual.result c.from_residual.ensures.1 in
    stops s _ pair _ _ _ c.in_err-pair.field-0.0 p.0 c.from_residual.result is c.requires.can
    c.in_err-pair.ensures.ran p.1 p.2

pub equal-returns-clause-ran : goal.equal-returns-clause-ran
equal-returns-clause-ran g t c =
    let s = g.S.InScope.scope in
    let see = seen s c.args.depth c.args.site.now in
    let at = c.args.at.now in
    let pair = run_at (pair_part (expr_part c.args.a.now) (expr_part c.args.b.now)) see at in
    let is = equal_run c.args.a.now c.args.b.now see at in
    goes_on s _ pair _ c.in_ok-pair.pair _ _ _ c.equal_of.result is c.requires.can
    c.in_ok-pair.ensures.ran
    (ran_made s (equal_in c.in_ok-pair.pair.0 c.in_ok-pair.pair.1) _ c.equal_of.result
    (plain_equal c.in_ok-pair.pair.0 c.in_ok-pair.pair.1) c.equal_of.ensures.exact)

pub equal-returns-clause-after : goal.equal-returns-clause-after
equal-returns-clause-after g t c =
    on_ok c.equal_of.result _
    (c.in_ok-pair.ensures.after
    ∙ after_both (expr_part c.args.a.now) (expr_part c.args.b.now) c.args.at.now
    ∙ sym (after_equal c.args.a.now c.args.b.now c.args.at.now))

-- ---- less

pub less-both-requires : goal.less-both-requires
less-both-requires g t c κs within = (
  omega (arith, c.decreases),
  (
    search rules,
    (
      search rules,
      (
        search rules,
        (
          c.requires.fit,
          (
            c.requires.below,
            (
              c.requires.deep,
              (
                c.requires.same,
                (
                    let s = g.S.InScope.scope in
                    let see = seen s c.args.depth c.args.site.now in
                    let at = c.args.at.now in
                    let pair = run_at (pair_part (expr_part c.args.a.now) (expr_part c.args.b.now)) see at in
                    let is = less_run c.args.a.now c.args.b.now see at in
                    can_begin s _ pair _ is c.requires.can
                    ),
              ),
            ),
          ),
        ),
      ),
    ),
  ),
)

pub less-returns-in_err-pair-clause-ran : goal.less-returns-in_err-pair-clause-ran
less-returns-in_err-pair-clause-ran g t c =
    let s = g.S.InScope.scope in
    let see = seen s c.args.depth c.args.site.now in
    let at = c.args.at.now in
    let pair = run_at (pair_part (expr_part c.args.a.now) (expr_part c.args.b.now)) see at in
    let is = less_run c.args.a.now c.args.b.now see at in
    let p = err_from_is_err_and c.from_residual.result c.from_residual.ensures.1 in
    stops s _ pair _ _ _ c.in_err-pair.field-0.0 p.0 c.from_residual.result is c.requires.can
    c.in_err-pair.ensures.ran p.1 p.2

pub less-returns-clause-ran : goal.less-returns-clause-ran
less-returns-clause-ran g t c =
    let s = g.S.InScope.scope in
    let see = seen s c.args.depth c.args.site.now in
    let at = c.args.at.now in
    let pair = run_at (pair_part (expr_part c.args.a.now) (expr_part c.args.b.now)) see at in
    let is = less_run c.args.a.now c.args.b.now see at in
    goes_on s _ pair _ c.in_ok-pair.pair _ _ _ c.less_of.result is c.requires.can
    c.in_ok-pair.ensures.ran
    (ran_made s (less_in c.in_ok-pair.pair.0 c.in_ok-pair.pair.1) _ c.less_of.result
    (plain_less c.in_ok-pair.pair.0 c.in_ok-pair.pair.1) c.less_of.ensures.exact)

pub less-returns-clause-after : goal.less-returns-clause-after
less-returns-clause-after g t c =
    on_ok c.less_of.result _
    (c.in_ok-pair.ensures.after
    ∙ after_both (expr_part c.args.a.now) (expr_part c.args.b.now) c.args.at.now
    ∙ sym (after_less c.args.a.now c.args.b.now c.args.at.now))

-- ---- fields

pub field_of-looked-requires : goal.field_of-looked-requires
field_of-looked-requires g t c κs within = (
  search (rules, the_lemmas),
  (
    search rules,
    (
      search rules,
      (
        search rules,
        (
          c.requires.fit,
          (
            c.requires.below,
            (
              c.requires.deep,
              (
                c.requires.same,
                (
                    let s = g.S.InScope.scope in
                    let see = seen s c.args.depth c.args.site.now in
                    let at = c.args.at.now in
                    let of = run_at (looked_part (expr_part c.args.of.now)) see at in
                    let is = field_run c.args.of.now c.args.field see at in
                    can_begin s _ of (field_in c.args.field) is c.requires.can
                    ),
              ),
            ),
          ),
        ),
      ),
    ),
  ),
)

pub field_of-returns-in_err-object-clause-ran : goal.field_of-returns-in_err-object-clause-ran
field_of-returns-in_err-object-clause-ran g t c =
    let s = g.S.InScope.scope in
    let see = seen s c.args.depth c.args.site.now in
    let at = c.args.at.now in
    let of = run_at (looked_part (expr_part c.args.of.now)) see at in
    let is = field_run c.args.of.now c.args.field see at in
    let p = err_from_is_err_and c.from_residual.result c.from_residual.ensures.1 in
    stops s _ of (field_in c.args.field) _ _ c.in_err-object.field-0.0 p.0 c.from_residual.result is
    c.requires.can c.in_err-object.ensures.ran p.1 p.2

pub field_of-returns-clause-ran : goal.field_of-returns-clause-ran
field_of-returns-clause-ran g t c =
    let s = g.S.InScope.scope in
    let see = seen s c.args.depth c.args.site.now in
    let at = c.args.at.now in
    let of = run_at (looked_part (expr_part c.args.of.now)) see at in
    let is = field_run c.args.of.now c.args.field see at in
    goes_on s _ of (field_in c.args.field) c.in_ok-object.object _ _ _ c.field_in.result is
    c.requires.can c.in_ok-object.ensures.ran
    (ran_made s (field_in c.args.field c.in_ok-object.object) _ c.field_in.result
    (plain_field c.args.field c.in_ok-object.object) c.field_in.ensures.exact)

pub field_of-returns-clause-after : goal.field_of-returns-clause-after
field_of-returns-clause-after g t c =
    on_ok c.field_in.result _
    (c.in_ok-object.ensures.after ∙ after_looked (expr_part c.args.of.now) c.args.at.now
    ∙ sym (after_field c.args.of.now c.args.field c.args.at.now))

-- ---- arguments

pub arguments-loop-arg-init : goal.arguments-loop-arg-init
arguments-loop-arg-init g t c =
    let s = g.S.InScope.scope in
    let see = seen s c.args.depth c.args.site.now in
    let at = c.args.at.now in
    record {
      passed = passed_none s (runs c.args.args.now see at) _ c.new-values.result
          c.new-values.ensures;
      row = row_start see c.args.args.now at;
      same = c.requires.same;
    }

pub arguments-expression-requires : goal.arguments-expression-requires
arguments-expression-requires g t c κs within = (
  search (rules, the_lemmas),
  (
    search rules,
    (
      search rules,
      (
        search rules,
        (
          c.requires.fit,
          (
            c.requires.below,
            (
              c.requires.deep,
              (
                c.loop-arg.invariant.same,
                (
                    let s = g.S.InScope.scope in
                    let see = seen s c.args.depth c.args.site.now in
                    let at = c.args.at.now in
                    let rs = runs c.args.args.now see at in
                    let here = run_here see c.args.args.now at c.loop-arg.arg-index c.loop-arg.at c.arg-item.result
                    c.loop-arg.invariant.row c.loop-arg-test.true c.arg-item.is in
                    passed_can s rs _ _ _ _ _ c.requires.can c.loop-arg.invariant.passed here
                    ),
              ),
            ),
          ),
        ),
      ),
    ),
  ),
)

pub arguments-returns-in_err-expression-clause-ran : goal.arguments-returns-in_err-expression-clause-ran
arguments-returns-in_err-expression-clause-ran g t c =
    let s = g.S.InScope.scope in
    let see = seen s c.args.depth c.args.site.now in
    let at = c.args.at.now in
    let rs = runs c.args.args.now see at in
    let here = run_here see c.args.args.now at c.loop-arg.arg-index c.loop-arg.at c.arg-item.result
    c.loop-arg.invariant.row c.loop-arg-test.true c.arg-item.is in
    let p = err_from_is_err_and c.from_residual.result c.from_residual.ensures.1 in
    stops_as s _ _ _ c.in_err-expression.field-0.0 p.0 c.from_residual.result p.1 p.2
    (passed_stops s rs _ _ _ _ _ _ _ c.requires.can c.loop-arg.invariant.passed here
    c.in_err-expression.ensures.ran)

pub arguments-returns-in_err-push-clause-ran : goal.arguments-returns-in_err-push-clause-ran
arguments-returns-in_err-push-clause-ran g t c =
    let s = g.S.InScope.scope in
    let see = seen s c.args.depth c.args.site.now in
    let at = c.args.at.now in
    let rs = runs c.args.args.now see at in
    let here = run_here see c.args.args.now at c.loop-arg.arg-index c.loop-arg.at c.arg-item.result
    c.loop-arg.invariant.row c.loop-arg-test.true c.arg-item.is in
    let p = err_from_is_err_and c.from_residual-in_err-push.result c.from_residual-in_err-push.ensures.1 in
    stops_as s _ _ _ _ p.0 c.from_residual-in_err-push.result p.1 p.2
    (passed_nothing s rs _ _ _ _ c.requires.can
    (passed_next s rs _ _ _ _ _ _ _ _ c.requires.can c.loop-arg.invariant.passed here
    c.in_ok-expression.ensures.ran refl))

pub arguments-loop-arg-preserved : goal.arguments-loop-arg-preserved
arguments-loop-arg-preserved g t c =
    let s = g.S.InScope.scope in
    let see = seen s c.args.depth c.args.site.now in
    let at = c.args.at.now in
    let rs = runs c.args.args.now see at in
    let here = run_here see c.args.args.now at c.loop-arg.arg-index c.loop-arg.at c.arg-item.result
    c.loop-arg.invariant.row c.loop-arg-test.true c.arg-item.is in
    record {
      passed = passed_next s rs _ _ _ _ _ _ _ _ c.requires.can c.loop-arg.invariant.passed here
          c.in_ok-expression.ensures.ran c.in_ok-push.ensures.ok;
      row = row_next see c.args.args.now at c.loop-arg.arg-index c.loop-arg.at c.expression.new.at
          c.arg-item.result c.loop-arg.invariant.row c.loop-arg-test.true c.arg-item.is
          c.in_ok-expression.ensures.after;
      same = c.expression.ensures.same;
    }

pub arguments-returns-clause-ran : goal.arguments-returns-clause-ran
arguments-returns-clause-ran g t c =
    let s = g.S.InScope.scope in
    let see = seen s c.args.depth c.args.site.now in
    let at = c.args.at.now in
    passed_all s (runs c.args.args.now see at) c.loop-arg.arg-index _ _ _
    (row_all see c.args.args.now at c.loop-arg.arg-index c.loop-arg.at c.loop-arg.invariant.row
    (omega (arith, c.loop-arg-test.false))) c.loop-arg.invariant.passed

pub arguments-returns-clause-after : goal.arguments-returns-clause-after
arguments-returns-clause-after g t c =
    let s = g.S.InScope.scope in
    let see = seen s c.args.depth c.args.site.now in
    let at = c.args.at.now in
    row_done see c.args.args.now at c.loop-arg.arg-index c.loop-arg.at c.loop-arg.invariant.row
    (omega (arith, c.loop-arg-test.false))

-- ---- objects

pub object-arguments-requires : goal.object-arguments-requires
object-arguments-requires g t c κs within = (
  search (rules, the_lemmas),
  (
    search rules,
    (
      search rules,
      (
        search rules,
        (
          c.requires.fit,
          (
            c.requires.below,
            (
              c.requires.deep,
              (
                c.requires.same,
                (
                    let s = g.S.InScope.scope in
                    let see = seen s c.args.depth c.args.site.now in
                    let at = c.args.at.now in
                    let number = c.in_ok-number.number in
                    let args = run_at (row (map expr_part c.args.args.now)) see c.next_new.new.at in
                    let is = object_run c.args.class c.args.args.now see at c.next_new.new.at number
                    (then_step c.args.site.now.place (step.New number)) c.in_ok-number.ensures.after
                    c.in_ok-number.ensures.exact refl in
                    can_begin s _ args _ is c.requires.can
                    ),
              ),
            ),
          ),
        ),
      ),
    ),
  ),
)

pub object-returns-in_err-fields-clause-ran : goal.object-returns-in_err-fields-clause-ran
object-returns-in_err-fields-clause-ran g t c =
    let s = g.S.InScope.scope in
    let see = seen s c.args.depth c.args.site.now in
    let at = c.args.at.now in
    let number = c.in_ok-number.number in
    let args = run_at (row (map expr_part c.args.args.now)) see c.next_new.new.at in
    let is = object_run c.args.class c.args.args.now see at c.next_new.new.at number
    (then_step c.args.site.now.place (step.New number)) c.in_ok-number.ensures.after
    c.in_ok-number.ensures.exact refl in
    let p = err_from_is_err_and c.from_residual-in_err-fields.result c.from_residual-in_err-fields.ensures.1 in
    stops s _ args _ _ _ c.in_err-fields.field-0.0 p.0 c.from_residual-in_err-fields.result is
    c.requires.can c.in_err-fields.ensures.ran p.1 p.2

pub object-returns-in_err-made_object-clause-ran : goal.object-returns-in_err-made_object-clause-ran
object-returns-in_err-made_object-clause-ran g t c =
    let s = g.S.InScope.scope in
    let see = seen s c.args.depth c.args.site.now in
    let at = c.args.at.now in
    let number = c.in_ok-number.number in
    let args = run_at (row (map expr_part c.args.args.now)) see c.next_new.new.at in
    let is = object_run c.args.class c.args.args.now see at c.next_new.new.at number
    (then_step c.args.site.now.place (step.New number)) c.in_ok-number.ensures.after
    c.in_ok-number.ensures.exact refl in
    let p = err_from_is_err_and c.from_residual-in_err-made_object.result c.from_residual-in_err-made_object.ensures.1 in
    lacks s _ args _ c.in_ok-fields.fields _ _ p.0 c.from_residual-in_err-made_object.result is
    c.requires.can c.in_ok-fields.ensures.ran p.1 p.2

pub object-returns-clause-ran : goal.object-returns-clause-ran
object-returns-clause-ran g t c =
    let s = g.S.InScope.scope in
    let see = seen s c.args.depth c.args.site.now in
    let at = c.args.at.now in
    let number = c.in_ok-number.number in
    let args = run_at (row (map expr_part c.args.args.now)) see c.next_new.new.at in
    let is = object_run c.args.class c.args.args.now see at c.next_new.new.at number
    (then_step c.args.site.now.place (step.New number)) c.in_ok-number.ensures.after
    c.in_ok-number.ensures.exact refl in
    goes_on s _ args _ c.in_ok-fields.fields _ _ _ (Ok c.in_ok-made_object.field-0) is
    c.requires.can c.in_ok-fields.ensures.ran
    (ran_value s _ c.in_ok-made_object.field-0 _
    (c.in_ok-made_object.ensures.exact
    ∙ ap (λ (u : Site). value.Object c.args.class (then_step u.place (step.New number))
    c.in_ok-fields.fields) c.site.view_is))

pub object-returns-clause-after : goal.object-returns-clause-after
object-returns-clause-after g t c =
    c.in_ok-fields.ensures.after
    ∙ ap (λ (u : NewsAndCalls). after (row (map expr_part c.args.args.now)) u)
    c.in_ok-number.ensures.after
    ∙ sym (after_object c.args.class c.args.args.now c.args.at.now)

-- ---- calls

pub called-arguments-requires : goal.called-arguments-requires
called-arguments-requires g t c κs within = (
  search (rules, the_lemmas),
  (
    search rules,
    (
      search rules,
      (
        search rules,
        (
          c.requires.fit,
          (
            c.requires.below,
            (
              c.requires.deep,
              (
                c.requires.same,
                (
                    let s = g.S.InScope.scope in
                    let see = seen s c.args.depth c.args.site.now in
                    let at = c.args.at.now in
                    let args = run_at (row (map expr_part c.args.args.now)) see at in
                    let is = called_run c.args.f c.args.args.now see at in
                    let made : List Value → Run Value = called_with c.args.f see in
                    can_begin s _ args made is c.requires.can
                    ),
              ),
            ),
          ),
        ),
      ),
    ),
  ),
)

pub called-returns-in_err-values-clause-ran : goal.called-returns-in_err-values-clause-ran
called-returns-in_err-values-clause-ran g t c =
    let s = g.S.InScope.scope in
    let see = seen s c.args.depth c.args.site.now in
    let at = c.args.at.now in
    let args = run_at (row (map expr_part c.args.args.now)) see at in
    let is = called_run c.args.f c.args.args.now see at in
    let made : List Value → Run Value = called_with c.args.f see in
    let p = err_from_is_err_and c.from_residual.result c.from_residual.ensures.1 in
    stops s _ args made _ _ c.in_err-values.field-0.0 p.0 c.from_residual.result is c.requires.can
    c.in_err-values.ensures.ran p.1 p.2

pub called-called_with-requires-clause-can : goal.called-called_with-requires-clause-can
called-called_with-requires-clause-can g t c =
    let s = g.S.InScope.scope in
    let see = seen s c.args.depth c.args.site.now in
    let at = c.args.at.now in
    let args = run_at (row (map expr_part c.args.args.now)) see at in
    let is = called_run c.args.f c.args.args.now see at in
    let made : List Value → Run Value = called_with c.args.f see in
    can_as s (made c.in_ok-values.values) (made c.as_slice.result.now)
    (ap made (sym c.as_slice.ensures))
    (can_go_on s _ args made c.in_ok-values.values _ _ is c.requires.can c.in_ok-values.ensures.ran)

pub called-returns-clause-ran : goal.called-returns-clause-ran
called-returns-clause-ran g t c =
    let s = g.S.InScope.scope in
    let see = seen s c.args.depth c.args.site.now in
    let at = c.args.at.now in
    let args = run_at (row (map expr_part c.args.args.now)) see at in
    let is = called_run c.args.f c.args.args.now see at in
    let made : List Value → Run Value = called_with c.args.f see in
    goes_on s _ args made c.in_ok-values.values _ _ _ c.called_with.result is c.requires.can
    c.in_ok-values.ensures.ran
    (ran_as s (made c.as_slice.result.now) (made c.in_ok-values.values) _ _ c.called_with.result
    (ap made c.as_slice.ensures) c.called_with.ensures.ran)

pub called-returns-clause-after : goal.called-returns-clause-after
called-returns-clause-after g t c =
    on_ok c.called_with.result _
    (c.in_ok-values.ensures.after ∙ sym (after_called c.args.f c.args.args.now c.args.at.now))

-- ---- choices

pub chosen-condition-requires : goal.chosen-condition-requires
chosen-condition-requires g t c κs within = (
  omega (arith, c.decreases),
  (
    search rules,
    (
      search rules,
      (
        search rules,
        (
          c.requires.fit,
          (
            c.requires.below,
            (
              c.requires.deep,
              (
                c.requires.same,
                (
                    let s = g.S.InScope.scope in
                    let see = seen s c.args.depth c.args.site.now in
                    let at = c.args.at.now in
                    let a = expr_part c.args.yes.now in
                    let b = expr_part c.args.no.now in
                    let first = run_at (cond_part c.args.cond.now) see at in
                    can_begin s _ first _
                    (if_run c.args.cond.now c.args.yes.now c.args.no.now see at (after (cond_part c.args.cond.now) at)
                    (after a (after (cond_part c.args.cond.now) at)) refl refl) c.requires.can
                    ),
              ),
            ),
          ),
        ),
      ),
    ),
  ),
)

pub chosen-returns-in_err-condition-clause-ran : goal.chosen-returns-in_err-condition-clause-ran
chosen-returns-in_err-condition-clause-ran g t c =
    let s = g.S.InScope.scope in
    let see = seen s c.args.depth c.args.site.now in
    let at = c.args.at.now in
    let a = expr_part c.args.yes.now in
    let b = expr_part c.args.no.now in
    let first = run_at (cond_part c.args.cond.now) see at in
    let p = err_from_is_err_and c.from_residual.result c.from_residual.ensures.1 in
    stops s _ first _ _ _ c.in_err-condition.field-0.0 p.0 c.from_residual.result
    (if_run c.args.cond.now c.args.yes.now c.args.no.now see at (after (cond_part c.args.cond.now) at)
    (after a (after (cond_part c.args.cond.now) at)) refl refl) c.requires.can
    c.in_err-condition.ensures.ran p.1 p.2

pub chosen-expression-requires : goal.chosen-expression-requires
chosen-expression-requires g t c κs within = (
  omega (arith, c.decreases),
  (
    search rules,
    (
      search rules,
      (
        search rules,
        (
          c.requires.fit,
          (
            c.requires.below,
            (
              c.requires.deep,
              (
                c.condition.ensures.same,
                (
                    let s = g.S.InScope.scope in
                    let see = seen s c.args.depth c.args.site.now in
                    let at = c.args.at.now in
                    let a = expr_part c.args.yes.now in
                    let b = expr_part c.args.no.now in
                    let first = run_at (cond_part c.args.cond.now) see at in
                    let then_at = c.condition.new.at in
                    let else_at = after a then_at in
                    let q = run_at a see then_at in
                    let r = run_at b see else_at in
                    let holds = c.in_ok-condition.field-0 in
                    let is = if_run c.args.cond.now c.args.yes.now c.args.no.now see at then_at else_at
                    c.in_ok-condition.ensures.after refl in
                    let rest = can_go_on s _ first _ holds _ _ is c.requires.can c.in_ok-condition.ensures.ran in
                    can_true s holds q r c.if-branch.true rest
                    ),
              ),
            ),
          ),
        ),
      ),
    ),
  ),
)

pub chosen-expression-requires-else-branch : goal.chosen-expression-requires-else-branch
chosen-expression-requires-else-branch g t c κs within = (
  omega (arith, c.decreases),
  (
    search rules,
    (
      search rules,
      (
        search rules,
        (
          c.requires.fit,
          (
            c.requires.below,
            (
              c.requires.deep,
              (
                c.condition.ensures.same,
                (
                    let s = g.S.InScope.scope in
                    let see = seen s c.args.depth c.args.site.now in
                    let at = c.args.at.now in
                    let a = expr_part c.args.yes.now in
                    let b = expr_part c.args.no.now in
                    let first = run_at (cond_part c.args.cond.now) see at in
                    let then_at = c.condition.new.at in
                    let else_at = c.pass_expression-else-branch.new.at in
                    let q = run_at a see then_at in
                    let r = run_at b see else_at in
                    let holds = c.in_ok-condition.field-0 in
                    let is = if_run c.args.cond.now c.args.yes.now c.args.no.now see at then_at else_at
                    c.in_ok-condition.ensures.after c.in_ok-pass_expression.ensures.after in
                    let rest = can_go_on s _ first _ holds _ _ is c.requires.can c.in_ok-condition.ensures.ran in
                    can_false s holds q r c.if-branch.false rest
                    ),
              ),
            ),
          ),
        ),
      ),
    ),
  ),
)

pub chosen-returns-in_err-value-clause-ran : goal.chosen-returns-in_err-value-clause-ran
chosen-returns-in_err-value-clause-ran g t c =
    let s = g.S.InScope.scope in
    let see = seen s c.args.depth c.args.site.now in
    let at = c.args.at.now in
    let a = expr_part c.args.yes.now in
    let b = expr_part c.args.no.now in
    let first = run_at (cond_part c.args.cond.now) see at in
    let then_at = c.condition.new.at in
    let else_at = after a then_at in
    let q = run_at a see then_at in
    let r = run_at b see else_at in
    let holds = c.in_ok-condition.field-0 in
    let is = if_run c.args.cond.now c.args.yes.now c.args.no.now see at then_at else_at
    c.in_ok-condition.ensures.after refl in
    let p = err_from_is_err_and c.from_residual-in_err-value.result c.from_residual-in_err-value.ensures.1 in
    goes_on s _ first _ holds _ _ _ c.from_residual-in_err-value.result is c.requires.can
    c.in_ok-condition.ensures.ran
    (ran_true s holds q r _ _ c.from_residual-in_err-value.result c.if-branch.true
    (stops_as s q _ _ c.in_err-value.field-0.0 p.0 c.from_residual-in_err-value.result p.1 p.2
    c.in_err-value.ensures.ran))

pub chosen-returns-in_err-pass_expression-clause-ran : goal.chosen-returns-in_err-pass_expression-clause-ran
chosen-returns-in_err-pass_expression-clause-ran g t c =
    let s = g.S.InScope.scope in
    let see = seen s c.args.depth c.args.site.now in
    let at = c.args.at.now in
    let a = expr_part c.args.yes.now in
    let b = expr_part c.args.no.now in
    let first = run_at (cond_part c.args.cond.now) see at in
    let then_at = c.condition.new.at in
    let else_at = after a then_at in
    let q = run_at a see then_at in
    let r = run_at b see else_at in
    let holds = c.in_ok-condition.field-0 in
    let is = if_run c.args.cond.now c.args.yes.now c.args.no.now see at then_at else_at
    c.in_ok-condition.ensures.after refl in
    let p = err_from_is_err_and c.from_residual-in_err-pass_expression.result c.from_residual-in_err-pass_expression.ensures.1 in
    goes_on s _ first _ holds _ _ _ c.from_residual-in_err-pass_expression.result is c.requires.can
    c.in_ok-condition.ensures.ran
    (ran_false s holds q r _ _ c.from_residual-in_err-pass_expression.result c.if-branch.false
    (lacks_first s r _ p.0 c.from_residual-in_err-pass_expression.result p.1 p.2))

pub chosen-returns-in_ok-value-clause-ran : goal.chosen-returns-in_ok-value-clause-ran
chosen-returns-in_ok-value-clause-ran g t c =
    let s = g.S.InScope.scope in
    let see = seen s c.args.depth c.args.site.now in
    let at = c.args.at.now in
    let a = expr_part c.args.yes.now in
    let b = expr_part c.args.no.now in
    let first = run_at (cond_part c.args.cond.now) see at in
    let then_at = c.condition.new.at in
    let else_at = after a then_at in
    let q = run_at a see then_at in
    let r = run_at b see else_at in
    let holds = c.in_ok-condition.field-0 in
    let is = if_run c.args.cond.now c.args.yes.now c.args.no.now see at then_at else_at
    c.in_ok-condition.ensures.after refl in
    let rest = can_go_on s _ first _ holds _ _ is c.requires.can c.in_ok-condition.ensures.ran in
    goes_on s _ first _ holds _ _ _ c.passed.result is c.requires.can c.in_ok-condition.ensures.ran
    (ran_true s holds q r _ _ c.passed.result c.if-branch.true
    (ran_passed s q c.in_ok-value.value _ _ c.pass_expression.result c.passed.result
    (can_true s holds q r c.if-branch.true rest) c.in_ok-value.ensures.ran c.passed.ensures.exact))

pub chosen-returns-in_ok-value-clause-after : goal.chosen-returns-in_ok-value-clause-after
chosen-returns-in_ok-value-clause-after g t c =
    let s = g.S.InScope.scope in
    let see = seen s c.args.depth c.args.site.now in
    let at = c.args.at.now in
    let a = expr_part c.args.yes.now in
    let b = expr_part c.args.no.now in
    let first = run_at (cond_part c.args.cond.now) see at in
    on_passed c.in_ok-value.value c.pass_expression.result c.passed.result _
    (on_ok_map c.pass_expression.result _ _
    (λ e. e ∙ ap (λ (u : NewsAndCalls). after b u) (c.in_ok-value.ensures.after
    ∙ ap (λ (u : NewsAndCalls). after a u) c.in_ok-condition.ensures.after)
    ∙ sym (after_if c.args.cond.now c.args.yes.now c.args.no.now at)) c.pass_expression.ensures.after)
    c.passed.ensures.exact

pub chosen-returns-in_ok-pass_expression-clause-ran : goal.chosen-returns-in_ok-pass_expression-clause-ran
chosen-returns-in_ok-pass_expression-clause-ran g t c =
    let s = g.S.InScope.scope in
    let see = seen s c.args.depth c.args.site.now in
    let at = c.args.at.now in
    let a = expr_part c.args.yes.now in
    let b = expr_part c.args.no.now in
    let first = run_at (cond_part c.args.cond.now) see at in
    let then_at = c.condition.new.at in
    let else_at = c.pass_expression-else-branch.new.at in
    let q = run_at a see then_at in
    let r = run_at b see else_at in
    let holds = c.in_ok-condition.field-0 in
    let is = if_run c.args.cond.now c.args.yes.now c.args.no.now see at then_at else_at
    c.in_ok-condition.ensures.after c.in_ok-pass_expression.ensures.after in
    goes_on s _ first _ holds _ _ _ c.expression-else-branch.result is c.requires.can
    c.in_ok-condition.ensures.ran
    (ran_false s holds q r _ _ c.expression-else-branch.result c.if-branch.false
    c.expression-else-branch.ensures.ran)

pub chosen-returns-in_ok-pass_expression-clause-after : goal.chosen-returns-in_ok-pass_expression-clause-after
chosen-returns-in_ok-pass_expression-clause-after g t c =
    let s = g.S.InScope.scope in
    let see = seen s c.args.depth c.args.site.now in
    let at = c.args.at.now in
    let a = expr_part c.args.yes.now in
    let b = expr_part c.args.no.now in
    let first = run_at (cond_part c.args.cond.now) see at in
    on_ok_map c.expression-else-branch.result _ _
    (λ e. e ∙ ap (λ (u : NewsAndCalls). after b u) (c.in_ok-pass_expression.ensures.after
    ∙ ap (λ (u : NewsAndCalls). after a u) c.in_ok-condition.ensures.after)
    ∙ sym (after_if c.args.cond.now c.args.yes.now c.args.no.now at))
    c.expression-else-branch.ensures.after

-- ---- optionals

pub or_else-expression-requires : goal.or_else-expression-requires
or_else-expression-requires g t c κs within = (
  search (rules, the_lemmas),
  (
    search rules,
    (
      search rules,
      (
        search rules,
        (
          c.requires.fit,
          (
            c.requires.below,
            (
              c.requires.deep,
              (
                c.requires.same,
                (
                    let s = g.S.InScope.scope in
                    let see = seen s c.args.depth c.args.site.now in
                    let at = c.args.at.now in
                    let i = c.args.param in
                    let inside : List Value → Run (Option Value) =
                    λ l. and_then (param_in l i) (λ v. or_mistyped (inside_in v)) in
                    let view = ap (λ (u : Site). u.params) c.site.view_is in
                    let plain = plain_then (param_in c.site.inside.params.now i) (λ v. or_mistyped (inside_in v))
                    (plain_param c.site.inside.params.now i) plain_inside in
                    let first = inside c.args.site.now.params in
                    let other = run_at (expr_part c.args.other.now) see at in
                    let next : Option Value → Run Value = λ o. or_other o other in
                    let is = or_else_run i c.args.other.now see at in
                    let o = c.in_ok-param_inside.field-0 in
                    let gave = ran_over s c.site.inside.params.now c.args.site.now.params inside
                    (g.C.Cells.asked c.args.cells.now) (Ok o) view plain c.in_ok-param_inside.ensures.exact in
                    can_as s (next o) other (ap next c.in-None.is)
                    (can_go_on s _ first next o _ _ is c.requires.can gave)
                    ),
              ),
            ),
          ),
        ),
      ),
    ),
  ),
)

pub or_else-returns-in_err-param_inside-clause-ran : goal.or_else-returns-in_err-param_inside-clause-ran
or_else-returns-in_err-param_inside-clause-ran g t c =
    let s = g.S.InScope.scope in
    let see = seen s c.args.depth c.args.site.now in
    let at = c.args.at.now in
    let i = c.args.param in
    let inside : List Value → Run (Option Value) =
    λ l. and_then (param_in l i) (λ v. or_mistyped (inside_in v)) in
    let view = ap (λ (u : Site). u.params) c.site.view_is in
    let plain = plain_then (param_in c.site.inside.params.now i) (λ v. or_mistyped (inside_in v))
    (plain_param c.site.inside.params.now i) plain_inside in
    let first = inside c.args.site.now.params in
    let other = run_at (expr_part c.args.other.now) see at in
    let next : Option Value → Run Value = λ o. or_other o other in
    let is = or_else_run i c.args.other.now see at in
    let p = err_from_is_err_and c.from_residual.result c.from_residual.ensures.1 in
    stops s _ first next _ _ c.in_err-param_inside.field-0.0 p.0 c.from_residual.result is
    c.requires.can
    (ran_over s c.site.inside.params.now c.args.site.now.params inside _
    (Err c.in_err-param_inside.field-0.0) view plain c.in_err-param_inside.ensures.exact) p.1 p.2

pub or_else-returns-in-None-clause-ran : goal.or_else-returns-in-None-clause-ran
or_else-returns-in-None-clause-ran g t c =
    let s = g.S.InScope.scope in
    let see = seen s c.args.depth c.args.site.now in
    let at = c.args.at.now in
    let i = c.args.param in
    let inside : List Value → Run (Option Value) =
    λ l. and_then (param_in l i) (λ v. or_mistyped (inside_in v)) in
    let view = ap (λ (u : Site). u.params) c.site.view_is in
    let plain = plain_then (param_in c.site.inside.params.now i) (λ v. or_mistyped (inside_in v))
    (plain_param c.site.inside.params.now i) plain_inside in
    let first = inside c.args.site.now.params in
    let other = run_at (expr_part c.args.other.now) see at in
    let next : Option Value → Run Value = λ o. or_other o other in
    let is = or_else_run i c.args.other.now see at in
    let o = c.in_ok-param_inside.field-0 in
    let gave = ran_over s c.site.inside.params.now c.args.site.now.params inside
    (g.C.Cells.asked c.args.cells.now) (Ok o) view plain c.in_ok-param_inside.ensures.exact in
    goes_on s _ first next o _ _ _ c.expression.result is c.requires.can gave
    (ran_as s other (next o) _ _ c.expression.result (ap next (sym c.in-None.is))
    c.expression.ensures.ran)

pub or_else-returns-in-None-clause-after : goal.or_else-returns-in-None-clause-after
or_else-returns-in-None-clause-after g t c =
    on_ok_map c.expression.result _ _
    (λ e. e ∙ sym (after_or_else c.args.param c.args.other.now c.args.at.now))
    c.expression.ensures.after

pub or_else-returns-in-Some-clause-ran : goal.or_else-returns-in-Some-clause-ran
or_else-returns-in-Some-clause-ran g t c =
    let s = g.S.InScope.scope in
    let see = seen s c.args.depth c.args.site.now in
    let at = c.args.at.now in
    let i = c.args.param in
    let inside : List Value → Run (Option Value) =
    λ l. and_then (param_in l i) (λ v. or_mistyped (inside_in v)) in
    let view = ap (λ (u : Site). u.params) c.site.view_is in
    let plain = plain_then (param_in c.site.inside.params.now i) (λ v. or_mistyped (inside_in v))
    (plain_param c.site.inside.params.now i) plain_inside in
    let first = inside c.args.site.now.params in
    let other = run_at (expr_part c.args.other.now) see at in
    let next : Option Value → Run Value = λ o. or_other o other in
    let is = or_else_run i c.args.other.now see at in
    let o = c.in_ok-param_inside.field-0 in
    let gave = ran_over s c.site.inside.params.now c.args.site.now.params inside
    (g.C.Cells.asked c.args.cells.now) (Ok o) view plain c.in_ok-param_inside.ensures.exact in
    let v = c.in-Some.inside in
    let rest = can_as s (next o) (gives v) (ap next c.in-Some.is)
    (can_go_on s _ first next o _ _ is c.requires.can gave) in
    goes_on s _ first next o _ _ _ c.passed.result is c.requires.can gave
    (ran_as s (gives v) (next o) _ _ c.passed.result (ap next (sym c.in-Some.is))
    (ran_passed s (gives v) v _ _ c.pass_expression.result c.passed.result rest
    (ran_value s v v _ refl) c.passed.ensures.exact))

pub or_else-returns-in-Some-clause-after : goal.or_else-returns-in-Some-clause-after
or_else-returns-in-Some-clause-after g t c =
    on_passed c.in-Some.inside c.pass_expression.result c.passed.result _
    (on_ok_map c.pass_expression.result _ _
    (λ e. e ∙ sym (after_or_else c.args.param c.args.other.now c.args.at.now))
    c.pass_expression.ensures.after) c.passed.ensures.exact

-- ---- conditions

pub condition-returns-in-Has-clause-ran : goal.condition-returns-in-Has-clause-ran
condition-returns-in-Has-clause-ran g t c =
    let s = g.S.InScope.scope in
    let see = seen s c.args.depth c.args.site.now in
    let at = c.args.at.now in
    let i = c.in-Has.index in
    let held : List Value → Run Bool = λ l. and_then (param_in l i) has_in in
    ran_as s (held c.args.site.now.params) _ _ _ c.param_has.result
    (sym (ap (λ (u : NCond). run_at (cond_part u) see at) c.in-Has.is ∙ has_run i see at))
    (ran_over s c.site.inside.params.now c.args.site.now.params held _ c.param_has.result
    (ap (λ (u : Site). u.params) c.site.view_is)
    (plain_then (param_in c.site.inside.params.now i) has_in
    (plain_param c.site.inside.params.now i) plain_has) c.param_has.ensures.exact)

pub condition-returns-in-Has-clause-after : goal.condition-returns-in-Has-clause-after
condition-returns-in-Has-clause-after g t c =
    on_ok c.param_has.result _
    (sym (ap (λ (u : NCond). after (cond_part u) c.args.at.now) c.in-Has.is
    ∙ after_has c.in-Has.index c.args.at.now))

pub condition-returns-in-IsOk-clause-ran : goal.condition-returns-in-IsOk-clause-ran
condition-returns-in-IsOk-clause-ran g t c =
    let s = g.S.InScope.scope in
    let see = seen s c.args.depth c.args.site.now in
    let at = c.args.at.now in
    let i = c.in-IsOk.index in
    let held : List Value → Run Bool = λ l. and_then (param_in l i) is_ok_in in
    ran_as s (held c.args.site.now.params) _ _ _ c.param_is_ok.result
    (sym (ap (λ (u : NCond). run_at (cond_part u) see at) c.in-IsOk.is ∙ is_ok_run i see at))
    (ran_over s c.site.inside.params.now c.args.site.now.params held _ c.param_is_ok.result
    (ap (λ (u : Site). u.params) c.site.view_is)
    (plain_then (param_in c.site.inside.params.now i) is_ok_in
    (plain_param c.site.inside.params.now i) plain_is_ok) c.param_is_ok.ensures.exact)

pub condition-returns-in-IsOk-clause-after : goal.condition-returns-in-IsOk-clause-after
condition-returns-in-IsOk-clause-after g t c =
    on_ok c.param_is_ok.result _
    (sym (ap (λ (u : NCond). after (cond_part u) c.args.at.now) c.in-IsOk.is
    ∙ after_is_ok c.in-IsOk.index c.args.at.now))

-- ---- expressions

pub expression-by_param-requires-clause-can : goal.expression-by_param-requires-clause-can
expression-by_param-requires-clause-can g t c =
    let s = g.S.InScope.scope in
    let see = seen s c.args.depth c.args.site.now in
    let at = c.args.at.now in
    let whole : NExpr → Run Value = λ e. run_at (expr_part e) see at in
    can_as s (whole c.args.e.now) _
    (ap whole c.in-ByName.is ∙ by_name_run c.in-ByName.f c.in-ByName.param see at) c.requires.can

pub expression-returns-in_ok-text_value-in-Text-clause-ran : goal.expression-returns-in_ok-text_value-in-Text-clause-ran
expression-returns-in_ok-text_value-in-Text-clause-ran g t c =
    let s = g.S.InScope.scope in
    let see = seen s c.args.depth c.args.site.now in
    let at = c.args.at.now in
    let whole : NExpr → Run Value = λ e. run_at (expr_part e) see at in
    ran_as s (gives (value.Text c.in-Text.text)) (whole c.args.e.now) _ _ _
    (sym (ap whole c.in-Text.is ∙ text_run c.in-Text.text see at))
    (ran_value s (value.Text c.in-Text.text) c.in_ok-text_value-in-Text.field-0 _
    c.in_ok-text_value-in-Text.ensures.exact)

pub expression-returns-in_ok-text_value-in-Text-clause-after : goal.expression-returns-in_ok-text_value-in-Text-clause-after
expression-returns-in_ok-text_value-in-Text-clause-after g t c =
    sym (ap (λ (u : NExpr). after (expr_part u) c.args.at.now) c.in-Text.is
    ∙ after_text c.in-Text.text c.args.at.now)

pub expression-returns-in-Int-clause-ran : goal.expression-returns-in-Int-clause-ran
expression-returns-in-Int-clause-ran g t c =
    let s = g.S.InScope.scope in
    let see = seen s c.args.depth c.args.site.now in
    let at = c.args.at.now in
    let whole : NExpr → Run Value = λ e. run_at (expr_part e) see at in
    ran_as s (gives (value.Int c.in-Int.n)) (whole c.args.e.now) _ _ _
    (sym (ap whole c.in-Int.is ∙ int_run c.in-Int.n see at))
    (ran_value s (value.Int c.in-Int.n) c.int_value.result _ c.int_value.ensures.exact)

pub expression-returns-in-Int-clause-after : goal.expression-returns-in-Int-clause-after
expression-returns-in-Int-clause-after g t c =
    sym (ap (λ (u : NExpr). after (expr_part u) c.args.at.now) c.in-Int.is
    ∙ after_int c.in-Int.n c.args.at.now)

pub expression-returns-in-Param-clause-ran : goal.expression-returns-in-Param-clause-ran
expression-returns-in-Param-clause-ran g t c =
    let s = g.S.InScope.scope in
    let see = seen s c.args.depth c.args.site.now in
    let at = c.args.at.now in
    let whole : NExpr → Run Value = λ e. run_at (expr_part e) see at in
    let i = c.in-Param.index in
    ran_as s (param_in c.args.site.now.params i) (whole c.args.e.now) _ _ c.param.result
    (sym (ap whole c.in-Param.is ∙ param_run i see at))
    (ran_over s c.site.inside.params.now c.args.site.now.params (λ l. param_in l i) _ c.param.result
    (ap (λ (u : Site). u.params) c.site.view_is) (plain_param c.site.inside.params.now i)
    c.param.ensures.exact)

pub expression-returns-in-Param-clause-after : goal.expression-returns-in-Param-clause-after
expression-returns-in-Param-clause-after g t c =
    on_ok c.param.result _
    (sym (ap (λ (u : NExpr). after (expr_part u) c.args.at.now) c.in-Param.is
    ∙ after_param c.in-Param.index c.args.at.now))

pub expression-returns-in-ByName-clause-ran : goal.expression-returns-in-ByName-clause-ran
expression-returns-in-ByName-clause-ran g t c =
    let s = g.S.InScope.scope in
    let see = seen s c.args.depth c.args.site.now in
    let at = c.args.at.now in
    let whole : NExpr → Run Value = λ e. run_at (expr_part e) see at in
    ran_as s (run_at (by_param c.in-ByName.f c.in-ByName.param) see at) (whole c.args.e.now) _ _
    c.by_param.result
    (sym (ap whole c.in-ByName.is ∙ by_name_run c.in-ByName.f c.in-ByName.param see at))
    c.by_param.ensures.ran

pub expression-returns-in-ByName-clause-after : goal.expression-returns-in-ByName-clause-after
expression-returns-in-ByName-clause-after g t c =
    on_ok_map c.by_param.result _ _
    (λ e. e ∙ sym (ap (λ (u : NExpr). after (expr_part u) c.args.at.now) c.in-ByName.is
    ∙ after_by_name c.in-ByName.f c.in-ByName.param c.args.at.now)) c.by_param.ensures.after
