use Rattle.std.proofs.Common.{ℕ, rules, sym, ap}
use Rattle.dg_eval.specs.Meaning.{eval}
use Rattle.dg_requests.proofs.RanLemmas.{can_as, ran_as}
use Rattle.dg_evaluator.proofs.EndLemmas.{some_depth, deeper}
use Rattle.dg_evaluator.proofs.slots.+eval+fn-eval-deeper.Goals as goal

pub overflow_sub-depth : goal.overflow_sub-depth
overflow_sub-depth g t c =
    some_depth g.S.InScope.scope c.args.depth c.args.inst c.args.slot c.args.place.now
    c.requires.can

pub value_of-requires-clause-below : goal.value_of-requires-clause-below
value_of-requires-clause-below g t c =
    search (
      rules,
      some_depth g.S.InScope.scope c.args.depth c.args.inst c.args.slot
          c.args.place.now c.requires.can,
    )

pub value_of-requires-clause-can : goal.value_of-requires-clause-can
value_of-requires-clause-can g t c =
    let s = g.S.InScope.scope in
    can_as s (eval s.doc c.args.depth c.args.inst c.args.slot c.args.place.now) _
    (ap (λ (d : ℕ). eval s.doc d c.args.inst c.args.slot c.args.place.now)
    (sym (deeper c.args.depth
    (some_depth s c.args.depth c.args.inst c.args.slot c.args.place.now c.requires.can))))
    c.requires.can

pub returns-clause-ran : goal.returns-clause-ran
returns-clause-ran g t c =
    let s = g.S.InScope.scope in
    ran_as s _ (eval s.doc c.args.depth c.args.inst c.args.slot c.args.place.now) _ _
    c.value_of.result
    (ap (λ (d : ℕ). eval s.doc d c.args.inst c.args.slot c.args.place.now)
    (deeper c.args.depth
    (some_depth s c.args.depth c.args.inst c.args.slot c.args.place.now c.requires.can)))
    c.value_of.ensures.ran
