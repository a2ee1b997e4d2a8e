use Rattle.std.proofs.Common.{sym, ◌∙◌}
use Rattle.std.proofs.lemmas.Result.{err_from_is_err_and}
use Rattle.dg_decl.specs.Readers as readers
use Rattle.dg_decl.specs.Forms as forms
use Rattle.dg_reader.proofs.ListLemmas.{begins}
use Rattle.dg_reader.proofs.StepLemmas.{steps_end, steps_go_on, steps_fail, steps_are_full}
use Rattle.dg_reader.proofs.session.ask_steps.Goals as goal

pub loop-turn-init : goal.loop-turn-init
loop-turn-init c =
    rw c.new-found.ensures (begins (forms.ask_steps readers.list_limit c.args.tokens.now))

pub returns-then-is_empty : goal.returns-then-is_empty
returns-then-is_empty c =
    record {
      exact = steps_end c.loop-turn.found readers.list_limit c.loop-turn._turn
          c.loop-turn.tokens _ (sym c.is_empty.ensures.exact ∙ c.if-is_empty.true)
          c.loop-turn.invariant;
    }

pub returns-in_err-ask_step : goal.returns-in_err-ask_step
returns-in_err-ask_step c =
    let p = err_from_is_err_and c.from_residual.result c.from_residual.ensures.1 in
    record {
      exact = rw (p.1, p.2) (steps_fail c.loop-turn.found readers.list_limit c.loop-turn._turn
          c.loop-turn.tokens c.ask_step.new.tokens c.ask_step.new.tokens
          c.in_err-ask_step.field-0.0 _ c.loop-turn-test.true
          (sym c.is_empty.ensures.exact ∙ c.if-is_empty.false)
          c.in_err-ask_step.ensures.exact c.loop-turn.invariant);
    }

pub loop-turn-preserved : goal.loop-turn-preserved
loop-turn-preserved c =
    rw c.in_ok-push.ensures.ok (steps_go_on c.loop-turn.found readers.list_limit
    c.loop-turn._turn c.loop-turn.tokens c.ask_step.new.tokens c.in_ok-ask_step.field-0 _
    c.loop-turn-test.true (sym c.is_empty.ensures.exact ∙ c.if-is_empty.false)
    c.in_ok-ask_step.ensures.exact c.loop-turn.invariant)

pub returns-then-not-is_empty : goal.returns-then-not-is_empty
returns-then-not-is_empty c =
    record {
      exact = steps_are_full c.loop-turn.found readers.list_limit c.loop-turn._turn
          c.loop-turn.tokens _ c.loop-turn-test.false
          (sym c.is_empty-2.ensures.exact ∙ c.if-not-is_empty.true) c.loop-turn.invariant;
    }

pub returns : goal.returns
returns c =
    record {
      exact = steps_end c.loop-turn.found readers.list_limit c.loop-turn._turn
          c.loop-turn.tokens _ (sym c.is_empty-2.ensures.exact ∙ c.if-not-is_empty.false)
          c.loop-turn.invariant;
    }
