use Rattle.std.proofs.Common.{arith}
use Rattle.std.proofs.lemmas.Result.{err_from_is_err_and}
use Rattle.dg_decl.specs.Readers as readers
use Rattle.dg_decl.specs.ExpressionForms as forms
use Rattle.dg_reader.proofs.ListLemmas.{begins, goes_on, ends, fails, is_full}
use Rattle.dg_reader.proofs.ConstantSteps.{constant_none, constant_step}
use Rattle.dg_reader.proofs.constants.+constants.Goals as goal

pub constant_list-loop-turn-init : goal.constant_list-loop-turn-init
constant_list-loop-turn-init t c =
    rw c.new-found.ensures (begins (readers.list_of (forms.constant_within c.args.depth)
    readers.list_limit c.args.tokens.now))

pub constant_list-returns-in_err-constant_within : goal.constant_list-returns-in_err-constant_within
constant_list-returns-in_err-constant_within t c =
    let p = err_from_is_err_and c.from_residual.result c.from_residual.ensures.1 in
    record {
      exact = rw (p.1, p.2) (fails (forms.constant_within c.args.depth) c.loop-turn.found
          readers.list_limit c.loop-turn._turn c.loop-turn.tokens c.constant_within.new.tokens
          c.constant_within.new.tokens c.in_err-constant_within.field-0.0 _ c.loop-turn-test.true
          c.in_err-constant_within.ensures.exact c.loop-turn.invariant);
    }

pub constant_list-returns-then-not-eat : goal.constant_list-returns-then-not-eat
constant_list-returns-then-not-eat t c =
    record {
      exact = rw c.in_ok-push.ensures.ok (ends (forms.constant_within c.args.depth)
          c.loop-turn.found readers.list_limit c.loop-turn._turn c.loop-turn.tokens
          c.constant_within.new.tokens c.eat.new.self c.in_ok-constant_within.field-0 _
          c.loop-turn-test.true c.in_ok-constant_within.ensures.exact
          (rw (← c.if-not-eat.true) c.eat.ensures.exact) c.loop-turn.invariant);
    }

pub constant_list-loop-turn-preserved : goal.constant_list-loop-turn-preserved
constant_list-loop-turn-preserved t c =
    rw c.in_ok-push.ensures.ok (goes_on (forms.constant_within c.args.depth) c.loop-turn.found
    readers.list_limit c.loop-turn._turn c.loop-turn.tokens c.constant_within.new.tokens
    c.eat.new.self c.in_ok-constant_within.field-0 _ c.loop-turn-test.true
    c.in_ok-constant_within.ensures.exact (rw (← c.if-not-eat.false) c.eat.ensures.exact)
    c.loop-turn.invariant)

pub constant_list-returns : goal.constant_list-returns
constant_list-returns t c =
    record {
      exact = is_full (forms.constant_within c.args.depth) c.loop-turn.found readers.list_limit
          c.loop-turn._turn c.loop-turn.tokens _ c.loop-turn-test.false c.loop-turn.invariant;
    }

pub constant_within-returns-then-depth-eq0 : goal.constant_within-returns-then-depth-eq0
constant_within-returns-then-depth-eq0 t c =
    record { exact = constant_none c.args.depth c.args.tokens.now c.if-depth-eq0.true }

pub constant_within-returns : goal.constant_within-returns
constant_within-returns t c =
    record {
      exact = constant_step c.args.depth c.args.tokens.now c.constant_over.new.tokens
          c.constant_over.result (omega (arith, c.if-depth-eq0.false))
          c.constant_over.ensures.exact;
    }
