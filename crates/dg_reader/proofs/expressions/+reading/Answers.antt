use Rattle.std.proofs.Common.{◌≡◌, ℕ, ◌-◌, Some, Err, codes, refl, subst, sym, ◌∙◌, arith}
use Rattle.std.proofs.lemmas.List.Sums.{prefix_len-le-length}
use Rattle.dg_reader.specs.Gives.{Gives}
use Rattle.std.proofs.lemmas.Result.{err_from_is_err_and}
use Rattle.dg_decl.specs.declared.expression.Expr.TheVariants as expr
use Rattle.dg_decl.specs.Readers as readers
use Rattle.dg_decl.specs.ExpressionForms as forms
use Rattle.dg_reader.specs.Budgets as budgets
use Rattle.dg_reader.proofs.ListLemmas.{begins, goes_on, ends, fails, is_full}
use Rattle.dg_reader.proofs.RowLemmas.{row_goes_on, row_ends, row_fails, row_is_full}
use Rattle.dg_reader.proofs.ParenLemmas.{is_open, plain_prim_gives, too_many_opens, no_budget_left}
use Rattle.dg_reader.proofs.ParenLemmas.{no_depth, no_budget_within, expression_step, begins_at}
use Rattle.dg_reader.proofs.ParenLemmas.{begins_not, goes_outwards, fails_outwards, ends_at}
use Rattle.dg_reader.proofs.expressions.+reading.Goals as goal

pub expression_list-loop-turn-init : goal.expression_list-loop-turn-init
expression_list-loop-turn-init t c =
    rw c.new-found.ensures (begins (readers.list_of (budgets.expression_to c.args.depth
    c.args.budget) readers.list_limit c.args.tokens.now))

pub expression_list-returns-in_err-expression : goal.expression_list-returns-in_err-expression
expression_list-returns-in_err-expression t c =
    let p = err_from_is_err_and c.from_residual.result c.from_residual.ensures.1 in
    record {
      exact = rw (p.1, p.2) (fails (budgets.expression_to c.args.depth c.args.budget)
          c.loop-turn.found readers.list_limit c.loop-turn._turn c.loop-turn.tokens
          c.expression.new.tokens c.expression.new.tokens c.in_err-expression.field-0.0 _
          c.loop-turn-test.true c.in_err-expression.ensures.exact c.loop-turn.invariant);
    }

pub expression_list-returns-then-not-eat : goal.expression_list-returns-then-not-eat
expression_list-returns-then-not-eat t c =
    record {
      exact = rw c.in_ok-push.ensures.ok (ends (budgets.expression_to c.args.depth
          c.args.budget) c.loop-turn.found readers.list_limit c.loop-turn._turn
          c.loop-turn.tokens c.expression.new.tokens c.eat.new.self c.in_ok-expression.field-0
          _ c.loop-turn-test.true c.in_ok-expression.ensures.exact
          (rw (← c.if-not-eat.true) c.eat.ensures.exact) c.loop-turn.invariant);
    }

pub expression_list-loop-turn-preserved : goal.expression_list-loop-turn-preserved
expression_list-loop-turn-preserved t c =
    rw c.in_ok-push.ensures.ok (goes_on (budgets.expression_to c.args.depth c.args.budget)
    c.loop-turn.found readers.list_limit c.loop-turn._turn c.loop-turn.tokens
    c.expression.new.tokens c.eat.new.self c.in_ok-expression.field-0 _
    c.loop-turn-test.true c.in_ok-expression.ensures.exact
    (rw (← c.if-not-eat.false) c.eat.ensures.exact) c.loop-turn.invariant)

pub expression_list-returns : goal.expression_list-returns
expression_list-returns t c =
    record {
      exact = is_full (budgets.expression_to c.args.depth c.args.budget) c.loop-turn.found
          readers.list_limit c.loop-turn._turn c.loop-turn.tokens _ c.loop-turn-test.false
          c.loop-turn.invariant;
    }

pub expression-returns-then-depth-eq0 : goal.expression-returns-then-depth-eq0
expression-returns-then-depth-eq0 t c =
    record { exact = no_depth c.args.depth c.args.budget c.args.tokens.now c.if-depth-eq0.true }

pub expression-returns-then-budget-eq0 : goal.expression-returns-then-budget-eq0
expression-returns-then-budget-eq0 t c =
    record {
      exact = no_budget_within c.args.depth c.args.budget c.args.tokens.now
          c.if-budget-eq0.true;
    }

pub expression-returns : goal.expression-returns
expression-returns t c =
    record {
      exact = expression_step c.args.depth c.args.budget c.args.tokens.now c.whole.new.tokens
          c.whole.result (omega (arith, c.if-depth-eq0.false))
          (omega (arith, c.if-budget-eq0.false)) c.whole.ensures.exact;
    }

pub added-returns-then-not-eat : goal.added-returns-then-not-eat
unfolding budgets.added_to
added-returns-then-not-eat t c =
    record {
      exact = row_ends (codes "+") (budgets.prim_to (budgets.expression_to c.args.depth)
          (c.args.budget - 1)) (λ a b. expr.Sum a b) forms.nesting_limit c.loop-turn._turn
          c.loop-turn.read c.loop-turn.tokens c.eat.new.self _ c.loop-turn-test.true
          (rw (← c.if-not-eat.true) c.eat.ensures.exact) c.loop-turn.invariant;
    }

pub added-returns-in_err-term : goal.added-returns-in_err-term
unfolding budgets.added_to
added-returns-in_err-term t c =
    let p = err_from_is_err_and c.from_residual.result c.from_residual.ensures.1 in
    let less : c.saturating_sub.result ≡ c.args.budget - 1 = omega arith in
    record {
      exact = rw (p.1, p.2) (row_fails (codes "+") (budgets.prim_to (budgets.expression_to
          c.args.depth) (c.args.budget - 1)) (λ a b. expr.Sum a b) forms.nesting_limit
          c.loop-turn._turn c.loop-turn.read c.loop-turn.tokens c.eat.new.self
          c.prim.new.tokens c.prim.new.tokens c.in_err-term.field-0.0 _ c.loop-turn-test.true
          (rw (← c.if-not-eat.false) c.eat.ensures.exact)
          (subst (λ (b : ℕ). Gives (budgets.prim_to (budgets.expression_to c.args.depth) b
          c.eat.new.self) (Err c.in_err-term.field-0.0) c.prim.new.tokens) less
          c.in_err-term.ensures.exact) c.loop-turn.invariant);
    }

pub added-loop-turn-preserved : goal.added-loop-turn-preserved
added-loop-turn-preserved t c =
    let less : c.saturating_sub.result ≡ c.args.budget - 1 = omega arith in
    rw (c.in_ok-new.ensures, c.in_ok-new-2.ensures) (row_goes_on (codes "+") (budgets.prim_to
    (budgets.expression_to c.args.depth) (c.args.budget - 1)) (λ a b. expr.Sum a b)
    forms.nesting_limit c.loop-turn._turn c.loop-turn.read c.loop-turn.tokens
    c.eat.new.self c.prim.new.tokens c.in_ok-term.term _ c.loop-turn-test.true
    (rw (← c.if-not-eat.false) c.eat.ensures.exact)
    (subst (λ (b : ℕ). budgets.prim_to (budgets.expression_to c.args.depth) b
    c.eat.new.self ≡ Some (c.in_ok-term.term, c.prim.new.tokens)) less
    c.in_ok-term.ensures.exact) c.loop-turn.invariant)

pub added-returns : goal.added-returns
unfolding budgets.added_to
added-returns t c =
    record {
      exact = row_is_full (codes "+") (budgets.prim_to (budgets.expression_to c.args.depth)
          (c.args.budget - 1)) (λ a b. expr.Sum a b) forms.nesting_limit c.loop-turn._turn
          c.loop-turn.read c.loop-turn.tokens _ c.loop-turn-test.false c.loop-turn.invariant;
    }

pub prim-returns-then-opens-eq0 : goal.prim-returns-then-opens-eq0
prim-returns-then-opens-eq0 t c =
    let less : c.saturating_sub.result ≡ c.args.budget - 1 = omega arith in
    record {
      exact = plain_prim_gives (budgets.expression_to c.args.depth) c.args.budget
          c.saturating_sub.result c.args.tokens.now c.plain_prim.new.tokens
          c.plain_prim.result (sym c.opens-opens.ensures.exact ∙ c.if-opens-eq0.true) less
          c.plain_prim.ensures.exact;
    }

pub prim-returns-then-depth-opens : goal.prim-returns-then-depth-opens
prim-returns-then-depth-opens t c =
    record {
      exact = too_many_opens c.args.depth c.args.budget c.opens-opens.result
          c.args.tokens.now c.opens-opens.ensures.exact c.if-depth-opens.true;
    }

pub prim-returns-then-budget-eq0 : goal.prim-returns-then-budget-eq0
prim-returns-then-budget-eq0 t c =
    record {
      exact = no_budget_left c.args.depth c.args.budget c.opens-opens.result
          c.args.tokens.now c.opens-opens.ensures.exact (omega (arith, c.if-opens-eq0.false))
          c.if-budget-eq0.true;
    }

pub in_opens-skip_many-requires : goal.in_opens-skip_many-requires
in_opens-skip_many-requires t c =
    omega (arith, c.requires.count, prefix_len-le-length is_open c.args.tokens.now)

pub in_opens-returns-in_err-read : goal.in_opens-returns-in_err-read
in_opens-returns-in_err-read t c =
    let p = err_from_is_err_and c.from_residual.result c.from_residual.ensures.1 in
    record {
      exact = rw (p.1, p.2) (begins_not c.args.depth c.args.budget c.args.opens
          (c.args.depth - (c.args.opens - 1)) c.args.tokens.now c.skip_many.new.self
          c.closed.new.tokens c.closed.new.tokens c.in_err-read.field-0.0 c.requires.budget
          c.requires.some c.requires.count c.requires.within refl c.skip_many.ensures.exact
          c.in_err-read.ensures.exact);
    }

pub in_opens-loop-level-init : goal.in_opens-loop-level-init
in_opens-loop-level-init t c = record {
  at = begins_at c.args.depth c.args.budget c.args.opens
      (c.args.depth - (c.args.opens - 1)) c.args.tokens.now c.skip_many.new.self
      c.in_ok-read.read c.closed.new.tokens c.requires.some c.requires.count c.requires.within
      refl c.skip_many.ensures.exact c.in_ok-read.ensures.exact;
  few = omega (arith, c.requires.some, c.requires.within);
}

pub in_opens-returns-in_err-read-2 : goal.in_opens-returns-in_err-read-2
in_opens-returns-in_err-read-2 t c =
    let p = err_from_is_err_and c.from_residual-in_err-read-2.result
    c.from_residual-in_err-read-2.ensures.1 in
    record {
      exact = rw (p.1, p.2) (fails_outwards c.args.depth c.args.budget c.args.opens
          c.loop-level.level c.args.tokens.now c.loop-level.read c.loop-level.tokens
          c.around.new.tokens c.around.new.tokens c.in_err-read-2.field-0.0 c.requires.budget
          c.requires.count c.loop-level.invariant.few c.loop-level-test.true
          c.loop-level.invariant.at c.in_err-read-2.ensures.exact);
    }

pub in_opens-loop-level-preserved : goal.in_opens-loop-level-preserved
in_opens-loop-level-preserved t c = record {
  at = goes_outwards c.args.depth c.args.budget c.args.opens c.loop-level.level
      c.args.tokens.now c.loop-level.read c.in_ok-read-2.read c.loop-level.tokens
      c.around.new.tokens c.requires.budget c.requires.count c.loop-level.invariant.few
      c.loop-level-test.true c.loop-level.invariant.at c.in_ok-read-2.ensures.exact;
  few = omega (arith, c.loop-level.invariant.few);
}
