use Rattle.std.proofs.Common.{◌≡◌, true, false, codes, ◌∙◌, sym}
use Rattle.std.proofs.lemmas.Result.{err_from_is_err_and}
use Rattle.dg_decl.specs.declared.expression.Expr.TheVariants as expr
use Rattle.dg_decl.specs.Readers as readers
use Rattle.dg_decl.specs.ExpressionForms as forms
use Rattle.dg_reader.proofs.RowLemmas.{row_goes_on, row_ends, row_fails, row_is_full}
use Rattle.dg_reader.proofs.expressions.fields.Goals as goal

pub returns-then-not-eat : goal.returns-then-not-eat
unfolding forms.fields
returns-then-not-eat c =
    record {
      exact = row_ends (codes ".") readers.name (λ e f. expr.Field e f) forms.nesting_limit
          c.loop-turn._turn c.loop-turn.read c.loop-turn.tokens c.eat.new.self _
          c.loop-turn-test.true (rw (← c.if-not-eat.true) c.eat.ensures.exact)
          c.loop-turn.invariant;
    }

pub returns-in_err-field : goal.returns-in_err-field
unfolding forms.fields
returns-in_err-field c =
    let p = err_from_is_err_and c.from_residual.result c.from_residual.ensures.1 in
    record {
      exact = rw (p.1, p.2) (row_fails (codes ".") readers.name (λ e f. expr.Field e f)
          forms.nesting_limit c.loop-turn._turn c.loop-turn.read c.loop-turn.tokens
          c.eat.new.self c.name.new.tokens c.name.new.tokens c.in_err-field.field-0.0 _
          c.loop-turn-test.true (rw (← c.if-not-eat.false) c.eat.ensures.exact)
          c.in_err-field.ensures.exact c.loop-turn.invariant);
    }

pub loop-turn-preserved : goal.loop-turn-preserved
loop-turn-preserved c =
    rw c.in_ok-new.ensures (row_goes_on (codes ".") readers.name
    (λ e f. expr.Field e f) forms.nesting_limit
    c.loop-turn._turn c.loop-turn.read c.loop-turn.tokens c.eat.new.self c.name.new.tokens
    c.in_ok-field.field _ c.loop-turn-test.true
    (rw (← c.if-not-eat.false) c.eat.ensures.exact) c.in_ok-field.ensures.exact
    c.loop-turn.invariant)

pub returns : goal.returns
unfolding forms.fields
returns c =
    record {
      exact = row_is_full (codes ".") readers.name (λ e f. expr.Field e f) forms.nesting_limit
          c.loop-turn._turn c.loop-turn.read c.loop-turn.tokens _ c.loop-turn-test.false
          c.loop-turn.invariant;
    }
