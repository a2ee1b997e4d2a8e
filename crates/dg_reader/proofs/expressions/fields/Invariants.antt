use Rattle.std.proofs.Common.{◌≡◌, ◌-◌, codes}
use Rattle.dg_decl.specs.declared.expression.Expr.TheVariants as expr
use Rattle.dg_decl.specs.Readers as readers
use Rattle.dg_decl.specs.ExpressionForms as forms
use Rattle.dg_reader.proofs.expressions.fields.Given as goal

-- what was read so far, and what is still read behind it, are all
abbrev pub invariant-loop-turn : goal.invariant-loop-turn
invariant-loop-turn l =
    forms.row_of (codes ".") readers.name (λ e f. expr.Field e f) (forms.nesting_limit - l._turn)
    l.read l.tokens
    ≡ forms.row_of (codes ".") readers.name (λ e f. expr.Field e f) forms.nesting_limit l.fn.of
    l.fn.tokens
