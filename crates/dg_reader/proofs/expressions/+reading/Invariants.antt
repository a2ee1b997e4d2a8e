use Rattle.std.proofs.Common.{◌≡◌, ◌<◌, ◌≤◌, ◌-◌, ◌+◌, ◌*◌, codes}
use Rattle.dg_decl.specs.declared.expression.Expr.TheVariants as expr
use Rattle.dg_decl.specs.Readers as readers
use Rattle.dg_decl.specs.ExpressionForms as forms
use Rattle.dg_reader.specs.Budgets as budgets
use Rattle.dg_reader.proofs.ListLemmas.{with_front}
use Rattle.dg_reader.proofs.ParenLemmas.{IsAt}
use Rattle.dg_reader.proofs.expressions.+reading.Given as goal

-- what was read so far and what is still read are the whole list
abbrev pub invariant-expression_list-loop-turn : goal.invariant-expression_list-loop-turn
invariant-expression_list-loop-turn l =
    with_front l.found (readers.list_of (budgets.expression_to l.depth l.budget) (readers.list_limit
    - l._turn) l.tokens)
    ≡ readers.list_of (budgets.expression_to l.depth l.budget) readers.list_limit l.fn.tokens

-- what was read so far, and what is still read behind it, are all
abbrev pub invariant-added-loop-turn : goal.invariant-added-loop-turn
invariant-added-loop-turn l =
    forms.row_of (codes "+") (budgets.prim_to (budgets.expression_to l.depth) (l.budget - 1))
    (λ a b. expr.Sum a b)
    (forms.nesting_limit - l._turn) l.read l.tokens
    ≡ forms.row_of (codes "+") (budgets.prim_to (budgets.expression_to l.depth) (l.budget - 1))
    (λ a b. expr.Sum a b)
    forms.nesting_limit l.fn.to l.fn.tokens

-- the operand of this level was read
abbrev pub invariant-in_opens-loop-level : goal.invariant-in_opens-loop-level
invariant-in_opens-loop-level l = record {
  at : IsAt l.depth l.budget l.level l.fn.tokens l.read l.tokens;
  few : l.depth < l.level + l.opens;
}

abbrev pub decreases-in_opens-loop-level : goal.decreases-in_opens-loop-level
decreases-in_opens-loop-level l = l.depth - l.level

abbrev pub decreases-expression : goal.decreases-expression
decreases-expression l = 32 * l.depth

abbrev pub decreases-expression_list : goal.decreases-expression_list
decreases-expression_list l = 32 * l.depth + 1

abbrev pub decreases-in_parentheses : goal.decreases-in_parentheses
decreases-in_parentheses l = 32 * l.depth + 2

abbrev pub decreases-some_in_parentheses : goal.decreases-some_in_parentheses
decreases-some_in_parentheses l = 32 * l.depth + 2

abbrev pub decreases-object : goal.decreases-object
decreases-object l = 32 * l.depth + 3

abbrev pub decreases-call_of_one : goal.decreases-call_of_one
decreases-call_of_one l = 32 * l.depth + 3

abbrev pub decreases-or_else : goal.decreases-or_else
decreases-or_else l = 32 * l.depth + 3

abbrev pub decreases-call_of : goal.decreases-call_of
decreases-call_of l = 32 * l.depth + 4

abbrev pub decreases-function : goal.decreases-function
decreases-function l = 32 * l.depth + 5

abbrev pub decreases-named : goal.decreases-named
decreases-named l = 32 * l.depth + 6

abbrev pub decreases-plain_atom : goal.decreases-plain_atom
decreases-plain_atom l = 32 * l.depth + 7

abbrev pub decreases-plain_prim : goal.decreases-plain_prim
decreases-plain_prim l = 32 * l.depth + 8

abbrev pub decreases-closed : goal.decreases-closed
decreases-closed l = 32 * l.depth + 7

abbrev pub decreases-in_opens : goal.decreases-in_opens
decreases-in_opens l = 32 * l.depth + 8

abbrev pub decreases-prim : goal.decreases-prim
decreases-prim l = 32 * l.depth + 9

abbrev pub decreases-added : goal.decreases-added
decreases-added l = 32 * l.depth + 10

abbrev pub decreases-around : goal.decreases-around
decreases-around l = 32 * l.depth + 11

abbrev pub decreases-sum : goal.decreases-sum
decreases-sum l = 32 * l.depth + 12

abbrev pub decreases-comparison : goal.decreases-comparison
decreases-comparison l = 32 * l.depth + 13

abbrev pub decreases-condition : goal.decreases-condition
decreases-condition l = 32 * l.depth + 14

abbrev pub decreases-choice : goal.decreases-choice
decreases-choice l = 32 * l.depth + 15

abbrev pub decreases-whole : goal.decreases-whole
decreases-whole l = 32 * l.depth + 16
