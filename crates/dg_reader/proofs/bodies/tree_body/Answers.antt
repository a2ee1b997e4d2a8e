use Rattle.std.proofs.Common.{◌≡◌, true, false, Option, Some, None, sym, ◌∙◌}
use Rattle.std.proofs.lemmas.Result.{err_from_is_err_and}
use Rattle.dg_decl.specs.ExpressionForms as forms
use Rattle.dg_reader.specs.Budgets as budgets
use Rattle.dg_reader.proofs.BudgetLemmas.{tree_body_fails, tree_body_fits, tree_body_is_too_deep}
use Rattle.dg_reader.proofs.bodies.tree_body.Goals as goal

pub returns-in_err-read : goal.returns-in_err-read
returns-in_err-read c =
    let p = err_from_is_err_and c.from_residual.result c.from_residual.ensures.1 in
    record {
      exact = rw (p.1, p.2) (tree_body_fails c.args.tokens.now c.tree.new.tokens
          c.tree.new.tokens c.in_err-read.field-0.0 c.in_err-read.ensures.exact);
    }

pub returns-then-not-tree_nests_within : goal.returns-then-not-tree_nests_within
returns-then-not-tree_nests_within c =
    record {
      exact = tree_body_is_too_deep c.args.tokens.now c.tree.new.tokens c.in_ok-read.read
          c.in_ok-read.ensures.exact
          (sym c.tree_nests_within.ensures.exact ∙ c.if-not-tree_nests_within.true);
    }

pub returns : goal.returns
returns c =
    record {
      exact = tree_body_fits c.args.tokens.now c.tree.new.tokens c.in_ok-read.read
          c.in_ok-read.ensures.exact
          (sym c.tree_nests_within.ensures.exact ∙ c.if-not-tree_nests_within.false);
    }
