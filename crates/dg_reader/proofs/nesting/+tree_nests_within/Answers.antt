use Rattle.std.proofs.Common.{◌≡◌, ◌<◌, ◌-◌, max, subst, sym, ◌∙◌, arith}
use Rattle.dg_decl.specs.declared.expression.Tree.{Tree}
use Rattle.dg_decl.specs.ExpressionForms as forms
use Rattle.dg_decl.proofs.WrittenEquations as eq
use Rattle.dg_reader.proofs.NestingLemmas.{no_limit, two_parts, both_tests, await_test, choice_nests}
use Rattle.dg_reader.proofs.nesting.+tree_nests_within.Goals as goal

pub returns-then-limit-eq0 : goal.returns-then-limit-eq0
returns-then-limit-eq0 t c =
    record {
      exact = no_limit (forms.tree_nesting c.args.t.now) c.args.limit
          (choice_nests c.args.t.now c.in-If.cond c.in-If.yes c.in-If.no c.in-If.is)
          c.if-limit-eq0.true;
    }

pub returns-in-Leaf : goal.returns-in-Leaf
returns-in-Leaf t c =
    record { exact = rw (c.in-Leaf.is, eq.tree_nesting-Leaf) c.nests_within.ensures.exact }

pub returns-in-Await : goal.returns-in-Await
returns-in-Await t c =
    record { exact = rw (c.in-Await.is, eq.tree_nesting-Await) (await_test c.args.limit) }

pub returns-else-limit-eq0 : goal.returns-else-limit-eq0
returns-else-limit-eq0 t c =
    let arms = both_tests (forms.tree_nesting c.get.result.now)
    (forms.tree_nesting c.get-in-If.result.now) (c.args.limit - 1)
    c.tree_nests_within.result c.tree_nests_within-in-If.result c.both.result
    c.tree_nests_within.ensures.exact c.tree_nests_within-in-If.ensures.exact
    c.both.ensures.exact in
    record {
      exact = two_parts (forms.tree_nesting c.args.t.now)
          (forms.condition_nesting c.in-If.cond)
          (max (forms.tree_nesting c.get.result.now) (forms.tree_nesting c.get-in-If.result.now))
          c.args.limit c.condition_nests_within.result c.both.result c.both-in-If.result
          (cc (eq.tree_nesting-If c.in-If.cond c.get.result.now c.get-in-If.result.now))
          (omega (arith, c.if-limit-eq0.false)) c.condition_nests_within.ensures.exact arms
          c.both-in-If.ensures.exact;
    }
