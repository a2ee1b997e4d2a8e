-- Expressions, conditions and trees as parts, by their forms.
use Rattle.std.proofs.Common.{◌≡◌, ◌∷◌, [], suc, List, map, sym, ap, ◌∙◌}
use Rattle.std.specs.Prelude.{ℕ, Bool, ℤ}
use Rattle.dg_lex.specs.Bytes.{Bytes}
use Rattle.dg_decl.specs.declared.expression.CallName.{CallName}
use Rattle.dg_decl.specs.declared.expression.ParamCall.{ParamCall}
use Rattle.dg_slots.specs.declared.body.NExpr.{NExpr}
use Rattle.dg_slots.specs.declared.body.NExpr.TheVariants as nexpr
use Rattle.dg_slots.specs.declared.body.NCond.{NCond}
use Rattle.dg_slots.specs.declared.body.NCond.TheVariants as ncond
use Rattle.dg_slots.specs.declared.body.NCond.TheOpen.{NCond-F, NExpr-F}
use Rattle.dg_slots.specs.declared.body.NCond.TheViews.{roll-NExpr, roll-NCond}
use Rattle.dg_slots.specs.declared.body.NCond.TheFolds.{map-NExpr, map-NCond, fold-roll-NExpr, fold-roll-NCond}
use Rattle.dg_slots.specs.declared.body.NTree.{NTree}
use Rattle.dg_slots.specs.declared.body.NTree.TheVariants as ntree
use Rattle.dg_slots.specs.declared.body.NTree.TheOpen.{NTree-F}
use Rattle.dg_slots.specs.declared.body.NTree.TheViews.{roll-NTree}
use Rattle.dg_slots.specs.declared.body.NTree.TheFolds.{map-NTree, fold-roll-NTree}
use Rattle.dg_value.specs.declared.value.Value.{Value}
use Rattle.dg_value.specs.declared.value.Value.TheVariants as value
use Rattle.dg_value.specs.declared.place.PlaceStep.TheVariants as step
use Rattle.dg_value.specs.Places.{then_step}
use Rattle.dg_eval.specs.Runs.{gives, and_then, in_order}
use Rattle.dg_eval.specs.Operations.{field_in, sum_in, less_in, equal_in, has_in, is_ok_in, inside_in}
use Rattle.dg_eval.specs.Bodies.{End, value_end, Part, plain, news_of, called_of, runs_of, looked, of_two, of_all, called_with, by_param, inside_or, chosen, cond_at, expr_at, expr_part, cond_part, tree_at, tree_part}

expr_is : (e : NExpr) (z : NExpr-F NCond NExpr) → roll-NExpr z ≡ e
    → expr_part e
    ≡ expr_at (map-NExpr NCond NExpr (Part Bool) (Part Value) cond_part expr_part z)
unfolding cond_part expr_part
expr_is e z is = sym (ap expr_part is) ∙ fold-roll-NExpr (Part Bool) (Part Value) cond_at expr_at z

cond_is : (e : NCond) (z : NCond-F NCond NExpr) → roll-NCond z ≡ e
    → cond_part e
    ≡ cond_at (map-NCond NCond NExpr (Part Bool) (Part Value) cond_part expr_part z)
unfolding cond_part expr_part
cond_is e z is = sym (ap cond_part is) ∙ fold-roll-NCond (Part Bool) (Part Value) cond_at expr_at z

tree_is : (t : NTree) (z : NTree-F NTree) → roll-NTree z ≡ t
    → tree_part t ≡ tree_at (map-NTree NTree (Part End) tree_part z)
unfolding tree_part
tree_is t z is = sym (ap tree_part is) ∙ fold-roll-NTree (Part End) tree_at z

pub part_text : (t : Bytes) → expr_part (nexpr.Text t) ≡ plain (λ s. gives (value.Text t))
part_text t = expr_is (nexpr.Text t) (NExpr-F.Text t) (nexpr.rolls-Text t)

pub part_int : (n : ℤ) → expr_part (nexpr.Int n) ≡ plain (λ s. gives (value.Int n))
part_int n = expr_is (nexpr.Int n) (NExpr-F.Int n) (nexpr.rolls-Int n)

pub part_param : (p : ℕ) → expr_part (nexpr.Param p) ≡ plain (λ s. s.param p)
part_param p = expr_is (nexpr.Param p) (NExpr-F.Param p) (nexpr.rolls-Param p)

abbrev pub new_of : ℕ → List (Part Value) → Part Value
new_of class args = record {
  news = suc (news_of args);
  called = called_of args;
  run = λ s n c. and_then (in_order (runs_of args s (suc n) c))
      (λ vs. gives (value.Object class (then_step s.place (step.New (suc n))) vs));
}

pub part_new : (class : ℕ) (args : List NExpr)
    → expr_part (nexpr.New class args) ≡ new_of class (map expr_part args)
part_new class args =
    expr_is (nexpr.New class args) (NExpr-F.New class args) (nexpr.rolls-New class args)

abbrev pub field_of : Part Value → ℕ → Part Value
field_of of field = record {
  news = of.news;
  called = of.called;
  run = λ s n c. and_then (looked of s n c) (field_in field);
}

pub part_field : (e : NExpr) (field : ℕ)
    → expr_part (nexpr.Field e field) ≡ field_of (expr_part e) field
part_field e field =
    expr_is (nexpr.Field e field) (NExpr-F.Field e field) (nexpr.rolls-Field e field)

pub part_sum : (a b : NExpr)
    → expr_part (nexpr.Sum a b) ≡ of_two (expr_part a) (expr_part b) (λ s. sum_in s.origin)
part_sum a b = expr_is (nexpr.Sum a b) (NExpr-F.Sum a b) (nexpr.rolls-Sum a b)

pub part_if : (c : NCond) (a b : NExpr)
    → expr_part (nexpr.If c a b) ≡ chosen (cond_part c) (expr_part a) (expr_part b)
part_if c a b = expr_is (nexpr.If c a b) (NExpr-F.If c a b) (nexpr.rolls-If c a b)

pub part_call : (f : CallName) (args : List NExpr)
    → expr_part (nexpr.Call f args) ≡ of_all (map expr_part args) (called_with f)
part_call f args = expr_is (nexpr.Call f args) (NExpr-F.Call f args) (nexpr.rolls-Call f args)

pub part_by_name : (f : ParamCall) (p : ℕ) → expr_part (nexpr.ByName f p) ≡ by_param f p
part_by_name f p = expr_is (nexpr.ByName f p) (NExpr-F.ByName f p) (nexpr.rolls-ByName f p)

abbrev pub or_else_of : ℕ → Part Value → Part Value
or_else_of p other = record {
  news = other.news;
  called = other.called;
  run = λ s n c. and_then (s.param p) (λ v. inside_or (inside_in v) (other.run s n c));
}

pub part_or_else : (p : ℕ) (e : NExpr)
    → expr_part (nexpr.OrElse p e) ≡ or_else_of p (expr_part e)
part_or_else p e = expr_is (nexpr.OrElse p e) (NExpr-F.OrElse p e) (nexpr.rolls-OrElse p e)

pub part_equal : (a b : NExpr)
    → cond_part (ncond.Equal a b) ≡ of_two (expr_part a) (expr_part b) (λ s. equal_in)
part_equal a b = cond_is (ncond.Equal a b) (NCond-F.Equal a b) (ncond.rolls-Equal a b)

pub part_less : (a b : NExpr)
    → cond_part (ncond.Less a b) ≡ of_two (expr_part a) (expr_part b) (λ s. less_in)
part_less a b = cond_is (ncond.Less a b) (NCond-F.Less a b) (ncond.rolls-Less a b)

pub part_has : (p : ℕ) → cond_part (ncond.Has p) ≡ plain (λ s. and_then (s.param p) has_in)
part_has p = cond_is (ncond.Has p) (NCond-F.Has p) (ncond.rolls-Has p)

pub part_is_ok : (p : ℕ)
    → cond_part (ncond.IsOk p) ≡ plain (λ s. and_then (s.param p) is_ok_in)
part_is_ok p = cond_is (ncond.IsOk p) (NCond-F.IsOk p) (ncond.rolls-IsOk p)

abbrev pub leaf_of : Part Value → Part End
leaf_of e = record {
  news = e.news;
  called = e.called;
  run = λ s n c. and_then (e.run s n c) (λ v. gives (value_end v));
}

pub part_leaf : (e : NExpr) → tree_part (ntree.Leaf e) ≡ leaf_of (expr_part e)
part_leaf e = tree_is (ntree.Leaf e) (NTree-F.Leaf e) (ntree.rolls-Leaf e)

abbrev pub await_of : ℕ → Part End
await_of p = record {
  news = 0;
  called = p ∷ [];
  run = λ s n c. s.awaited p (then_step s.place (step.Call (suc c)));
}

pub part_await : (p : ℕ) → tree_part (ntree.Await p) ≡ await_of p
part_await p = tree_is (ntree.Await p) (NTree-F.Await p) (ntree.rolls-Await p)

pub part_choice : (c : NCond) (a b : NTree)
    → tree_part (ntree.If c a b) ≡ chosen (cond_part c) (tree_part a) (tree_part b)
part_choice c a b = tree_is (ntree.If c a b) (NTree-F.If c a b) (ntree.rolls-If c a b)
