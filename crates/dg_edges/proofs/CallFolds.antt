-- The calls in expressions, conditions and trees, by their forms.
use Rattle.std.proofs.Common.{◌≡◌, ◌++◌, ◌∷◌, [], List, map}
use Rattle.std.specs.Prelude.{ℤ}
use Rattle.dg_lex.specs.Bytes.{Bytes}
use Rattle.dg_decl.specs.declared.expression.CallName.{CallName}
use Rattle.dg_decl.specs.declared.expression.ParamCall.{ParamCall}
use Rattle.dg_decl.specs.declared.expression.Expr.{Expr}
use Rattle.dg_decl.specs.declared.expression.Expr.TheVariants as expr
use Rattle.dg_decl.specs.declared.expression.Cond.{Cond}
use Rattle.dg_decl.specs.declared.expression.Cond.TheVariants as cond
use Rattle.dg_decl.specs.declared.expression.Tree.{Tree}
use Rattle.dg_decl.specs.declared.expression.Tree.TheVariants as tree
use Rattle.dg_decl.specs.Bodies.{cond_calls_at, called_by_name, all_of, expr_calls_at, calls_of_expr, calls_of_cond, tree_calls_at, calls_of_tree}
use Rattle.dg_decl.proofs.FoldEquations.{expr-Text, expr-Int, expr-Param, expr-New, expr-Field, expr-Sum, expr-If, expr-Call, expr-ByName, expr-OrElse, cond-Equal, cond-Less, cond-Has, cond-IsOk, tree-Leaf, tree-Await, tree-If}

pub expr_text : (t : Bytes) → calls_of_expr (expr.Text t) ≡ []
expr_text t = expr-Text cond_calls_at expr_calls_at t

pub expr_int : (n : ℤ) → calls_of_expr (expr.Int n) ≡ []
expr_int n = expr-Int cond_calls_at expr_calls_at n

pub expr_param : (p : Bytes) → calls_of_expr (expr.Param p) ≡ []
expr_param p = expr-Param cond_calls_at expr_calls_at p

pub expr_new : (c : Bytes) (xs : List Expr)
    → calls_of_expr (expr.New c xs) ≡ all_of (map calls_of_expr xs)
expr_new c xs = expr-New cond_calls_at expr_calls_at c xs

pub expr_field : (e : Expr) (n : Bytes) → calls_of_expr (expr.Field e n) ≡ calls_of_expr e
expr_field e n = expr-Field cond_calls_at expr_calls_at e n

pub expr_sum : (a b : Expr)
    → calls_of_expr (expr.Sum a b) ≡ calls_of_expr a ++ calls_of_expr b
expr_sum a b = expr-Sum cond_calls_at expr_calls_at a b

pub expr_if : (c : Cond) (a b : Expr)
    → calls_of_expr (expr.If c a b) ≡ calls_of_cond c ++ (calls_of_expr a ++ calls_of_expr b)
expr_if c a b = expr-If cond_calls_at expr_calls_at c a b

pub expr_call : (f : CallName) (xs : List Expr)
    → calls_of_expr (expr.Call f xs) ≡ all_of (map calls_of_expr xs)
expr_call f xs = expr-Call cond_calls_at expr_calls_at f xs

pub expr_by_name : (f : ParamCall) (p : Bytes)
    → calls_of_expr (expr.ByName f p) ≡ called_by_name f p
expr_by_name f p = expr-ByName cond_calls_at expr_calls_at f p

pub expr_or_else : (p : Bytes) (e : Expr) → calls_of_expr (expr.OrElse p e) ≡ calls_of_expr e
expr_or_else p e = expr-OrElse cond_calls_at expr_calls_at p e

pub ruleset exprs = (
  expr_text,
  expr_int,
  expr_param,
  expr_new,
  expr_field,
  expr_sum,
  expr_if,
  expr_call,
  expr_by_name,
  expr_or_else,
)

pub cond_equal : (a b : Expr)
    → calls_of_cond (cond.Equal a b) ≡ calls_of_expr a ++ calls_of_expr b
cond_equal a b = cond-Equal cond_calls_at expr_calls_at a b

pub cond_less : (a b : Expr)
    → calls_of_cond (cond.Less a b) ≡ calls_of_expr a ++ calls_of_expr b
cond_less a b = cond-Less cond_calls_at expr_calls_at a b

pub cond_has : (p : Bytes) → calls_of_cond (cond.Has p) ≡ []
cond_has p = cond-Has cond_calls_at expr_calls_at p

pub cond_is_ok : (p : Bytes) → calls_of_cond (cond.IsOk p) ≡ []
cond_is_ok p = cond-IsOk cond_calls_at expr_calls_at p

pub ruleset conds = (cond_equal, cond_less, cond_has, cond_is_ok)

pub tree_leaf : (e : Expr) → calls_of_tree (tree.Leaf e) ≡ calls_of_expr e
tree_leaf e = tree-Leaf tree_calls_at e

pub tree_await : (p : Bytes) → calls_of_tree (tree.Await p) ≡ p ∷ []
tree_await p = tree-Await tree_calls_at p

pub tree_if : (c : Cond) (a b : Tree)
    → calls_of_tree (tree.If c a b) ≡ calls_of_cond c ++ (calls_of_tree a ++ calls_of_tree b)
tree_if c a b = tree-If tree_calls_at c a b

pub ruleset trees = (tree_leaf, tree_await, tree_if)
