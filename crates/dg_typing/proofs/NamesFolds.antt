-- The names in types, expressions, conditions and trees, by their forms.
use Rattle.std.proofs.Common.{◌≡◌, ◌++◌, ◌∷◌, [], List, map}
use Rattle.std.specs.Prelude.{ℤ}
use Rattle.dg_lex.specs.Bytes.{Bytes}
use Rattle.dg_types.specs.declared.shape.Shape.{Shape}
use Rattle.dg_types.specs.declared.shape.Shape.TheVariants as shape
use Rattle.dg_decl.specs.declared.expression.CallName.{CallName}
use Rattle.dg_decl.specs.declared.expression.ParamCall.{ParamCall}
use Rattle.dg_decl.specs.declared.expression.Expr.{Expr}
use Rattle.dg_decl.specs.declared.expression.Expr.TheVariants as expr
use Rattle.dg_decl.specs.declared.expression.Cond.{Cond}
use Rattle.dg_decl.specs.declared.expression.Cond.TheVariants as cond
use Rattle.dg_decl.specs.declared.expression.Tree.{Tree}
use Rattle.dg_decl.specs.declared.expression.Tree.TheVariants as tree
use Rattle.dg_decl.specs.Stages.Names.{Wanted, mention, joined, named_at, in_shape, in_cond_at, in_cond, in_expr_at, in_expr, in_tree_at, in_tree}
use Rattle.dg_decl.proofs.FoldEquations.{shape-Text, shape-Int, shape-Named, shape-Set, shape-Map, shape-Optional, shape-Provider, shape-Lazy, shape-Producer, shape-Produced, expr-Text, expr-Int, expr-Param, expr-New, expr-Field, expr-Sum, expr-If, expr-Call, expr-ByName, expr-OrElse, cond-Equal, cond-Less, cond-Has, cond-IsOk, tree-Leaf, tree-Await, tree-If}

pub in_text : in_shape shape.Text ≡ []
in_text = shape-Text named_at

pub in_int : in_shape shape.Int ≡ []
in_int = shape-Int named_at

pub in_named : (n : Bytes) → in_shape (shape.Named n) ≡ mention Wanted.type n ∷ []
in_named n = shape-Named named_at n

pub in_set : (t : Shape) → in_shape (shape.Set t) ≡ in_shape t
in_set t = shape-Set named_at t

pub in_map : (k t : Shape) → in_shape (shape.Map k t) ≡ in_shape k ++ in_shape t
in_map k t = shape-Map named_at k t

pub in_optional : (t : Shape) → in_shape (shape.Optional t) ≡ in_shape t
in_optional t = shape-Optional named_at t

pub in_provider : (t : Shape) → in_shape (shape.Provider t) ≡ in_shape t
in_provider t = shape-Provider named_at t

pub in_lazy : (t : Shape) → in_shape (shape.Lazy t) ≡ in_shape t
in_lazy t = shape-Lazy named_at t

pub in_producer : (t : Shape) → in_shape (shape.Producer t) ≡ in_shape t
in_producer t = shape-Producer named_at t

pub in_produced : (t : Shape) → in_shape (shape.Produced t) ≡ in_shape t
in_produced t = shape-Produced named_at t

pub ruleset shapes = (
  in_text,
  in_int,
  in_named,
  in_set,
  in_map,
  in_optional,
  in_provider,
  in_lazy,
  in_producer,
  in_produced,
)

pub expr_text : (t : Bytes) → in_expr (expr.Text t) ≡ []
expr_text t = expr-Text in_cond_at in_expr_at t

pub expr_int : (n : ℤ) → in_expr (expr.Int n) ≡ []
expr_int n = expr-Int in_cond_at in_expr_at n

pub expr_param : (p : Bytes) → in_expr (expr.Param p) ≡ mention Wanted.parameter p ∷ []
expr_param p = expr-Param in_cond_at in_expr_at p

-- a class and its arguments
pub expr_new : (c : Bytes) (xs : List Expr)
    → in_expr (expr.New c xs) ≡ (mention Wanted.class c ∷ []) ++ joined (map in_expr xs)
expr_new c xs = expr-New in_cond_at in_expr_at c xs

pub expr_field : (e : Expr) (n : Bytes) → in_expr (expr.Field e n) ≡ in_expr e
expr_field e n = expr-Field in_cond_at in_expr_at e n

pub expr_sum : (a b : Expr) → in_expr (expr.Sum a b) ≡ in_expr a ++ in_expr b
expr_sum a b = expr-Sum in_cond_at in_expr_at a b

pub expr_if : (c : Cond) (a b : Expr)
    → in_expr (expr.If c a b) ≡ in_cond c ++ in_expr a ++ in_expr b
expr_if c a b = expr-If in_cond_at in_expr_at c a b

pub expr_call : (f : CallName) (xs : List Expr)
    → in_expr (expr.Call f xs) ≡ joined (map in_expr xs)
expr_call f xs = expr-Call in_cond_at in_expr_at f xs

pub expr_by_name : (f : ParamCall) (p : Bytes)
    → in_expr (expr.ByName f p) ≡ mention Wanted.parameter p ∷ []
expr_by_name f p = expr-ByName in_cond_at in_expr_at f p

pub expr_or_else : (p : Bytes) (e : Expr)
    → in_expr (expr.OrElse p e) ≡ (mention Wanted.parameter p ∷ []) ++ in_expr e
expr_or_else p e = expr-OrElse in_cond_at in_expr_at p e

pub ruleset exprs = (
  expr_text,
  expr_int,
  expr_param,
  expr_new,
  expr_field,
  expr_sum,
  expr_if,
  expr_call,
  expr_by_name,
  expr_or_else,
)

pub cond_equal : (a b : Expr) → in_cond (cond.Equal a b) ≡ in_expr a ++ in_expr b
cond_equal a b = cond-Equal in_cond_at in_expr_at a b

pub cond_less : (a b : Expr) → in_cond (cond.Less a b) ≡ in_expr a ++ in_expr b
cond_less a b = cond-Less in_cond_at in_expr_at a b

pub cond_has : (p : Bytes) → in_cond (cond.Has p) ≡ mention Wanted.parameter p ∷ []
cond_has p = cond-Has in_cond_at in_expr_at p

pub cond_is_ok : (p : Bytes) → in_cond (cond.IsOk p) ≡ mention Wanted.parameter p ∷ []
cond_is_ok p = cond-IsOk in_cond_at in_expr_at p

pub ruleset conds = (cond_equal, cond_less, cond_has, cond_is_ok)

pub tree_leaf : (e : Expr) → in_tree (tree.Leaf e) ≡ in_expr e
tree_leaf e = tree-Leaf in_tree_at e

pub tree_await : (p : Bytes) → in_tree (tree.Await p) ≡ mention Wanted.parameter p ∷ []
tree_await p = tree-Await in_tree_at p

pub tree_if : (c : Cond) (a b : Tree)
    → in_tree (tree.If c a b) ≡ in_cond c ++ in_tree a ++ in_tree b
tree_if c a b = tree-If in_tree_at c a b

pub ruleset trees = (tree_leaf, tree_await, tree_if)
