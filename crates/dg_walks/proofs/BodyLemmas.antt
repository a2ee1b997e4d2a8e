-- What the size of each form of an expression, a condition and a tree is.
use Rattle.std.proofs.Common.{◌≡◌, ℕ, suc, ◌+◌, List, sum_by, ap, ◌∙◌}
use Rattle.std.specs.Prelude.{ℤ}
use Rattle.std.proofs.lemmas.List.Sums.{sum-map}
use Rattle.dg_decl.specs.declared.expression.CallName.{CallName}
use Rattle.dg_decl.specs.declared.expression.ParamCall.{ParamCall}
use Rattle.dg_decl.specs.declared.expression.Expr.{Expr}
use Rattle.dg_decl.specs.declared.expression.Expr.TheVariants as expr
use Rattle.dg_decl.specs.declared.expression.Cond.{Cond}
use Rattle.dg_decl.specs.declared.expression.Cond.TheVariants as cond
use Rattle.dg_decl.specs.declared.expression.Tree.{Tree}
use Rattle.dg_decl.specs.declared.expression.Tree.TheVariants as tree
use Rattle.dg_decl.specs.Bodies.{cond_size_at, expr_size_at, size_of_expr, size_of_cond}
use Rattle.dg_decl.specs.Bodies.{tree_size_at, size_of_tree}
use Rattle.dg_decl.proofs.FoldEquations as fold

pub size-Text : (t : List ℕ) → size_of_expr (expr.Text t) ≡ 1
size-Text t = fold.expr-Text cond_size_at expr_size_at t

pub size-Int : (n : ℤ) → size_of_expr (expr.Int n) ≡ 1
size-Int n = fold.expr-Int cond_size_at expr_size_at n

pub size-Param : (p : List ℕ) → size_of_expr (expr.Param p) ≡ 1
size-Param p = fold.expr-Param cond_size_at expr_size_at p

pub size-New : (c : List ℕ) (es : List Expr)
    → size_of_expr (expr.New c es) ≡ suc (sum_by size_of_expr es)
size-New c es =
    fold.expr-New cond_size_at expr_size_at c es ∙ ap (λ n. suc n) (sum-map size_of_expr es)

pub size-Field : (e : Expr) (f : List ℕ) → size_of_expr (expr.Field e f) ≡ suc (size_of_expr e)
size-Field e f = fold.expr-Field cond_size_at expr_size_at e f

pub size-Sum : (a b : Expr)
    → size_of_expr (expr.Sum a b) ≡ suc (size_of_expr a + size_of_expr b)
size-Sum a b = fold.expr-Sum cond_size_at expr_size_at a b

pub size-If : (c : Cond) (a b : Expr)
    → size_of_expr (expr.If c a b) ≡ suc (size_of_cond c + size_of_expr a + size_of_expr b)
size-If c a b = fold.expr-If cond_size_at expr_size_at c a b

pub size-Call : (f : CallName) (es : List Expr)
    → size_of_expr (expr.Call f es) ≡ suc (sum_by size_of_expr es)
size-Call f es =
    fold.expr-Call cond_size_at expr_size_at f es ∙ ap (λ n. suc n) (sum-map size_of_expr es)

pub size-ByName : (f : ParamCall) (p : List ℕ) → size_of_expr (expr.ByName f p) ≡ 1
size-ByName f p = fold.expr-ByName cond_size_at expr_size_at f p

pub size-OrElse : (p : List ℕ) (e : Expr) → size_of_expr (expr.OrElse p e) ≡ suc (size_of_expr e)
size-OrElse p e = fold.expr-OrElse cond_size_at expr_size_at p e

pub size-Equal : (a b : Expr)
    → size_of_cond (cond.Equal a b) ≡ suc (size_of_expr a + size_of_expr b)
size-Equal a b = fold.cond-Equal cond_size_at expr_size_at a b

pub size-Less : (a b : Expr)
    → size_of_cond (cond.Less a b) ≡ suc (size_of_expr a + size_of_expr b)
size-Less a b = fold.cond-Less cond_size_at expr_size_at a b

pub size-Has : (p : List ℕ) → size_of_cond (cond.Has p) ≡ 1
size-Has p = fold.cond-Has cond_size_at expr_size_at p

pub size-IsOk : (p : List ℕ) → size_of_cond (cond.IsOk p) ≡ 1
size-IsOk p = fold.cond-IsOk cond_size_at expr_size_at p

pub size-Leaf : (e : Expr) → size_of_tree (tree.Leaf e) ≡ size_of_expr e
size-Leaf e = fold.tree-Leaf tree_size_at e

pub size-Await : (p : List ℕ) → size_of_tree (tree.Await p) ≡ 1
size-Await p = fold.tree-Await tree_size_at p

pub size-Choice : (c : Cond) (a b : Tree)
    → size_of_tree (tree.If c a b) ≡ suc (size_of_cond c + size_of_tree a + size_of_tree b)
size-Choice c a b = fold.tree-If tree_size_at c a b

pub ruleset sizes = (
  size-Text,
  size-Int,
  size-Param,
  size-New,
  size-Field,
  size-Sum,
  size-If,
  size-Call,
  size-ByName,
  size-OrElse,
  size-Equal,
  size-Less,
  size-Has,
  size-IsOk,
  size-Leaf,
  size-Await,
  size-Choice,
)
