-- Expressions, conditions and trees by numbers, by their forms.
use Rattle.std.proofs.Common.{◌≡◌, ℤ, List, map, Some, None, ap}
use Rattle.dg_lex.specs.Bytes.{Bytes}
use Rattle.dg_decl.specs.declared.document.Doc.{Doc}
use Rattle.dg_decl.specs.declared.item.Param.{Param}
use Rattle.dg_decl.specs.declared.expression.CallName.{CallName}
use Rattle.dg_decl.specs.declared.expression.ParamCall.{ParamCall}
use Rattle.dg_decl.specs.declared.expression.Expr.{Expr}
use Rattle.dg_decl.specs.declared.expression.Expr.TheVariants as expr
use Rattle.dg_decl.specs.declared.expression.Cond.{Cond}
use Rattle.dg_decl.specs.declared.expression.Cond.TheVariants as cond
use Rattle.dg_decl.specs.declared.expression.Cond.TheOpen.{Expr-F}
use Rattle.dg_decl.specs.declared.expression.Tree.{Tree}
use Rattle.dg_decl.specs.declared.expression.Tree.TheVariants as tree
use Rattle.dg_decl.specs.Typing.{type_of_param, type_by_name, part, inside_at}
use Rattle.dg_decl.proofs.FoldEquations.{expr-Text, expr-Int, expr-Param, expr-New, expr-Field, expr-Sum, expr-If, expr-Call, expr-ByName, expr-OrElse, cond-Equal, cond-Less, cond-Has, cond-IsOk, tree-Leaf, tree-Await, tree-If}
use Rattle.dg_slots.specs.declared.body.NExpr.TheVariants as nexpr
use Rattle.dg_slots.specs.declared.body.NCond.TheVariants as ncond
use Rattle.dg_slots.specs.declared.body.NTree.TheVariants as ntree
use Rattle.dg_slots.specs.Numbered.{Numbered, numbered, numbered_at, numbered_cond, numbered_cond_at, numbered_tree, numbered_tree_at, numbered_expr, exprs, param_number, class_number, field_number, field_type, class_in}

numbered-Text : (d : Doc) (ps : List Param) (t : Bytes)
    → numbered d ps (expr.Text t)
    ≡ numbered_at d ps (Expr-F.Text t)
unfolding numbered
numbered-Text d ps t = expr-Text (numbered_cond_at ps) (numbered_at d ps) t

numbered-Int : (d : Doc) (ps : List Param) (n : ℤ)
    → numbered d ps (expr.Int n)
    ≡ numbered_at d ps (Expr-F.Int n)
unfolding numbered
numbered-Int d ps n = expr-Int (numbered_cond_at ps) (numbered_at d ps) n

numbered-Param : (d : Doc) (ps : List Param) (p : Bytes)
    → numbered d ps (expr.Param p)
    ≡ numbered_at d ps (Expr-F.Param p)
unfolding numbered
numbered-Param d ps p = expr-Param (numbered_cond_at ps) (numbered_at d ps) p

numbered-New : (d : Doc) (ps : List Param) (c : Bytes) (xs : List Expr)
    → numbered d ps (expr.New c xs)
    ≡ numbered_at d ps (Expr-F.New c (map (numbered d ps) xs))
unfolding numbered
numbered-New d ps c xs = expr-New (numbered_cond_at ps) (numbered_at d ps) c xs

numbered-Field : (d : Doc) (ps : List Param) (e : Expr) (n : Bytes)
    → numbered d ps (expr.Field e n)
    ≡ numbered_at d ps (Expr-F.Field (numbered d ps e) n)
unfolding numbered
numbered-Field d ps e n = expr-Field (numbered_cond_at ps) (numbered_at d ps) e n

numbered-Sum : (d : Doc) (ps : List Param) (a b : Expr)
    → numbered d ps (expr.Sum a b)
    ≡ numbered_at d ps (Expr-F.Sum (numbered d ps a) (numbered d ps b))
unfolding numbered
numbered-Sum d ps a b = expr-Sum (numbered_cond_at ps) (numbered_at d ps) a b

numbered-If : (d : Doc) (ps : List Param) (c : Cond) (a b : Expr)
    → numbered d ps (expr.If c a b)
    ≡ numbered_at d ps (Expr-F.If (numbered_cond d ps c) (numbered d ps a) (numbered d ps b))
unfolding numbered numbered_cond
numbered-If d ps c a b = expr-If (numbered_cond_at ps) (numbered_at d ps) c a b

numbered-Call : (d : Doc) (ps : List Param) (f : CallName) (xs : List Expr)
    → numbered d ps (expr.Call f xs)
    ≡ numbered_at d ps (Expr-F.Call f (map (numbered d ps) xs))
unfolding numbered
numbered-Call d ps f xs = expr-Call (numbered_cond_at ps) (numbered_at d ps) f xs

numbered-ByName : (d : Doc) (ps : List Param) (f : ParamCall) (p : Bytes)
    → numbered d ps (expr.ByName f p)
    ≡ numbered_at d ps (Expr-F.ByName f p)
unfolding numbered
numbered-ByName d ps f p = expr-ByName (numbered_cond_at ps) (numbered_at d ps) f p

numbered-OrElse : (d : Doc) (ps : List Param) (p : Bytes) (e : Expr)
    → numbered d ps (expr.OrElse p e)
    ≡ numbered_at d ps (Expr-F.OrElse p (numbered d ps e))
unfolding numbered
numbered-OrElse d ps p e = expr-OrElse (numbered_cond_at ps) (numbered_at d ps) p e

-- ---- the classes of their types

pub class-Text : (d : Doc) (ps : List Param) (t : Bytes)
    → (numbered d ps (expr.Text t)).class
    ≡ None
class-Text d ps t = ap (λ (x : Numbered). x.class) (numbered-Text d ps t)

pub class-Int : (d : Doc) (ps : List Param) (n : ℤ)
    → (numbered d ps (expr.Int n)).class
    ≡ None
class-Int d ps n = ap (λ (x : Numbered). x.class) (numbered-Int d ps n)

pub class-Param : (d : Doc) (ps : List Param) (p : Bytes)
    → (numbered d ps (expr.Param p)).class
    ≡ class_in (type_of_param ps p)
class-Param d ps p = ap (λ (x : Numbered). x.class) (numbered-Param d ps p)

pub class-New : (d : Doc) (ps : List Param) (c : Bytes) (xs : List Expr)
    → (numbered d ps (expr.New c xs)).class
    ≡ Some c
class-New d ps c xs = ap (λ (x : Numbered). x.class) (numbered-New d ps c xs)

pub class-Field : (d : Doc) (ps : List Param) (e : Expr) (n : Bytes)
    → (numbered d ps (expr.Field e n)).class
    ≡ class_in (field_type d (numbered d ps e).class n)
class-Field d ps e n = ap (λ (x : Numbered). x.class) (numbered-Field d ps e n)

pub class-Sum : (d : Doc) (ps : List Param) (a b : Expr)
    → (numbered d ps (expr.Sum a b)).class
    ≡ None
class-Sum d ps a b = ap (λ (x : Numbered). x.class) (numbered-Sum d ps a b)

pub class-If : (d : Doc) (ps : List Param) (c : Cond) (a b : Expr)
    → (numbered d ps (expr.If c a b)).class
    ≡ None
class-If d ps c a b = ap (λ (x : Numbered). x.class) (numbered-If d ps c a b)

pub class-Call : (d : Doc) (ps : List Param) (f : CallName) (xs : List Expr)
    → (numbered d ps (expr.Call f xs)).class
    ≡ None
class-Call d ps f xs = ap (λ (x : Numbered). x.class) (numbered-Call d ps f xs)

pub class-ByName : (d : Doc) (ps : List Param) (f : ParamCall) (p : Bytes)
    → (numbered d ps (expr.ByName f p)).class
    ≡ class_in (type_by_name ps f p)
class-ByName d ps f p = ap (λ (x : Numbered). x.class) (numbered-ByName d ps f p)

pub class-OrElse : (d : Doc) (ps : List Param) (p : Bytes) (e : Expr)
    → (numbered d ps (expr.OrElse p e)).class
    ≡ class_in (part inside_at (type_of_param ps p))
class-OrElse d ps p e = ap (λ (x : Numbered). x.class) (numbered-OrElse d ps p e)

pub ruleset classes = (
  class-Text,
  class-Int,
  class-Param,
  class-New,
  class-Field,
  class-Sum,
  class-If,
  class-Call,
  class-ByName,
  class-OrElse,
)

-- ---- the expressions

pub expr_is-Text : (d : Doc) (ps : List Param) (t : Bytes)
    → (numbered d ps (expr.Text t)).expr
    ≡ nexpr.Text t
expr_is-Text d ps t = ap (λ (x : Numbered). x.expr) (numbered-Text d ps t)

pub expr_is-Int : (d : Doc) (ps : List Param) (n : ℤ)
    → (numbered d ps (expr.Int n)).expr
    ≡ nexpr.Int n
expr_is-Int d ps n = ap (λ (x : Numbered). x.expr) (numbered-Int d ps n)

pub expr_is-Param : (d : Doc) (ps : List Param) (p : Bytes)
    → (numbered d ps (expr.Param p)).expr
    ≡ nexpr.Param (param_number ps p)
expr_is-Param d ps p = ap (λ (x : Numbered). x.expr) (numbered-Param d ps p)

pub expr_is-New : (d : Doc) (ps : List Param) (c : Bytes) (xs : List Expr)
    → (numbered d ps (expr.New c xs)).expr
    ≡ nexpr.New (class_number d c) (exprs (map (numbered d ps) xs))
expr_is-New d ps c xs = ap (λ (x : Numbered). x.expr) (numbered-New d ps c xs)

pub expr_is-Field : (d : Doc) (ps : List Param) (e : Expr) (n : Bytes)
    → (numbered d ps (expr.Field e n)).expr
    ≡ nexpr.Field (numbered d ps e).expr (field_number d (numbered d ps e).class n)
expr_is-Field d ps e n = ap (λ (x : Numbered). x.expr) (numbered-Field d ps e n)

pub expr_is-Sum : (d : Doc) (ps : List Param) (a b : Expr)
    → (numbered d ps (expr.Sum a b)).expr
    ≡ nexpr.Sum (numbered d ps a).expr (numbered d ps b).expr
expr_is-Sum d ps a b = ap (λ (x : Numbered). x.expr) (numbered-Sum d ps a b)

pub expr_is-If : (d : Doc) (ps : List Param) (c : Cond) (a b : Expr)
    → (numbered d ps (expr.If c a b)).expr
    ≡ nexpr.If (numbered_cond d ps c) (numbered d ps a).expr (numbered d ps b).expr
expr_is-If d ps c a b = ap (λ (x : Numbered). x.expr) (numbered-If d ps c a b)

pub expr_is-Call : (d : Doc) (ps : List Param) (f : CallName) (xs : List Expr)
    → (numbered d ps (expr.Call f xs)).expr
    ≡ nexpr.Call f (exprs (map (numbered d ps) xs))
expr_is-Call d ps f xs = ap (λ (x : Numbered). x.expr) (numbered-Call d ps f xs)

pub expr_is-ByName : (d : Doc) (ps : List Param) (f : ParamCall) (p : Bytes)
    → (numbered d ps (expr.ByName f p)).expr
    ≡ nexpr.ByName f (param_number ps p)
expr_is-ByName d ps f p = ap (λ (x : Numbered). x.expr) (numbered-ByName d ps f p)

pub expr_is-OrElse : (d : Doc) (ps : List Param) (p : Bytes) (e : Expr)
    → (numbered d ps (expr.OrElse p e)).expr
    ≡ nexpr.OrElse (param_number ps p) (numbered d ps e).expr
expr_is-OrElse d ps p e = ap (λ (x : Numbered). x.expr) (numbered-OrElse d ps p e)

pub ruleset expressions = (
  expr_is-Text,
  expr_is-Int,
  expr_is-Param,
  expr_is-New,
  expr_is-Field,
  expr_is-Sum,
  expr_is-If,
  expr_is-Call,
  expr_is-ByName,
  expr_is-OrElse,
)

-- ---- conditions

pub cond_is-Equal : (d : Doc) (ps : List Param) (a b : Expr)
    → numbered_cond d ps (cond.Equal a b)
    ≡ ncond.Equal (numbered d ps a).expr (numbered d ps b).expr
unfolding numbered_cond numbered
cond_is-Equal d ps a b = cond-Equal (numbered_cond_at ps) (numbered_at d ps) a b

pub cond_is-Less : (d : Doc) (ps : List Param) (a b : Expr)
    → numbered_cond d ps (cond.Less a b)
    ≡ ncond.Less (numbered d ps a).expr (numbered d ps b).expr
unfolding numbered_cond numbered
cond_is-Less d ps a b = cond-Less (numbered_cond_at ps) (numbered_at d ps) a b

pub cond_is-Has : (d : Doc) (ps : List Param) (p : Bytes)
    → numbered_cond d ps (cond.Has p)
    ≡ ncond.Has (param_number ps p)
unfolding numbered_cond numbered
cond_is-Has d ps p = cond-Has (numbered_cond_at ps) (numbered_at d ps) p

pub cond_is-IsOk : (d : Doc) (ps : List Param) (p : Bytes)
    → numbered_cond d ps (cond.IsOk p)
    ≡ ncond.IsOk (param_number ps p)
unfolding numbered_cond numbered
cond_is-IsOk d ps p = cond-IsOk (numbered_cond_at ps) (numbered_at d ps) p

pub ruleset conditions = (cond_is-Equal, cond_is-Less, cond_is-Has, cond_is-IsOk)

-- ---- trees

pub tree_is-Leaf : (d : Doc) (ps : List Param) (e : Expr)
    → numbered_tree d ps (tree.Leaf e)
    ≡ ntree.Leaf (numbered_expr d ps e)
unfolding numbered_tree
tree_is-Leaf d ps e = tree-Leaf (numbered_tree_at d ps) e

pub tree_is-Await : (d : Doc) (ps : List Param) (p : Bytes)
    → numbered_tree d ps (tree.Await p)
    ≡ ntree.Await (param_number ps p)
unfolding numbered_tree
tree_is-Await d ps p = tree-Await (numbered_tree_at d ps) p

pub tree_is-If : (d : Doc) (ps : List Param) (c : Cond) (a b : Tree)
    → numbered_tree d ps (tree.If c a b)
    ≡ ntree.If (numbered_cond d ps c) (numbered_tree d ps a) (numbered_tree d ps b)
unfolding numbered_tree
tree_is-If d ps c a b = tree-If (numbered_tree_at d ps) c a b

pub ruleset trees = (tree_is-Leaf, tree_is-Await, tree_is-If)
