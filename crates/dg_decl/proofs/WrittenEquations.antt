-- How deep each form nests, and how it is written, from its parts.
use Rattle.std.proofs.Common.{◌≡◌, ℕ, suc, List, map, max, sym, ap, ◌∙◌}
use Rattle.std.specs.Prelude.{ℤ}
use Rattle.dg_types.specs.declared.shape.Shape.{Shape}
use Rattle.dg_types.specs.declared.shape.Shape.TheVariants as shape
use Rattle.dg_types.specs.declared.shape.Shape.TheOpen.{Shape-F}
use Rattle.dg_types.specs.declared.shape.Shape.TheFolds.{fold-roll-Shape}
use Rattle.dg_lex.specs.Bytes.{Bytes}
use Rattle.dg_decl.specs.declared.expression.CallName.{CallName}
use Rattle.dg_decl.specs.declared.expression.ParamCall.{ParamCall}
use Rattle.dg_decl.specs.declared.expression.Expr.{Expr}
use Rattle.dg_decl.specs.declared.expression.Expr.TheVariants as expr
use Rattle.dg_decl.specs.declared.expression.Cond.{Cond}
use Rattle.dg_decl.specs.declared.expression.Cond.TheVariants as cond
use Rattle.dg_decl.specs.declared.expression.Tree.{Tree}
use Rattle.dg_decl.specs.declared.expression.Tree.TheVariants as tree
use Rattle.dg_decl.specs.declared.expression.Cond.TheOpen.{Cond-F, Expr-F}
use Rattle.dg_decl.specs.declared.expression.Cond.TheFolds.{fold-roll-Cond, fold-roll-Expr}
use Rattle.dg_decl.specs.declared.expression.Tree.TheOpen.{Tree-F}
use Rattle.dg_decl.specs.declared.expression.Tree.TheFolds.{fold-roll-Tree}
use Rattle.dg_decl.specs.ExpressionForms.{greatest, expression_nests, condition_nests, tree_nests, nesting, condition_nesting, tree_nesting}
use Rattle.dg_decl.specs.Written.{WrittenType, type_written, written_type, Written, WrittenCondition, expression_written, condition_written, written, written_condition, WrittenTree, tree_written, written_tree}

-- ---- nesting

pub nesting-Text : (t : Bytes) → nesting (expr.Text t) ≡ 1
unfolding nesting condition_nesting
nesting-Text t = ap nesting (sym (expr.rolls-Text t)) ∙ fold-roll-Expr ℕ ℕ condition_nests expression_nests (Expr-F.Text t)

pub nesting-Int : (n : ℤ) → nesting (expr.Int n) ≡ 1
unfolding nesting condition_nesting
nesting-Int n = ap nesting (sym (expr.rolls-Int n)) ∙ fold-roll-Expr ℕ ℕ condition_nests expression_nests (Expr-F.Int n)

pub nesting-Param : (p : Bytes) → nesting (expr.Param p) ≡ 1
unfolding nesting condition_nesting
nesting-Param p = ap nesting (sym (expr.rolls-Param p)) ∙ fold-roll-Expr ℕ ℕ condition_nests expression_nests (Expr-F.Param p)

pub nesting-New : (c : Bytes) (xs : List Expr) → nesting (expr.New c xs) ≡ suc (greatest (map nesting xs))
unfolding nesting condition_nesting
nesting-New c xs = ap nesting (sym (expr.rolls-New c xs)) ∙ fold-roll-Expr ℕ ℕ condition_nests expression_nests (Expr-F.New c xs)

pub nesting-Field : (e : Expr) (f : Bytes) → nesting (expr.Field e f) ≡ suc (nesting e)
unfolding nesting condition_nesting
nesting-Field e f = ap nesting (sym (expr.rolls-Field e f)) ∙ fold-roll-Expr ℕ ℕ condition_nests expression_nests (Expr-F.Field e f)

pub nesting-Sum : (a b : Expr) → nesting (expr.Sum a b) ≡ suc (max (nesting a) (nesting b))
unfolding nesting condition_nesting
nesting-Sum a b = ap nesting (sym (expr.rolls-Sum a b)) ∙ fold-roll-Expr ℕ ℕ condition_nests expression_nests (Expr-F.Sum a b)

pub nesting-If : (c : Cond) (a b : Expr) → nesting (expr.If c a b) ≡ suc (max (condition_nesting c) (max (nesting a) (nesting b)))
unfolding nesting condition_nesting
nesting-If c a b = ap nesting (sym (expr.rolls-If c a b)) ∙ fold-roll-Expr ℕ ℕ condition_nests expression_nests (Expr-F.If c a b)

pub nesting-Call : (f : CallName) (xs : List Expr) → nesting (expr.Call f xs) ≡ suc (greatest (map nesting xs))
unfolding nesting condition_nesting
nesting-Call f xs = ap nesting (sym (expr.rolls-Call f xs)) ∙ fold-roll-Expr ℕ ℕ condition_nests expression_nests (Expr-F.Call f xs)

pub nesting-ByName : (f : ParamCall) (p : Bytes) → nesting (expr.ByName f p) ≡ 1
unfolding nesting condition_nesting
nesting-ByName f p = ap nesting (sym (expr.rolls-ByName f p)) ∙ fold-roll-Expr ℕ ℕ condition_nests expression_nests (Expr-F.ByName f p)

pub nesting-OrElse : (p : Bytes) (e : Expr) → nesting (expr.OrElse p e) ≡ suc (nesting e)
unfolding nesting condition_nesting
nesting-OrElse p e = ap nesting (sym (expr.rolls-OrElse p e)) ∙ fold-roll-Expr ℕ ℕ condition_nests expression_nests (Expr-F.OrElse p e)

pub nesting-Equal : (a b : Expr) → condition_nesting (cond.Equal a b) ≡ suc (max (nesting a) (nesting b))
unfolding nesting condition_nesting
nesting-Equal a b = ap condition_nesting (sym (cond.rolls-Equal a b)) ∙ fold-roll-Cond ℕ ℕ condition_nests expression_nests (Cond-F.Equal a b)

pub nesting-Less : (a b : Expr) → condition_nesting (cond.Less a b) ≡ suc (max (nesting a) (nesting b))
unfolding nesting condition_nesting
nesting-Less a b = ap condition_nesting (sym (cond.rolls-Less a b)) ∙ fold-roll-Cond ℕ ℕ condition_nests expression_nests (Cond-F.Less a b)

pub nesting-Has : (p : Bytes) → condition_nesting (cond.Has p) ≡ 1
unfolding nesting condition_nesting
nesting-Has p = ap condition_nesting (sym (cond.rolls-Has p)) ∙ fold-roll-Cond ℕ ℕ condition_nests expression_nests (Cond-F.Has p)

pub nesting-IsOk : (p : Bytes) → condition_nesting (cond.IsOk p) ≡ 1
unfolding nesting condition_nesting
nesting-IsOk p = ap condition_nesting (sym (cond.rolls-IsOk p)) ∙ fold-roll-Cond ℕ ℕ condition_nests expression_nests (Cond-F.IsOk p)

pub tree_nesting-Leaf : (e : Expr) → tree_nesting (tree.Leaf e) ≡ nesting e
unfolding tree_nesting
tree_nesting-Leaf e = ap tree_nesting (sym (tree.rolls-Leaf e)) ∙ fold-roll-Tree ℕ tree_nests (Tree-F.Leaf e)

pub tree_nesting-Await : (p : Bytes) → tree_nesting (tree.Await p) ≡ 1
unfolding tree_nesting
tree_nesting-Await p = ap tree_nesting (sym (tree.rolls-Await p)) ∙ fold-roll-Tree ℕ tree_nests (Tree-F.Await p)

pub tree_nesting-If : (c : Cond) (a b : Tree) → tree_nesting (tree.If c a b) ≡ suc (max (condition_nesting c) (max (tree_nesting a) (tree_nesting b)))
unfolding tree_nesting
tree_nesting-If c a b = ap tree_nesting (sym (tree.rolls-If c a b)) ∙ fold-roll-Tree ℕ tree_nests (Tree-F.If c a b)

-- ---- how it is written

pub written-Text : (t : Bytes) → written (expr.Text t) ≡ expression_written (Expr-F.Text t)
unfolding written written_condition
written-Text t = ap written (sym (expr.rolls-Text t)) ∙ fold-roll-Expr WrittenCondition Written condition_written expression_written (Expr-F.Text t)

pub written-Int : (n : ℤ) → written (expr.Int n) ≡ expression_written (Expr-F.Int n)
unfolding written written_condition
written-Int n = ap written (sym (expr.rolls-Int n)) ∙ fold-roll-Expr WrittenCondition Written condition_written expression_written (Expr-F.Int n)

pub written-Param : (p : Bytes) → written (expr.Param p) ≡ expression_written (Expr-F.Param p)
unfolding written written_condition
written-Param p = ap written (sym (expr.rolls-Param p)) ∙ fold-roll-Expr WrittenCondition Written condition_written expression_written (Expr-F.Param p)

pub written-New : (c : Bytes) (xs : List Expr) → written (expr.New c xs) ≡ expression_written (Expr-F.New c (map written xs))
unfolding written written_condition
written-New c xs = ap written (sym (expr.rolls-New c xs)) ∙ fold-roll-Expr WrittenCondition Written condition_written expression_written (Expr-F.New c xs)

pub written-Field : (e : Expr) (f : Bytes) → written (expr.Field e f) ≡ expression_written (Expr-F.Field (written e) f)
unfolding written written_condition
written-Field e f = ap written (sym (expr.rolls-Field e f)) ∙ fold-roll-Expr WrittenCondition Written condition_written expression_written (Expr-F.Field e f)

pub written-Sum : (a b : Expr) → written (expr.Sum a b) ≡ expression_written (Expr-F.Sum (written a) (written b))
unfolding written written_condition
written-Sum a b = ap written (sym (expr.rolls-Sum a b)) ∙ fold-roll-Expr WrittenCondition Written condition_written expression_written (Expr-F.Sum a b)

pub written-If : (c : Cond) (a b : Expr) → written (expr.If c a b) ≡ expression_written (Expr-F.If (written_condition c) (written a) (written b))
unfolding written written_condition
written-If c a b = ap written (sym (expr.rolls-If c a b)) ∙ fold-roll-Expr WrittenCondition Written condition_written expression_written (Expr-F.If c a b)

pub written-Call : (f : CallName) (xs : List Expr) → written (expr.Call f xs) ≡ expression_written (Expr-F.Call f (map written xs))
unfolding written written_condition
written-Call f xs = ap written (sym (expr.rolls-Call f xs)) ∙ fold-roll-Expr WrittenCondition Written condition_written expression_written (Expr-F.Call f xs)

pub written-ByName : (f : ParamCall) (p : Bytes) → written (expr.ByName f p) ≡ expression_written (Expr-F.ByName f p)
unfolding written written_condition
written-ByName f p = ap written (sym (expr.rolls-ByName f p)) ∙ fold-roll-Expr WrittenCondition Written condition_written expression_written (Expr-F.ByName f p)

pub written-OrElse : (p : Bytes) (e : Expr) → written (expr.OrElse p e) ≡ expression_written (Expr-F.OrElse p (written e))
unfolding written written_condition
written-OrElse p e = ap written (sym (expr.rolls-OrElse p e)) ∙ fold-roll-Expr WrittenCondition Written condition_written expression_written (Expr-F.OrElse p e)

pub written-Equal : (a b : Expr) → written_condition (cond.Equal a b) ≡ condition_written (Cond-F.Equal (written a) (written b))
unfolding written written_condition
written-Equal a b = ap written_condition (sym (cond.rolls-Equal a b)) ∙ fold-roll-Cond WrittenCondition Written condition_written expression_written (Cond-F.Equal a b)

pub written-Less : (a b : Expr) → written_condition (cond.Less a b) ≡ condition_written (Cond-F.Less (written a) (written b))
unfolding written written_condition
written-Less a b = ap written_condition (sym (cond.rolls-Less a b)) ∙ fold-roll-Cond WrittenCondition Written condition_written expression_written (Cond-F.Less a b)

pub written-Has : (p : Bytes) → written_condition (cond.Has p) ≡ condition_written (Cond-F.Has p)
unfolding written written_condition
written-Has p = ap written_condition (sym (cond.rolls-Has p)) ∙ fold-roll-Cond WrittenCondition Written condition_written expression_written (Cond-F.Has p)

pub written-IsOk : (p : Bytes) → written_condition (cond.IsOk p) ≡ condition_written (Cond-F.IsOk p)
unfolding written written_condition
written-IsOk p = ap written_condition (sym (cond.rolls-IsOk p)) ∙ fold-roll-Cond WrittenCondition Written condition_written expression_written (Cond-F.IsOk p)

pub written_tree-Leaf : (e : Expr) → written_tree (tree.Leaf e) ≡ tree_written (Tree-F.Leaf e)
unfolding written_tree
written_tree-Leaf e = ap written_tree (sym (tree.rolls-Leaf e)) ∙ fold-roll-Tree WrittenTree tree_written (Tree-F.Leaf e)

pub written_tree-Await : (p : Bytes) → written_tree (tree.Await p) ≡ tree_written (Tree-F.Await p)
unfolding written_tree
written_tree-Await p = ap written_tree (sym (tree.rolls-Await p)) ∙ fold-roll-Tree WrittenTree tree_written (Tree-F.Await p)

pub written_tree-If : (c : Cond) (a b : Tree) → written_tree (tree.If c a b) ≡ tree_written (Tree-F.If c (written_tree a) (written_tree b))
unfolding written_tree
written_tree-If c a b = ap written_tree (sym (tree.rolls-If c a b)) ∙ fold-roll-Tree WrittenTree tree_written (Tree-F.If c a b)

pub written_type-Text : written_type shape.Text ≡ type_written Shape-F.Text
unfolding written_type
written_type-Text = ap written_type (sym shape.rolls-Text) ∙ fold-roll-Shape WrittenType type_written Shape-F.Text

pub written_type-Int : written_type shape.Int ≡ type_written Shape-F.Int
unfolding written_type
written_type-Int = ap written_type (sym shape.rolls-Int) ∙ fold-roll-Shape WrittenType type_written Shape-F.Int

pub written_type-Named : (n : Bytes) → written_type (shape.Named n) ≡ type_written (Shape-F.Named n)
unfolding written_type
written_type-Named n = ap written_type (sym (shape.rolls-Named n)) ∙ fold-roll-Shape WrittenType type_written (Shape-F.Named n)

pub written_type-Set : (t : Shape) → written_type (shape.Set t) ≡ type_written (Shape-F.Set (written_type t))
unfolding written_type
written_type-Set t = ap written_type (sym (shape.rolls-Set t)) ∙ fold-roll-Shape WrittenType type_written (Shape-F.Set t)

pub written_type-Map : (k v : Shape) → written_type (shape.Map k v) ≡ type_written (Shape-F.Map (written_type k) (written_type v))
unfolding written_type
written_type-Map k v = ap written_type (sym (shape.rolls-Map k v)) ∙ fold-roll-Shape WrittenType type_written (Shape-F.Map k v)

pub written_type-Optional : (t : Shape) → written_type (shape.Optional t) ≡ type_written (Shape-F.Optional (written_type t))
unfolding written_type
written_type-Optional t = ap written_type (sym (shape.rolls-Optional t)) ∙ fold-roll-Shape WrittenType type_written (Shape-F.Optional t)

pub written_type-Provider : (t : Shape) → written_type (shape.Provider t) ≡ type_written (Shape-F.Provider (written_type t))
unfolding written_type
written_type-Provider t = ap written_type (sym (shape.rolls-Provider t)) ∙ fold-roll-Shape WrittenType type_written (Shape-F.Provider t)

pub written_type-Lazy : (t : Shape) → written_type (shape.Lazy t) ≡ type_written (Shape-F.Lazy (written_type t))
unfolding written_type
written_type-Lazy t = ap written_type (sym (shape.rolls-Lazy t)) ∙ fold-roll-Shape WrittenType type_written (Shape-F.Lazy t)

pub written_type-Producer : (t : Shape) → written_type (shape.Producer t) ≡ type_written (Shape-F.Producer (written_type t))
unfolding written_type
written_type-Producer t = ap written_type (sym (shape.rolls-Producer t)) ∙ fold-roll-Shape WrittenType type_written (Shape-F.Producer t)

pub written_type-Produced : (t : Shape) → written_type (shape.Produced t) ≡ type_written (Shape-F.Produced (written_type t))
unfolding written_type
written_type-Produced t = ap written_type (sym (shape.rolls-Produced t)) ∙ fold-roll-Shape WrittenType type_written (Shape-F.Produced t)

-- ---- all of them

pub ruleset nesting_equations = (nesting-Text, nesting-Int, nesting-Param, nesting-New, nesting-Field, nesting-Sum, nesting-If, nesting-Call, nesting-ByName, nesting-OrElse, nesting-Equal, nesting-Less, nesting-Has, nesting-IsOk, tree_nesting-Leaf, tree_nesting-Await, tree_nesting-If)

pub ruleset written_equations = (written-Text, written-Int, written-Param, written-New, written-Field, written-Sum, written-If, written-Call, written-ByName, written-OrElse, written-Equal, written-Less, written-Has, written-IsOk, written_tree-Leaf, written_tree-Await, written_tree-If, written_type-Text, written_type-Int, written_type-Named, written_type-Set, written_type-Map, written_type-Optional, written_type-Provider, written_type-Lazy, written_type-Producer, written_type-Produced)
