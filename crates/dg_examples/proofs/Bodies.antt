-- What the bodies of the examples come to, wherever they are evaluated.
use Rattle.std.proofs.Common.{◌≡◌, refl, ap, ◌∙◌}
use Rattle.std.specs.Prelude.{ℕ, ℤ, suc, Bool, List, [], ◌∷◌}
use Rattle.dg_lex.specs.Bytes.{Bytes}
use Rattle.dg_decl.specs.declared.document.Doc.{Doc}
use Rattle.dg_decl.specs.declared.expression.CallName.TheVariants as call
use Rattle.dg_decl.specs.declared.expression.Cond.TheVariants as cond
use Rattle.dg_decl.specs.declared.expression.Expr.TheVariants as expr
use Rattle.dg_decl.specs.declared.expression.Tree.{Tree}
use Rattle.dg_decl.specs.declared.expression.Tree.TheVariants as tree
use Rattle.dg_decl.specs.declared.item.Param.{Param}
use Rattle.dg_decl.proofs.FoldEquations.{folds, expr-Int, cond-Less, tree-Leaf, tree-Await, tree-If}
use Rattle.dg_slots.specs.declared.body.NExpr.TheVariants as nexpr
use Rattle.dg_slots.specs.declared.body.NCond.TheVariants as ncond
use Rattle.dg_slots.specs.declared.body.NTree.{NTree}
use Rattle.dg_slots.specs.declared.body.NTree.TheOpen.{NTree-F}
use Rattle.dg_slots.specs.declared.body.NTree.TheVariants as ntree
use Rattle.dg_slots.specs.Numbered.{param_number, numbered, numbered_expr, numbered_cond, numbered_tree, numbered_at, numbered_cond_at, numbered_tree_at}
use Rattle.dg_value.specs.declared.place.Place.{Place}
use Rattle.dg_value.specs.declared.value.Value.{Value}
use Rattle.dg_value.specs.declared.value.Value.TheVariants as value
use Rattle.dg_eval.specs.Runs.{gives, and_then, failed}
use Rattle.dg_eval.specs.Bodies.{End, Around, Part, plain, of_two, chosen, value_end, cond_at, expr_at, expr_part, cond_part, tree_at, tree_part}
use Rattle.dg_eval.specs.Operations.{less_in}
use Rattle.dg_eval.specs.Meaning.{Eval, around}
use Rattle.dg_examples.proofs.Words.{evaluates}
use Rattle.dg_examples.proofs.BodyFolds.{bodies, part-Int, part-Less, part-Leaf, part-Await, part-If}

-- `fail("..")`
pub fail_runs : (doc : Doc) (below : Eval) (d k : ℕ) (q : Place) (vs : List Value) (message : Bytes)
    → (tree_part (ntree.Leaf (numbered_expr doc []
    (expr.Call call.Fail (expr.Text message ∷ []))))).run (around doc below (suc d) k q vs) 0 0
    ≡ failed k message
unfolding evaluates
fail_runs doc below d k q vs message = simp bodies refl

-- an integer
pub integer_runs : (doc : Doc) (params : List Param) (below : Eval) (d k : ℕ) (q : Place)
    (vs : List Value) (n : ℤ)
    → (tree_part (numbered_tree doc params (tree.Leaf (expr.Int n)))).run
    (around doc below (suc d) k q vs) 0 0
    ≡ gives (value_end (value.Int n))
unfolding evaluates
integer_runs doc params below d k q vs n = simp (bodies, folds) refl

-- ---- a tree with two arms

-- an integer as a part of a body
abbrev pub integer_part : ℤ → Part Value
integer_part n = plain (λ s. gives (value.Int n))

integer_is : (n : ℤ) → expr_part (nexpr.Int n) ≡ integer_part n
unfolding expr_part
integer_is n = part-Int cond_at expr_at n

-- whether one part gives less than another
abbrev pub less : Part Value → Part Value → Part Bool
less x y = of_two x y (λ s. less_in)

less_is : (a b : ℤ) → cond_part (ncond.Less (nexpr.Int a) (nexpr.Int b))
    ≡ less (integer_part a) (integer_part b)
unfolding cond_part expr_part
less_is a b =
    part-Less cond_at expr_at (nexpr.Int a) (nexpr.Int b)
    ∙ ap (λ x. less x (expr_part (nexpr.Int b))) (integer_is a)
    ∙ ap (less (integer_part a)) (integer_is b)

-- an `await` of a parameter as a part
abbrev pub await_part : ℕ → Part End
await_part p = tree_at (NTree-F.Await p)

-- a part as a leaf
abbrev pub leaf_of : Part Value → Part End
leaf_of x = record {
  news = x.news;
  called = x.called;
  run = λ s n c. and_then (x.run s n c) (λ v. gives (value_end v));
}

-- `if A < B then await P else N`, by numbers
abbrev tree_by_numbers : ℤ → ℤ → ℕ → ℤ → NTree
tree_by_numbers a b p n =
    ntree.If (ncond.Less (nexpr.Int a) (nexpr.Int b)) (ntree.Await p) (ntree.Leaf (nexpr.Int n))

abbrev pub tree_as_part : ℤ → ℤ → ℕ → ℤ → Part End
tree_as_part a b p n =
    chosen (less (integer_part a) (integer_part b)) (await_part p) (leaf_of (integer_part n))

tree_is : (a b : ℤ) (p : ℕ) (n : ℤ) → tree_part (tree_by_numbers a b p n) ≡ tree_as_part a b p n
unfolding tree_part
tree_is a b p n =
    part-If tree_at (ncond.Less (nexpr.Int a) (nexpr.Int b)) (ntree.Await p)
    (ntree.Leaf (nexpr.Int n))
    ∙ ap (λ x. chosen x (tree_part (ntree.Await p)) (tree_part (ntree.Leaf (nexpr.Int n))))
    (less_is a b)
    ∙ ap (λ x. chosen (less (integer_part a) (integer_part b)) x
    (tree_part (ntree.Leaf (nexpr.Int n))))
    (part-Await tree_at p)
    ∙ ap (chosen (less (integer_part a) (integer_part b)) (await_part p))
    (part-Leaf tree_at (nexpr.Int n) ∙ ap leaf_of (integer_is n))

-- `if A < B then await P else N`
abbrev pub choice : ℤ → ℤ → Param → ℤ → Tree
choice a b p n =
    tree.If (cond.Less (expr.Int a) (expr.Int b)) (tree.Await p.name) (tree.Leaf (expr.Int n))

numbered_integer : (doc : Doc) (params : List Param) (n : ℤ)
    → numbered_expr doc params (expr.Int n) ≡ nexpr.Int n
unfolding numbered
numbered_integer doc params n =
    ap (λ x. x.expr) (expr-Int (numbered_cond_at params) (numbered_at doc params) n)

numbered_less : (doc : Doc) (params : List Param) (a b : ℤ)
    → numbered_cond doc params (cond.Less (expr.Int a) (expr.Int b))
    ≡ ncond.Less (nexpr.Int a) (nexpr.Int b)
unfolding numbered numbered_cond
numbered_less doc params a b =
    cond-Less (numbered_cond_at params) (numbered_at doc params) (expr.Int a) (expr.Int b)
    ∙ ap (λ x. ncond.Less x (numbered_expr doc params (expr.Int b))) (numbered_integer doc params a)
    ∙ ap (ncond.Less (nexpr.Int a)) (numbered_integer doc params b)

numbered_choice : (doc : Doc) (params : List Param) (a b : ℤ) (p : Param) (n : ℤ)
    → numbered_tree doc params (choice a b p n)
    ≡ tree_by_numbers a b (param_number params p.name) n
unfolding numbered_tree
numbered_choice doc params a b p n =
    tree-If (numbered_tree_at doc params) (cond.Less (expr.Int a) (expr.Int b)) (tree.Await p.name)
    (tree.Leaf (expr.Int n))
    ∙ ap (λ x. ntree.If x (numbered_tree doc params (tree.Await p.name))
    (numbered_tree doc params (tree.Leaf (expr.Int n)))) (numbered_less doc params a b)
    ∙ ap (λ x. ntree.If (ncond.Less (nexpr.Int a) (nexpr.Int b)) x
    (numbered_tree doc params (tree.Leaf (expr.Int n))))
    (tree-Await (numbered_tree_at doc params) p.name)
    ∙ ap (ntree.If (ncond.Less (nexpr.Int a) (nexpr.Int b))
    (ntree.Await (param_number params p.name)))
    (tree-Leaf (numbered_tree_at doc params) (expr.Int n)
    ∙ ap ntree.Leaf (numbered_integer doc params n))

-- such a tree, wherever it is evaluated
pub choice_runs : (doc : Doc) (params : List Param) (a b : ℤ) (p : Param) (n : ℤ) (s : Around)
    → (tree_part (numbered_tree doc params (choice a b p n))).run s 0 0
    ≡ (tree_as_part a b (param_number params p.name) n).run s 0 0
choice_runs doc params a b p n s =
    ap (λ t. (tree_part t).run s 0 0) (numbered_choice doc params a b p n)
    ∙ ap (λ x. x.run s 0 0) (tree_is a b (param_number params p.name) n)
