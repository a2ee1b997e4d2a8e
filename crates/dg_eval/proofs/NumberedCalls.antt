-- The parameters that a body by numbers calls are the numbers of those that the body calls.
use Rattle.std.proofs.Common.{◌≡◌, ℕ, Bool, List, [], ◌∷◌, ◌++◌, map, refl, sym, ap, subst, ◌∙◌, append_assoc}
use Rattle.dg_lex.specs.Bytes.{Bytes}
use Rattle.dg_decl.specs.declared.document.Doc.{Doc}
use Rattle.dg_decl.specs.declared.item.Param.{Param}
use Rattle.dg_decl.specs.declared.expression.ParamCall.{ParamCall}
use Rattle.dg_decl.specs.declared.expression.ParamCall.TheVariants as by_name
use Rattle.dg_decl.specs.declared.expression.Expr.{Expr}
use Rattle.dg_decl.specs.declared.expression.Cond.{Cond}
use Rattle.dg_decl.specs.declared.expression.Cond.TheOpen.{Cond-F, Expr-F}
use Rattle.dg_decl.specs.declared.expression.Cond.TheViews.{roll-Cond, roll-Expr}
use Rattle.dg_decl.specs.declared.expression.Cond.TheFolds.{ind-Cond, ind-Expr, map-Cond, map-Expr, fold-roll-Cond, fold-roll-Expr}
use Rattle.dg_decl.specs.declared.expression.Tree.{Tree}
use Rattle.dg_decl.specs.declared.expression.Tree.TheOpen.{Tree-F}
use Rattle.dg_decl.specs.declared.expression.Tree.TheViews.{roll-Tree}
use Rattle.dg_decl.specs.declared.expression.Tree.TheFolds.{ind-Tree, map-Tree, fold-roll-Tree}
use Rattle.dg_decl.specs.Bodies.{cond_calls_at, called_by_name, all_of, expr_calls_at, calls_of_expr, calls_of_cond, tree_calls_at, calls_of_tree}
use Rattle.dg_slots.specs.declared.body.NExpr.{NExpr}
use Rattle.dg_slots.specs.declared.body.NExpr.TheVariants as nexpr
use Rattle.dg_slots.specs.declared.body.NCond.{NCond}
use Rattle.dg_slots.specs.declared.body.NCond.TheVariants as ncond
use Rattle.dg_slots.specs.declared.body.NCond.TheOpen.{NCond-F, NExpr-F}
use Rattle.dg_slots.specs.declared.body.NCond.TheViews.{roll-NCond, roll-NExpr}
use Rattle.dg_slots.specs.declared.body.NTree.TheViews.{roll-NTree}
use Rattle.dg_slots.specs.declared.body.NCond.TheFolds.{map-NCond, map-NExpr, fold-roll-NCond, fold-roll-NExpr}
use Rattle.dg_slots.specs.declared.body.NTree.{NTree}
use Rattle.dg_slots.specs.declared.body.NTree.TheVariants as ntree
use Rattle.dg_slots.specs.declared.body.NTree.TheOpen.{NTree-F}
use Rattle.dg_slots.specs.declared.body.NTree.TheFolds.{map-NTree, fold-roll-NTree}
use Rattle.dg_slots.specs.Numbered.{param_number, Numbered, exprs, numbered_cond_at, numbered_at, numbered, numbered_expr, numbered_cond, numbered_tree_at, numbered_tree}
use Rattle.dg_value.specs.declared.value.Value.{Value}
use Rattle.dg_eval.specs.Bodies.{End, Part, called_of, cond_at, expr_at, expr_part, cond_part, tree_at, tree_part}

-- ---- what each form calls

abbrev pub number_all : List Param → List Bytes → List ℕ
number_all params ns = map (param_number params) ns

numbers_append : (params : List Param) (xs ys : List Bytes)
    → number_all params (xs ++ ys) ≡ number_all params xs ++ number_all params ys
numbers_append params [] ys = refl
numbers_append params (x ∷ xs) ys =
    ap (λ (r : List ℕ). param_number params x ∷ r) (numbers_append params xs ys)

abbrev layer : NExpr-F NCond NExpr → Part Value
layer z = expr_at (map-NExpr NCond NExpr (Part Bool) (Part Value) cond_part expr_part z)

abbrev cond_layer : NCond-F NCond NExpr → Part Bool
cond_layer z = cond_at (map-NCond NCond NExpr (Part Bool) (Part Value) cond_part expr_part z)

abbrev tree_layer : NTree-F NTree → Part End
tree_layer z = tree_at (map-NTree NTree (Part End) tree_part z)

part_rolled : (z : NExpr-F NCond NExpr) → expr_part (roll-NExpr z) ≡ layer z
unfolding cond_part expr_part
part_rolled z = fold-roll-NExpr (Part Bool) (Part Value) cond_at expr_at z

cond_rolled : (z : NCond-F NCond NExpr) → cond_part (roll-NCond z) ≡ cond_layer z
unfolding cond_part expr_part
cond_rolled z = fold-roll-NCond (Part Bool) (Part Value) cond_at expr_at z

tree_rolled : (z : NTree-F NTree) → tree_part (roll-NTree z) ≡ tree_layer z
unfolding tree_part
tree_rolled z = fold-roll-NTree (Part End) tree_at z

-- what an expression of a form calls
called_at : (e : NExpr) (z : NExpr-F NCond NExpr) → roll-NExpr z ≡ e
    → (expr_part e).called ≡ (layer z).called
called_at e z is = ap (λ (p : Part Value). p.called) (ap expr_part (sym is) ∙ part_rolled z)

cond_called_at : (e : NCond) (z : NCond-F NCond NExpr) → roll-NCond z ≡ e
    → (cond_part e).called ≡ (cond_layer z).called
cond_called_at e z is = ap (λ (p : Part Bool). p.called) (ap cond_part (sym is) ∙ cond_rolled z)

tree_called_at : (e : NTree) (z : NTree-F NTree) → roll-NTree z ≡ e
    → (tree_part e).called ≡ (tree_layer z).called
tree_called_at e z is = ap (λ (p : Part End). p.called) (ap tree_part (sym is) ∙ tree_rolled z)

-- ---- by induction

abbrev pub NumbersCalls : Doc → List Param → Expr → Type 0
NumbersCalls doc params e =
    (expr_part (numbered_expr doc params e)).called ≡ number_all params (calls_of_expr e)

abbrev pub NumbersCondCalls : Doc → List Param → Cond → Type 0
NumbersCondCalls doc params c =
    (cond_part (numbered_cond doc params c)).called ≡ number_all params (calls_of_cond c)

abbrev CondPart : Doc → List Param → Type 0
CondPart doc params = (c : Cond) × NumbersCondCalls doc params c

abbrev ExprPart : Doc → List Param → Type 0
ExprPart doc params = (e : Expr) × NumbersCalls doc params e

two_numbers : (params : List Param) (a b : List ℕ) (xs ys : List Bytes)
    → a ≡ number_all params xs → b ≡ number_all params ys → a ++ b ≡ number_all params (xs ++ ys)
two_numbers params a b xs ys e f = (λ i. e i ++ f i) ∙ sym (numbers_append params xs ys)

three_numbers : (params : List Param) (a b c : List ℕ) (xs ys zs : List Bytes)
    → a ≡ number_all params xs → b ≡ number_all params ys → c ≡ number_all params zs
    → (a ++ b) ++ c ≡ number_all params (xs ++ (ys ++ zs))
three_numbers params a b c xs ys zs e f g =
    append_assoc a b c ∙ two_numbers params a (b ++ c) xs (ys ++ zs) e
    (two_numbers params b c ys zs f g)

abbrev numbereds : (doc : Doc) (params : List Param) → List (ExprPart doc params) → List NExpr
numbereds doc params xs = exprs (map (numbered doc params) (map (λ e. e.0) xs))

args_numbers : (doc : Doc) (params : List Param) (xs : List (ExprPart doc params))
    → called_of (map expr_part (numbereds doc params xs))
    ≡ number_all params (all_of (map calls_of_expr (map (λ e. e.0) xs)))
args_numbers doc params [] = refl
args_numbers doc params (x ∷ xs) =
    two_numbers params (expr_part (numbered_expr doc params x.0)).called
    (called_of (map expr_part (numbereds doc params xs))) (calls_of_expr x.0)
    (all_of (map calls_of_expr (map (λ e. e.0) xs))) x.1 (args_numbers doc params xs)

by_name_numbers : (params : List Param) (f : ParamCall) (p : Bytes)
    → (layer (NExpr-F.ByName f (param_number params p))).called
    ≡ number_all params (called_by_name f p)
by_name_numbers params by_name.Get p = refl
by_name_numbers params by_name.Value p = refl
by_name_numbers params by_name.Values p = refl
by_name_numbers params by_name.Failure p = refl

abbrev cond_parts : (doc : Doc) (params : List Param)
    → Cond-F (CondPart doc params) (ExprPart doc params) → Cond-F Cond Expr
cond_parts doc params =
    map-Cond (CondPart doc params) (ExprPart doc params) Cond Expr (λ c. c.0) (λ e. e.0)

abbrev expr_parts : (doc : Doc) (params : List Param)
    → Expr-F (CondPart doc params) (ExprPart doc params) → Expr-F Cond Expr
expr_parts doc params =
    map-Expr (CondPart doc params) (ExprPart doc params) Cond Expr (λ c. c.0) (λ e. e.0)

abbrev cond_calls_parts : Cond-F Cond Expr → List Bytes
cond_calls_parts z =
    cond_calls_at (map-Cond Cond Expr (List Bytes) (List Bytes) calls_of_cond calls_of_expr z)

abbrev calls_parts : Expr-F Cond Expr → List Bytes
calls_parts z =
    expr_calls_at (map-Expr Cond Expr (List Bytes) (List Bytes) calls_of_cond calls_of_expr z)

abbrev numbered_layer : Doc → List Param → Expr-F Cond Expr → Numbered
numbered_layer doc params z =
    numbered_at doc params (map-Expr Cond Expr NCond Numbered (numbered_cond doc params)
    (numbered doc params) z)

abbrev numbered_cond_layer : Doc → List Param → Cond-F Cond Expr → NCond
numbered_cond_layer doc params z =
    numbered_cond_at params (map-Cond Cond Expr NCond Numbered (numbered_cond doc params)
    (numbered doc params) z)

cond_numbers_at : (doc : Doc) (params : List Param)
    → (y : Cond-F (CondPart doc params) (ExprPart doc params))
    → (cond_part (numbered_cond_layer doc params (cond_parts doc params y))).called
    ≡ number_all params (cond_calls_parts (cond_parts doc params y))
cond_numbers_at doc params (Cond-F.Equal a b) =
    cond_called_at _ (NCond-F.Equal (numbered_expr doc params a.0) (numbered_expr doc params b.0))
    (ncond.rolls-Equal _ _) ∙ two_numbers params _ _ (calls_of_expr a.0) (calls_of_expr b.0) a.1 b.1
cond_numbers_at doc params (Cond-F.Less a b) =
    cond_called_at _ (NCond-F.Less (numbered_expr doc params a.0) (numbered_expr doc params b.0))
    (ncond.rolls-Less _ _) ∙ two_numbers params _ _ (calls_of_expr a.0) (calls_of_expr b.0) a.1 b.1
cond_numbers_at doc params (Cond-F.Has p) =
    cond_called_at _ (NCond-F.Has (param_number params p)) (ncond.rolls-Has _)
cond_numbers_at doc params (Cond-F.IsOk p) =
    cond_called_at _ (NCond-F.IsOk (param_number params p)) (ncond.rolls-IsOk _)

expr_numbers_at : (doc : Doc) (params : List Param)
    → (y : Expr-F (CondPart doc params) (ExprPart doc params))
    → (expr_part (numbered_layer doc params (expr_parts doc params y)).expr).called
    ≡ number_all params (calls_parts (expr_parts doc params y))
expr_numbers_at doc params (Expr-F.Text t) = called_at _ (NExpr-F.Text t) (nexpr.rolls-Text t)
expr_numbers_at doc params (Expr-F.Int n) = called_at _ (NExpr-F.Int n) (nexpr.rolls-Int n)
expr_numbers_at doc params (Expr-F.Param p) =
    called_at _ (NExpr-F.Param (param_number params p)) (nexpr.rolls-Param _)
expr_numbers_at doc params (Expr-F.New class args) =
    called_at _ (NExpr-F.New _ (numbereds doc params args)) (nexpr.rolls-New _ _)
    ∙ args_numbers doc params args
expr_numbers_at doc params (Expr-F.Field a field) =
    called_at _ (NExpr-F.Field (numbered_expr doc params a.0) _) (nexpr.rolls-Field _ _) ∙ a.1
expr_numbers_at doc params (Expr-F.Sum a b) =
    called_at _ (NExpr-F.Sum (numbered_expr doc params a.0) (numbered_expr doc params b.0))
    (nexpr.rolls-Sum _ _) ∙ two_numbers params _ _ (calls_of_expr a.0) (calls_of_expr b.0) a.1 b.1
expr_numbers_at doc params (Expr-F.If c a b) =
    called_at _ (NExpr-F.If (numbered_cond doc params c.0) (numbered_expr doc params a.0)
    (numbered_expr doc params b.0)) (nexpr.rolls-If _ _ _)
    ∙ three_numbers params _ _ _ (calls_of_cond c.0) (calls_of_expr a.0) (calls_of_expr b.0) c.1 a.1
    b.1
expr_numbers_at doc params (Expr-F.Call f args) =
    called_at _ (NExpr-F.Call f (numbereds doc params args)) (nexpr.rolls-Call _ _)
    ∙ args_numbers doc params args
expr_numbers_at doc params (Expr-F.ByName f p) =
    called_at _ (NExpr-F.ByName f (param_number params p)) (nexpr.rolls-ByName _ _)
    ∙ by_name_numbers params f p
expr_numbers_at doc params (Expr-F.OrElse p a) =
    called_at _ (NExpr-F.OrElse (param_number params p) (numbered_expr doc params a.0))
    (nexpr.rolls-OrElse _ _) ∙ a.1

numbered_rolled : (doc : Doc) (params : List Param) (z : Expr-F Cond Expr)
    → numbered doc params (roll-Expr z) ≡ numbered_layer doc params z
unfolding numbered numbered_cond
numbered_rolled doc params z =
    fold-roll-Expr NCond Numbered (numbered_cond_at params) (numbered_at doc params) z

numbered_cond_rolled : (doc : Doc) (params : List Param) (z : Cond-F Cond Expr)
    → numbered_cond doc params (roll-Cond z) ≡ numbered_cond_layer doc params z
unfolding numbered numbered_cond
numbered_cond_rolled doc params z =
    fold-roll-Cond NCond Numbered (numbered_cond_at params) (numbered_at doc params) z

cond_numbers_rolled : (doc : Doc) (params : List Param)
    → (y : Cond-F (CondPart doc params) (ExprPart doc params))
    → NumbersCondCalls doc params (roll-Cond (cond_parts doc params y))
cond_numbers_rolled doc params y =
    ap (λ (c : NCond). (cond_part c).called) (numbered_cond_rolled doc params (cond_parts doc params
    y)) ∙ cond_numbers_at doc params y
    ∙ ap (number_all params) (sym (fold-roll-Cond (List Bytes) (List Bytes) cond_calls_at
    expr_calls_at (cond_parts doc params y)))

expr_numbers_rolled : (doc : Doc) (params : List Param)
    → (y : Expr-F (CondPart doc params) (ExprPart doc params))
    → NumbersCalls doc params (roll-Expr (expr_parts doc params y))
expr_numbers_rolled doc params y =
    ap (λ (x : Numbered). (expr_part x.expr).called) (numbered_rolled doc params (expr_parts doc
    params y)) ∙ expr_numbers_at doc params y
    ∙ ap (number_all params) (sym (fold-roll-Expr (List Bytes) (List Bytes) cond_calls_at
    expr_calls_at (expr_parts doc params y)))

pub expr_numbers : (doc : Doc) (params : List Param) (e : Expr) → NumbersCalls doc params e
expr_numbers doc params = ind-Expr (NumbersCondCalls doc params) (NumbersCalls doc params)
    (λ x y is. subst (λ (z : Cond-F Cond Expr). NumbersCondCalls doc params (roll-Cond z)) is
    (cond_numbers_rolled doc params y))
    (λ x y is. subst (λ (z : Expr-F Cond Expr). NumbersCalls doc params (roll-Expr z)) is
    (expr_numbers_rolled doc params y))

pub cond_numbers : (doc : Doc) (params : List Param) (c : Cond) → NumbersCondCalls doc params c
cond_numbers doc params = ind-Cond (NumbersCondCalls doc params) (NumbersCalls doc params)
    (λ x y is. subst (λ (z : Cond-F Cond Expr). NumbersCondCalls doc params (roll-Cond z)) is
    (cond_numbers_rolled doc params y))
    (λ x y is. subst (λ (z : Expr-F Cond Expr). NumbersCalls doc params (roll-Expr z)) is
    (expr_numbers_rolled doc params y))

-- ---- trees

abbrev pub NumbersTreeCalls : Doc → List Param → Tree → Type 0
NumbersTreeCalls doc params t =
    (tree_part (numbered_tree doc params t)).called ≡ number_all params (calls_of_tree t)

abbrev TreePart : Doc → List Param → Type 0
TreePart doc params = (t : Tree) × NumbersTreeCalls doc params t

abbrev tree_parts : (doc : Doc) (params : List Param) → Tree-F (TreePart doc params) → Tree-F Tree
tree_parts doc params = map-Tree (TreePart doc params) Tree (λ t. t.0)

tree_numbers_at : (doc : Doc) (params : List Param) (y : Tree-F (TreePart doc params))
    → (tree_part (numbered_tree_at doc params (map-Tree Tree NTree (numbered_tree doc params)
    (tree_parts doc params y)))).called
    ≡ number_all params (tree_calls_at (map-Tree Tree (List Bytes) calls_of_tree (tree_parts doc
    params y)))
tree_numbers_at doc params (Tree-F.Leaf e) =
    tree_called_at _ (NTree-F.Leaf (numbered_expr doc params e)) (ntree.rolls-Leaf _)
    ∙ expr_numbers doc params e
tree_numbers_at doc params (Tree-F.Await p) =
    tree_called_at _ (NTree-F.Await (param_number params p)) (ntree.rolls-Await _)
tree_numbers_at doc params (Tree-F.If c a b) =
    tree_called_at _ (NTree-F.If (numbered_cond doc params c) (numbered_tree doc params a.0)
    (numbered_tree doc params b.0)) (ntree.rolls-If _ _ _)
    ∙ three_numbers params _ _ _ (calls_of_cond c) (calls_of_tree a.0) (calls_of_tree b.0)
    (cond_numbers doc params c) a.1 b.1

numbered_tree_rolled : (doc : Doc) (params : List Param) (z : Tree-F Tree)
    → numbered_tree doc params (roll-Tree z)
    ≡ numbered_tree_at doc params (map-Tree Tree NTree (numbered_tree doc params) z)
unfolding numbered_tree
numbered_tree_rolled doc params z = fold-roll-Tree NTree (numbered_tree_at doc params) z

tree_numbers_rolled : (doc : Doc) (params : List Param) (y : Tree-F (TreePart doc params))
    → NumbersTreeCalls doc params (roll-Tree (tree_parts doc params y))
tree_numbers_rolled doc params y =
    ap (λ (t : NTree). (tree_part t).called) (numbered_tree_rolled doc params (tree_parts doc params
    y)) ∙ tree_numbers_at doc params y
    ∙ ap (number_all params) (sym (fold-roll-Tree (List Bytes) tree_calls_at (tree_parts doc params
    y)))

pub tree_numbers : (doc : Doc) (params : List Param) (t : Tree) → NumbersTreeCalls doc params t
tree_numbers doc params = ind-Tree (NumbersTreeCalls doc params)
    (λ x y is. subst (λ (z : Tree-F Tree). NumbersTreeCalls doc params (roll-Tree z)) is
    (tree_numbers_rolled doc params y))

-- what a leaf calls is what its expression calls
pub leaf_calls : (e : NExpr) → (tree_part (ntree.Leaf e)).called ≡ (expr_part e).called
leaf_calls e = tree_called_at (ntree.Leaf e) (NTree-F.Leaf e) (ntree.rolls-Leaf e)
