-- What a fold over a body by numbers gives at each of the forms that examples use, and what one
-- over an expression by names gives.
use Rattle.std.proofs.Common.{◌≡◌, ℕ, List, map, sym, ap, ◌∙◌}
use Rattle.std.specs.Prelude.{ℤ, Bool}
use Rattle.dg_lex.specs.Bytes.{Bytes}
use Rattle.dg_decl.specs.declared.expression.CallName.{CallName}
use Rattle.dg_decl.specs.declared.expression.Expr.{Expr, fold-Expr}
use Rattle.dg_decl.specs.declared.expression.Expr.TheVariants as expr
use Rattle.dg_decl.specs.declared.expression.Cond.TheOpen.{Cond-F, Expr-F}
use Rattle.dg_decl.proofs.FoldEquations.{expr-Text, expr-Int, expr-Call}
use Rattle.dg_slots.specs.declared.body.NExpr.{NExpr, fold-NExpr}
use Rattle.dg_slots.specs.declared.body.NExpr.TheVariants as nexpr
use Rattle.dg_slots.specs.declared.body.NCond.{NCond, fold-NCond}
use Rattle.dg_slots.specs.declared.body.NCond.TheVariants as ncond
use Rattle.dg_slots.specs.declared.body.NCond.TheOpen.{NCond-F, NExpr-F}
use Rattle.dg_slots.specs.declared.body.NCond.TheFolds.{fold-roll-NCond, fold-roll-NExpr}
use Rattle.dg_slots.specs.declared.body.NTree.{NTree, fold-NTree}
use Rattle.dg_slots.specs.declared.body.NTree.TheVariants as ntree
use Rattle.dg_slots.specs.declared.body.NTree.TheOpen.{NTree-F}
use Rattle.dg_slots.specs.declared.body.NTree.TheFolds.{fold-roll-NTree}
use Rattle.dg_slots.specs.Numbered.{Numbered}
use Rattle.dg_value.specs.declared.value.Value.{Value}
use Rattle.dg_eval.specs.Bodies.{Around, End, Part}

-- ---- expressions by numbers

abbrev Conds : Type 0
Conds = NCond-F (Part Bool) (Part Value) → Part Bool

abbrev Exprs : Type 0
Exprs = NExpr-F (Part Bool) (Part Value) → Part Value

part-Text : (f : Conds) (g : Exprs) (t : Bytes)
    → fold-NExpr (Part Bool) (Part Value) f g (nexpr.Text t) ≡ g (NExpr-F.Text t)
part-Text f g t =
    ap (fold-NExpr (Part Bool) (Part Value) f g) (sym (nexpr.rolls-Text t))
    ∙ fold-roll-NExpr (Part Bool) (Part Value) f g (NExpr-F.Text t)

pub part-Int : (f : Conds) (g : Exprs) (n : ℤ)
    → fold-NExpr (Part Bool) (Part Value) f g (nexpr.Int n) ≡ g (NExpr-F.Int n)
part-Int f g n =
    ap (fold-NExpr (Part Bool) (Part Value) f g) (sym (nexpr.rolls-Int n))
    ∙ fold-roll-NExpr (Part Bool) (Part Value) f g (NExpr-F.Int n)

part-Call : (f : Conds) (g : Exprs) (h : CallName) (xs : List NExpr)
    → fold-NExpr (Part Bool) (Part Value) f g (nexpr.Call h xs)
    ≡ g (NExpr-F.Call h (map (fold-NExpr (Part Bool) (Part Value) f g) xs))
part-Call f g h xs =
    ap (fold-NExpr (Part Bool) (Part Value) f g) (sym (nexpr.rolls-Call h xs))
    ∙ fold-roll-NExpr (Part Bool) (Part Value) f g (NExpr-F.Call h xs)

pub part-Less : (f : Conds) (g : Exprs) (a b : NExpr)
    → fold-NCond (Part Bool) (Part Value) f g (ncond.Less a b)
    ≡ f (NCond-F.Less (fold-NExpr (Part Bool) (Part Value) f g a)
    (fold-NExpr (Part Bool) (Part Value) f g b))
part-Less f g a b =
    ap (fold-NCond (Part Bool) (Part Value) f g) (sym (ncond.rolls-Less a b))
    ∙ fold-roll-NCond (Part Bool) (Part Value) f g (NCond-F.Less a b)

pub news-Text : (f : Conds) (g : Exprs) (t : Bytes)
    → (fold-NExpr (Part Bool) (Part Value) f g (nexpr.Text t)).news ≡ (g (NExpr-F.Text t)).news
news-Text f g t = ap (λ p. p.news) (part-Text f g t)

pub called-Text : (f : Conds) (g : Exprs) (t : Bytes)
    → (fold-NExpr (Part Bool) (Part Value) f g (nexpr.Text t)).called ≡ (g (NExpr-F.Text t)).called
called-Text f g t = ap (λ p. p.called) (part-Text f g t)

pub run-Text : (f : Conds) (g : Exprs) (t : Bytes) (s : Around) (n c : ℕ)
    → (fold-NExpr (Part Bool) (Part Value) f g (nexpr.Text t)).run s n c
    ≡ (g (NExpr-F.Text t)).run s n c
run-Text f g t s n c = ap (λ p. p.run s n c) (part-Text f g t)

pub news-Int : (f : Conds) (g : Exprs) (t : ℤ)
    → (fold-NExpr (Part Bool) (Part Value) f g (nexpr.Int t)).news ≡ (g (NExpr-F.Int t)).news
news-Int f g t = ap (λ p. p.news) (part-Int f g t)

pub called-Int : (f : Conds) (g : Exprs) (t : ℤ)
    → (fold-NExpr (Part Bool) (Part Value) f g (nexpr.Int t)).called ≡ (g (NExpr-F.Int t)).called
called-Int f g t = ap (λ p. p.called) (part-Int f g t)

pub run-Int : (f : Conds) (g : Exprs) (t : ℤ) (s : Around) (n c : ℕ)
    → (fold-NExpr (Part Bool) (Part Value) f g (nexpr.Int t)).run s n c
    ≡ (g (NExpr-F.Int t)).run s n c
run-Int f g t s n c = ap (λ p. p.run s n c) (part-Int f g t)

pub run-Call : (f : Conds) (g : Exprs) (h : CallName) (xs : List NExpr) (s : Around) (n c : ℕ)
    → (fold-NExpr (Part Bool) (Part Value) f g (nexpr.Call h xs)).run s n c
    ≡ (g (NExpr-F.Call h (map (fold-NExpr (Part Bool) (Part Value) f g) xs))).run s n c
run-Call f g h xs s n c = ap (λ p. p.run s n c) (part-Call f g h xs)

-- ---- trees by numbers

abbrev Trees : Type 0
Trees = NTree-F (Part End) → Part End

pub part-Leaf : (f : Trees) (e : NExpr)
    → fold-NTree (Part End) f (ntree.Leaf e) ≡ f (NTree-F.Leaf e)
part-Leaf f e =
    ap (fold-NTree (Part End) f) (sym (ntree.rolls-Leaf e))
    ∙ fold-roll-NTree (Part End) f (NTree-F.Leaf e)

pub part-Await : (f : Trees) (p : ℕ) → fold-NTree (Part End) f (ntree.Await p) ≡ f (NTree-F.Await p)
part-Await f p =
    ap (fold-NTree (Part End) f) (sym (ntree.rolls-Await p))
    ∙ fold-roll-NTree (Part End) f (NTree-F.Await p)

pub part-If : (f : Trees) (c : NCond) (a b : NTree)
    → fold-NTree (Part End) f (ntree.If c a b)
    ≡ f (NTree-F.If c (fold-NTree (Part End) f a) (fold-NTree (Part End) f b))
part-If f c a b =
    ap (fold-NTree (Part End) f) (sym (ntree.rolls-If c a b))
    ∙ fold-roll-NTree (Part End) f (NTree-F.If c a b)

pub run-Leaf : (f : Trees) (e : NExpr) (s : Around) (n c : ℕ)
    → (fold-NTree (Part End) f (ntree.Leaf e)).run s n c ≡ (f (NTree-F.Leaf e)).run s n c
run-Leaf f e s n c = ap (λ p. p.run s n c) (part-Leaf f e)

-- ---- expressions by names

pub numbered-Text : (f : Cond-F NCond Numbered → NCond) (g : Expr-F NCond Numbered → Numbered)
    (t : Bytes)
    → (fold-Expr NCond Numbered f g (expr.Text t)).expr ≡ (g (Expr-F.Text t)).expr
numbered-Text f g t = ap (λ x. x.expr) (expr-Text f g t)

pub numbered-Int : (f : Cond-F NCond Numbered → NCond) (g : Expr-F NCond Numbered → Numbered)
    (n : ℤ)
    → (fold-Expr NCond Numbered f g (expr.Int n)).expr ≡ (g (Expr-F.Int n)).expr
numbered-Int f g n = ap (λ x. x.expr) (expr-Int f g n)

pub numbered-Call : (f : Cond-F NCond Numbered → NCond) (g : Expr-F NCond Numbered → Numbered)
    (h : CallName) (xs : List Expr)
    → (fold-Expr NCond Numbered f g (expr.Call h xs)).expr
    ≡ (g (Expr-F.Call h (map (fold-Expr NCond Numbered f g) xs))).expr
numbered-Call f g h xs = ap (λ x. x.expr) (expr-Call f g h xs)

pub ruleset bodies = (
  news-Text,
  called-Text,
  run-Text,
  news-Int,
  called-Int,
  run-Int,
  run-Call,
  run-Leaf,
  numbered-Text,
  numbered-Int,
  numbered-Call,
)
