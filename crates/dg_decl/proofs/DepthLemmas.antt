-- How many expressions stand around one another in what is written, parentheses counted: at most twice how deep it nests.
use Rattle.std.proofs.Common.{ℕ, suc, ◌+◌, ◌≤◌, List, [], ◌∷◌, map, max, sym, subst, arith}
use Rattle.std.specs.Prelude.{ℤ, fold}
use Rattle.dg_lex.specs.Bytes.{Bytes}
use Rattle.dg_decl.specs.declared.expression.CallName.{CallName}
use Rattle.dg_decl.specs.declared.expression.ParamCall.{ParamCall}
use Rattle.dg_decl.specs.declared.expression.Expr.{Expr}
use Rattle.dg_decl.specs.declared.expression.Expr.TheVariants as expr
use Rattle.dg_decl.specs.declared.expression.Cond.{Cond}
use Rattle.dg_decl.specs.declared.expression.Cond.TheVariants as cond
use Rattle.dg_decl.specs.declared.expression.Cond.TheOpen.{Cond-F, Expr-F}
use Rattle.dg_decl.specs.declared.expression.Cond.TheViews.{roll-Cond, roll-Expr}
use Rattle.dg_decl.specs.declared.expression.Cond.TheFolds.{ind-Cond, ind-Expr, map-Cond, map-Expr}
use Rattle.dg_decl.specs.ExpressionForms.{nesting, condition_nesting, greatest}
use Rattle.dg_decl.specs.Written.{Level, Prim, Chain, Whole, Written, tight_at, loose_at, tight, loose, written, written_condition}
use Rattle.dg_decl.proofs.WrittenEquations as eq

tight_level : (l : Level) (s : Written) → (tight_at l s).depth ≤ suc s.depth
tight_level Prim s = omega arith
tight_level Chain s = omega arith
tight_level Whole s = omega arith

loose_level : (l : Level) (s : Written) → (loose_at l s).depth ≤ suc s.depth
loose_level Prim s = omega arith
loose_level Chain s = omega arith
loose_level Whole s = omega arith

pub tight_depth : (s : Written) → (tight s).depth ≤ suc s.depth
tight_depth s = tight_level s.level s

pub loose_depth : (s : Written) → (loose s).depth ≤ suc s.depth
loose_depth s = loose_level s.level s

abbrev pub IsShallow : Expr → Type 0
IsShallow e = (written e).depth ≤ nesting e + nesting e

abbrev pub IsShallowCondition : Cond → Type 0
IsShallowCondition c = (written_condition c).depth ≤ condition_nesting c + condition_nesting c

abbrev AllShallow : List Expr → Type 0
AllShallow [] = Unit {0}
AllShallow (e ∷ es) = IsShallow e × AllShallow es

lists_from : (a b : ℕ) (es : List Expr) → a ≤ b + b → AllShallow es → fold max a (map (λ x. x.depth) (map written es)) ≤ fold max b (map nesting es) + fold max b (map nesting es)
lists_from a b [] le all = le
lists_from a b (e ∷ es) le all =
    let here = all.0 in
    lists_from (max a (written e).depth) (max b (nesting e)) es (omega (arith, le, here)) all.1

lists : (es : List Expr) → AllShallow es → greatest (map (λ x. x.depth) (map written es)) ≤ greatest (map nesting es) + greatest (map nesting es)
lists es all = lists_from 0 0 es (omega arith) all

shallow_Text : (t : Bytes) → IsShallow (expr.Text t)
shallow_Text t = rw (eq.written-Text t, eq.nesting-Text t) (omega arith)

shallow_Int : (n : ℤ) → IsShallow (expr.Int n)
shallow_Int n = rw (eq.written-Int n, eq.nesting-Int n) (omega arith)

shallow_Param : (p : Bytes) → IsShallow (expr.Param p)
shallow_Param p = rw (eq.written-Param p, eq.nesting-Param p) (omega arith)

shallow_ByName : (f : ParamCall) (p : Bytes) → IsShallow (expr.ByName f p)
shallow_ByName f p = rw (eq.written-ByName f p, eq.nesting-ByName f p) (omega arith)

shallow_New : (c : Bytes) (es : List Expr) → AllShallow es → IsShallow (expr.New c es)
shallow_New c es all = rw (eq.written-New c es, eq.nesting-New c es) (let parts = lists es all in omega (arith, parts))

shallow_Call : (f : CallName) (es : List Expr) → AllShallow es → IsShallow (expr.Call f es)
shallow_Call f es all = rw (eq.written-Call f es, eq.nesting-Call f es) (let parts = lists es all in omega (arith, parts))

shallow_Field : (e : Expr) (f : Bytes) → IsShallow e → IsShallow (expr.Field e f)
shallow_Field e f part = rw (eq.written-Field e f, eq.nesting-Field e f) (let base = tight_depth (written e) in omega (arith, base, part))

shallow_Sum : (a b : Expr) → IsShallow a → IsShallow b → IsShallow (expr.Sum a b)
shallow_Sum a b pa pb = rw (eq.written-Sum a b, eq.nesting-Sum a b) (let left = loose_depth (written a) in let right = tight_depth (written b) in omega (arith, left, right, pa, pb))

shallow_If : (c : Cond) (a b : Expr) → IsShallowCondition c → IsShallow a → IsShallow b → IsShallow (expr.If c a b)
shallow_If c a b pc pa pb = rw (eq.written-If c a b, eq.nesting-If c a b) (omega (arith, pc, pa, pb))

shallow_OrElse : (p : Bytes) (e : Expr) → IsShallow e → IsShallow (expr.OrElse p e)
shallow_OrElse p e part = rw (eq.written-OrElse p e, eq.nesting-OrElse p e) (omega (arith, part))

shallow_Equal : (a b : Expr) → IsShallow a → IsShallow b → IsShallowCondition (cond.Equal a b)
shallow_Equal a b pa pb = rw (eq.written-Equal a b, eq.nesting-Equal a b) (let left = loose_depth (written a) in let right = loose_depth (written b) in omega (arith, left, right, pa, pb))

shallow_Less : (a b : Expr) → IsShallow a → IsShallow b → IsShallowCondition (cond.Less a b)
shallow_Less a b pa pb = rw (eq.written-Less a b, eq.nesting-Less a b) (let left = loose_depth (written a) in let right = loose_depth (written b) in omega (arith, left, right, pa, pb))

shallow_Has : (p : Bytes) → IsShallowCondition (cond.Has p)
shallow_Has p = rw (eq.written-Has p, eq.nesting-Has p) (omega arith)

shallow_IsOk : (p : Bytes) → IsShallowCondition (cond.IsOk p)
shallow_IsOk p = rw (eq.written-IsOk p, eq.nesting-IsOk p) (omega arith)

abbrev CondPart : Type 0
CondPart = (c : Cond) × IsShallowCondition c

abbrev Part : Type 0
Part = (e : Expr) × IsShallow e

parts_shallow : (xs : List Part) → AllShallow (map (λ e. e.0) xs)
parts_shallow [] = tt
parts_shallow (x ∷ xs) = (x.1, parts_shallow xs)

expression_at : (y : Expr-F CondPart Part) → IsShallow (roll-Expr (map-Expr CondPart Part Cond Expr (λ c. c.0) (λ e. e.0) y))
expression_at (Expr-F.Text t) = subst IsShallow (sym (expr.rolls-Text t)) (shallow_Text t)
expression_at (Expr-F.Int n) = subst IsShallow (sym (expr.rolls-Int n)) (shallow_Int n)
expression_at (Expr-F.Param p) = subst IsShallow (sym (expr.rolls-Param p)) (shallow_Param p)
expression_at (Expr-F.New c xs) = subst IsShallow (sym (expr.rolls-New c (map (λ e. e.0) xs))) (shallow_New c (map (λ e. e.0) xs) (parts_shallow xs))
expression_at (Expr-F.Field e f) = subst IsShallow (sym (expr.rolls-Field e.0 f)) (shallow_Field e.0 f e.1)
expression_at (Expr-F.Sum a b) = subst IsShallow (sym (expr.rolls-Sum a.0 b.0)) (shallow_Sum a.0 b.0 a.1 b.1)
expression_at (Expr-F.If c a b) = subst IsShallow (sym (expr.rolls-If c.0 a.0 b.0)) (shallow_If c.0 a.0 b.0 c.1 a.1 b.1)
expression_at (Expr-F.Call f xs) = subst IsShallow (sym (expr.rolls-Call f (map (λ e. e.0) xs))) (shallow_Call f (map (λ e. e.0) xs) (parts_shallow xs))
expression_at (Expr-F.ByName f p) = subst IsShallow (sym (expr.rolls-ByName f p)) (shallow_ByName f p)
expression_at (Expr-F.OrElse p e) = subst IsShallow (sym (expr.rolls-OrElse p e.0)) (shallow_OrElse p e.0 e.1)

condition_at : (y : Cond-F CondPart Part) → IsShallowCondition (roll-Cond (map-Cond CondPart Part Cond Expr (λ c. c.0) (λ e. e.0) y))
condition_at (Cond-F.Equal a b) = subst IsShallowCondition (sym (cond.rolls-Equal a.0 b.0)) (shallow_Equal a.0 b.0 a.1 b.1)
condition_at (Cond-F.Less a b) = subst IsShallowCondition (sym (cond.rolls-Less a.0 b.0)) (shallow_Less a.0 b.0 a.1 b.1)
condition_at (Cond-F.Has p) = subst IsShallowCondition (sym (cond.rolls-Has p)) (shallow_Has p)
condition_at (Cond-F.IsOk p) = subst IsShallowCondition (sym (cond.rolls-IsOk p)) (shallow_IsOk p)

pub expression_shallow : (e : Expr) → IsShallow e
expression_shallow = ind-Expr IsShallowCondition IsShallow
    (λ x y is. subst (λ (z : Cond-F Cond Expr). IsShallowCondition (roll-Cond z)) is (condition_at y))
    (λ x y is. subst (λ (z : Expr-F Cond Expr). IsShallow (roll-Expr z)) is (expression_at y))

pub condition_shallow : (c : Cond) → IsShallowCondition c
condition_shallow = ind-Cond IsShallowCondition IsShallow
    (λ x y is. subst (λ (z : Cond-F Cond Expr). IsShallowCondition (roll-Cond z)) is (condition_at y))
    (λ x y is. subst (λ (z : Expr-F Cond Expr). IsShallow (roll-Expr z)) is (expression_at y))
