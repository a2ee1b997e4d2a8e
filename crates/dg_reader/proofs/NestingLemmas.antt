-- Each expression and each condition nests at least 1 deep.
use Rattle.std.proofs.Common.{◌≡◌, ℕ, suc, ◌+◌, ◌-◌, ◌<◌, ◌≤◌, Bool, true, false, ◌&&◌, List, []}
use Rattle.std.proofs.Common.{◌∷◌, map, max, refl, sym, ap, subst, ◌∙◌, arith}
use Rattle.std.specs.Prelude.{ℤ, fold, nat_le, nat_lt}
use Rattle.std.specs.List.{list_all}
use Rattle.std.proofs.lemmas.Bool.{leb-true, leb-false, le-leb, lt-leb}
use Rattle.dg_decl.specs.declared.expression.Expr.{Expr}
use Rattle.dg_decl.specs.declared.expression.Expr.TheVariants as expr
use Rattle.dg_decl.specs.declared.expression.Tree.{Tree}
use Rattle.dg_decl.specs.declared.expression.Tree.TheVariants as tree
use Rattle.dg_decl.specs.declared.expression.Cond.{Cond}
use Rattle.dg_decl.specs.declared.expression.Cond.TheVariants as cond
use Rattle.dg_decl.specs.declared.expression.Cond.TheOpen.{Cond-F, Expr-F}
use Rattle.dg_decl.specs.declared.expression.Cond.TheViews.{roll-Cond, roll-Expr}
use Rattle.dg_decl.specs.declared.expression.Cond.TheFolds.{ind-Cond, ind-Expr, map-Cond, map-Expr}
use Rattle.dg_decl.specs.ExpressionForms.{nesting, condition_nesting, tree_nesting, greatest}
use Rattle.dg_decl.proofs.WrittenEquations as eq

abbrev Nests : Expr → Type 0
Nests e = 0 < nesting e

abbrev ConditionNests : Cond → Type 0
ConditionNests c = 0 < condition_nesting c

abbrev Part : Type 0
Part = (e : Expr) × Nests e

abbrev CondPart : Type 0
CondPart = (c : Cond) × ConditionNests c

expression_at : (y : Expr-F CondPart Part) → Nests (roll-Expr (map-Expr CondPart Part Cond Expr
    (λ c. c.0) (λ e. e.0) y))
expression_at (Expr-F.Text t) = subst Nests (sym (expr.rolls-Text t)) (rw (eq.nesting-Text t) (omega
    arith))
expression_at (Expr-F.Int n) = subst Nests (sym (expr.rolls-Int n)) (rw (eq.nesting-Int n) (omega
    arith))
expression_at (Expr-F.Param p) = subst Nests (sym (expr.rolls-Param p)) (rw (eq.nesting-Param p)
    (omega arith))
expression_at (Expr-F.New c xs) = subst Nests (sym (expr.rolls-New c (map
    (λ e. e.0) xs))) (rw (eq.nesting-New c (map (λ e. e.0) xs)) (omega arith))
expression_at (Expr-F.Field e f) = subst Nests (sym (expr.rolls-Field e.0 f)) (rw (eq.nesting-Field
    e.0 f) (omega arith))
expression_at (Expr-F.Sum a b) = subst Nests (sym (expr.rolls-Sum a.0 b.0)) (rw (eq.nesting-Sum a.0
    b.0) (omega arith))
expression_at (Expr-F.If c a b) = subst Nests (sym (expr.rolls-If c.0 a.0 b.0)) (rw (eq.nesting-If
    c.0 a.0 b.0) (omega arith))
expression_at (Expr-F.Call f xs) = subst Nests (sym (expr.rolls-Call f (map
    (λ e. e.0) xs))) (rw (eq.nesting-Call f (map (λ e. e.0) xs)) (omega arith))
expression_at (Expr-F.ByName f p) = subst Nests (sym (expr.rolls-ByName f p)) (rw (eq.nesting-ByName
    f p) (omega arith))
expression_at (Expr-F.OrElse p e) = subst Nests (sym (expr.rolls-OrElse p e.0)) (rw
    (eq.nesting-OrElse p e.0) (omega arith))

condition_at : (y : Cond-F CondPart Part) → ConditionNests (roll-Cond (map-Cond CondPart Part Cond
    Expr (λ c. c.0) (λ e. e.0) y))
condition_at (Cond-F.Equal a b) = subst ConditionNests (sym (cond.rolls-Equal a.0 b.0)) (rw
    (eq.nesting-Equal a.0 b.0) (omega arith))
condition_at (Cond-F.Less a b) = subst ConditionNests (sym (cond.rolls-Less a.0 b.0)) (rw
    (eq.nesting-Less a.0 b.0) (omega arith))
condition_at (Cond-F.Has p) = subst ConditionNests (sym (cond.rolls-Has p)) (rw (eq.nesting-Has p)
    (omega arith))
condition_at (Cond-F.IsOk p) = subst ConditionNests (sym (cond.rolls-IsOk p)) (rw (eq.nesting-IsOk
    p) (omega arith))

pub condition_nests : (c : Cond) → 0 < condition_nesting c
condition_nests = ind-Cond ConditionNests Nests
    (λ x y is. subst (λ (z : Cond-F Cond Expr). ConditionNests (roll-Cond z)) is (condition_at y))
    (λ x y is. subst (λ (z : Expr-F Cond Expr). Nests (roll-Expr z)) is (expression_at y))

pub nests : (e : Expr) → 0 < nesting e
nests = ind-Expr ConditionNests Nests
    (λ x y is. subst (λ (z : Cond-F Cond Expr). ConditionNests (roll-Cond z)) is (condition_at y))
    (λ x y is. subst (λ (z : Expr-F Cond Expr). Nests (roll-Expr z)) is (expression_at y))

-- ---- tests of how deep something nests

within_is : (n limit : ℕ) → n ≤ limit → true ≡ nat_le n limit
within_is n limit le = sym (le-leb n limit le)

over_is : (n limit : ℕ) → limit < n → false ≡ nat_le n limit
over_is n limit lt = sym (lt-leb n limit lt)

same_test : (a b n limit : ℕ) → (a ≤ b → n ≤ limit) → (b < a → limit < n)
    → nat_le a b ≡ nat_le n limit
same_test a b n limit up down = from (nat_le a b) refl
  where
    from : (r : Bool) → nat_le a b ≡ r → nat_le a b ≡ nat_le n limit
    from true is = is ∙ within_is n limit (up (leb-true a b is))
    from false is = is ∙ over_is n limit (down (leb-false a b is))

pub no_limit : (n limit : ℕ) → 0 < n → limit ≡ 0 → false ≡ nat_le n limit
no_limit n limit some none = over_is n limit (omega arith)

pub no_part : (n limit : ℕ) → n ≡ 1 → 0 < limit → true ≡ nat_le n limit
no_part n limit one some = within_is n limit (omega arith)

pub one_part : (n a limit : ℕ) (r : Bool) → n ≡ suc a → 0 < limit → r ≡ nat_le a (limit - 1)
    → r ≡ nat_le n limit
one_part n a limit r is some tested = tested ∙ same_test a (limit - 1) n limit
    (λ le. omega (arith, le, is, some)) (λ lt. omega (arith, lt, is, some))

pub two_parts : (n a b limit : ℕ) (r s t : Bool) → n ≡ suc (max a b) → 0 < limit
    → r ≡ nat_le a (limit - 1) → s ≡ nat_le b (limit - 1) → t ≡ (r && s) → t ≡ nat_le n limit
two_parts n a b limit false s t is some first second all = all
    ∙ over_is n limit (let lt = leb-false a (limit - 1) (sym first) in omega (arith, lt, is, some))
two_parts n a b limit true false t is some first second all = all
    ∙ over_is n limit (let lt = leb-false b (limit - 1) (sym second) in omega (arith, lt, is, some))
two_parts n a b limit true true t is some first second all =
    let x = leb-true a (limit - 1) (sym first) in
    let y = leb-true b (limit - 1) (sym second) in
    all ∙ within_is n limit (omega (arith, x, y, is, some))

pub both_tests : (a b limit : ℕ) (r s t : Bool) → r ≡ nat_le a limit → s ≡ nat_le b limit
    → t ≡ (r && s) → t ≡ nat_le (max a b) limit
both_tests a b limit false s t first second all = all
    ∙ over_is (max a b) limit (let lt = leb-false a limit (sym first) in omega (arith, lt))
both_tests a b limit true false t first second all = all
    ∙ over_is (max a b) limit (let lt = leb-false b limit (sym second) in omega (arith, lt))
both_tests a b limit true true t first second all =
    let x = leb-true a limit (sym first) in
    let y = leb-true b limit (sym second) in
    all ∙ within_is (max a b) limit (omega (arith, x, y))

-- the greatest of more numbers is the greater of the first and the greatest of the others
fold_max : (a : ℕ) (ns : List ℕ) → fold max a ns ≡ max a (fold max 0 ns)
fold_max a [] = omega arith
fold_max a (n ∷ ns) =
    let here = fold_max (max a n) ns in
    let later = fold_max (max 0 n) ns in
    omega (arith, here, later)

pub all_tests : (es : List Expr) (limit : ℕ) → list_all
    (λ e. nat_le (nesting e) limit) es ≡ nat_le (greatest (map nesting es)) limit
all_tests [] limit = within_is 0 limit (omega arith)
all_tests (e ∷ es) limit =
    let split : greatest (map nesting (e ∷ es)) ≡ max (nesting e) (greatest (map nesting es)) =
    fold_max (max 0 (nesting e)) (map nesting es) ∙ ap
    (λ (k : ℕ). max k (greatest (map nesting es))) (omega arith) in
    sym (rw split (sym (both_tests (nesting e) (greatest (map nesting es)) limit (nat_le (nesting e)
    limit) (list_all (λ x. nat_le (nesting x) limit) es)
    (list_all (λ x. nat_le (nesting x) limit) (e ∷ es)) refl (all_tests es limit) refl)))

pub await_test : (limit : ℕ) → nat_lt 0 limit ≡ nat_le 1 limit
await_test limit = refl

pub choice_nests : (t : Tree) (c : Cond) (a b : Tree) → t ≡ tree.If c a b → 0 < tree_nesting t
choice_nests t c a b is = rw (is, eq.tree_nesting-If c a b) (omega arith)
