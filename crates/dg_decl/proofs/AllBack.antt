-- Every expression and condition that fits is read back.
use Rattle.std.proofs.Common.{suc, ◌≡◌, ◌≤◌, true, ◌&&◌, List, [], ◌∷◌, length, map, max, sym, subst, arith}
use Rattle.std.specs.Prelude.{nat_le, ℤ}
use Rattle.std.specs.List.{list_all}
use Rattle.std.proofs.lemmas.Bool.{and_parts, leb-true}
use Rattle.std.proofs.lemmas.List.{length-map}
use Rattle.dg_lex.specs.Bytes.{Bytes}
use Rattle.dg_lex.specs.Tokens.{is_name}
use Rattle.dg_lex.specs.LexLaws.{is_in_range}
use Rattle.dg_decl.specs.declared.expression.CallName.{CallName}
use Rattle.dg_decl.specs.declared.expression.ParamCall.{ParamCall}
use Rattle.dg_decl.specs.declared.expression.Expr.{Expr}
use Rattle.dg_decl.specs.declared.expression.Expr.TheVariants as expr
use Rattle.dg_decl.specs.declared.expression.Cond.{Cond}
use Rattle.dg_decl.specs.declared.expression.Cond.TheVariants as cond
use Rattle.dg_decl.specs.declared.expression.Cond.TheOpen.{Cond-F, Expr-F}
use Rattle.dg_decl.specs.declared.expression.Cond.TheViews.{roll-Cond, roll-Expr}
use Rattle.dg_decl.specs.declared.expression.Cond.TheFolds.{ind-Cond, ind-Expr, map-Cond, map-Expr}
use Rattle.dg_decl.specs.Readers.{list_limit}
use Rattle.dg_decl.specs.ExpressionForms.{nesting, condition_nesting, nesting_limit, greatest}
use Rattle.dg_decl.specs.Written.{written, written_condition, list_fits, count_fits}
use Rattle.dg_decl.proofs.WrittenEquations as eq
use Rattle.dg_decl.proofs.ExpressionsBack.{IsRead, IsConditionRead, text_read, integer_read, param_read, field_read, sum_read, if_read, equal_read, less_read, has_read, is_ok_read}
use Rattle.dg_decl.proofs.ListsBack.{AllAtMost, greatest_within, AllRead, object_read, call_read, by_name_read, or_else_read}

-- where it fits and nests no deeper than the limit, it is read back
abbrev pub IsGood : Expr → Type 0
IsGood e = (written e).fits ≡ true → nesting e ≤ nesting_limit → IsRead (written e) (nesting e) e

abbrev pub IsGoodCondition : Cond → Type 0
IsGoodCondition c = (written_condition c).fits ≡ true → condition_nesting c ≤ nesting_limit → IsConditionRead (written_condition c) c

abbrev AllGood : List Expr → Type 0
AllGood [] = Unit {0}
AllGood (e ∷ es) = IsGood e × AllGood es

all_read : (es : List Expr) → AllGood es → list_all (λ x. x.fits) (map written es) ≡ true → AllAtMost nesting_limit (map nesting es) → AllRead es
all_read [] good fits nests = tt
all_read (e ∷ es) good fits nests =
    let both = and_parts (written e).fits (list_all (λ x. x.fits) (map written es)) fits in
    (good.0 both.0 nests.0, all_read es good.1 both.1 nests.1)

-- ---- each form

good_text : (t : Bytes) → IsGood (expr.Text t)
good_text t fits nests = rw (eq.written-Text t, eq.nesting-Text t) (text_read t)

good_integer : (n : ℤ) → IsGood (expr.Int n)
good_integer n fits nests = (let within : is_in_range n ≡ true = rw (eq.written-Int n) at fits in rw (eq.written-Int n, eq.nesting-Int n) (integer_read n within))

good_param : (p : Bytes) → IsGood (expr.Param p)
good_param p fits nests = rw (eq.written-Param p, eq.nesting-Param p) (param_read p)

good_field : (e : Expr) (f : Bytes) → IsGood e → IsGood (expr.Field e f)
good_field e f good fits nests =
    let parts = and_parts (written e).fits (is_name f) (rw (eq.written-Field e f) at fits) in
    let deep : suc (nesting e) ≤ nesting_limit = rw (eq.nesting-Field e f) at nests in
    rw (eq.written-Field e f, eq.nesting-Field e f) (field_read (written e) (nesting e) e f (good parts.0 (omega (arith, deep))) deep)

good_sum : (a b : Expr) → IsGood a → IsGood b → IsGood (expr.Sum a b)
good_sum a b ga gb fits nests =
    let parts = and_parts (written a).fits (written b).fits (rw (eq.written-Sum a b) at fits) in
    let deep : suc (max (nesting a) (nesting b)) ≤ nesting_limit = rw (eq.nesting-Sum a b) at nests in
    rw (eq.written-Sum a b, eq.nesting-Sum a b)
    (sum_read (written a) (written b) (nesting a) (nesting b) a b (ga parts.0 (omega (arith, deep))) (gb parts.1 (omega (arith, deep))) deep)

good_if : (c : Cond) (a b : Expr) → IsGoodCondition c → IsGood a → IsGood b → IsGood (expr.If c a b)
good_if c a b gc ga gb fits nests =
    let outer = and_parts ((written_condition c).fits && (written a).fits) (written b).fits (rw (eq.written-If c a b) at fits) in
    let parts = and_parts (written_condition c).fits (written a).fits outer.0 in
    let deep : suc (max (condition_nesting c) (max (nesting a) (nesting b))) ≤ nesting_limit = rw (eq.nesting-If c a b) at nests in
    rw (eq.written-If c a b, eq.nesting-If c a b)
    (if_read (written_condition c) (written a) (written b) (condition_nesting c) (nesting a) (nesting b) c a b
    (gc parts.0 (omega (arith, deep))) (ga parts.1 (omega (arith, deep))) (gb outer.1 (omega (arith, deep))) deep)

-- a list that fits has no more members than it may, and each is read
record IsGoodList (es : List Expr) : Type 0 where
  short : length es ≤ list_limit
  all : AllRead es

good_list : (es : List Expr) → AllGood es → list_fits (map written es) ≡ true → suc (greatest (map nesting es)) ≤ nesting_limit → IsGoodList es
good_list es good fits deep =
    let parts = and_parts (nat_le (length (map written es)) list_limit) (list_all (λ x. x.fits) (map written es)) fits in
    let short : length (map written es) ≤ list_limit = leb-true (length (map written es)) list_limit parts.0 in
    record {
      short = omega (arith, short, length-map es written);
      all = all_read es good parts.1 (greatest_within nesting_limit (map nesting es) (omega (arith, deep)));
    }

good_new : (c : Bytes) (es : List Expr) → AllGood es → IsGood (expr.New c es)
good_new c es good fits nests =
    let parts = and_parts (is_name c) (list_fits (map written es)) (rw (eq.written-New c es) at fits) in
    let deep : suc (greatest (map nesting es)) ≤ nesting_limit = rw (eq.nesting-New c es) at nests in
    let list = good_list es good parts.1 deep in
    rw (eq.written-New c es, eq.nesting-New c es) (object_read c es (greatest (map nesting es)) list.all list.short deep)

good_call : (f : CallName) (es : List Expr) → AllGood es → IsGood (expr.Call f es)
good_call f es good fits nests =
    let parts = and_parts (list_fits (map written es)) (count_fits f (length (map written es))) (rw (eq.written-Call f es) at fits) in
    let deep : suc (greatest (map nesting es)) ≤ nesting_limit = rw (eq.nesting-Call f es) at nests in
    let list = good_list es good parts.0 deep in
    let count : count_fits f (length es) ≡ true = rw (length-map es written) at parts.1 in
    rw (eq.written-Call f es, eq.nesting-Call f es) (call_read f es (greatest (map nesting es)) list.all list.short count deep)

good_by_name : (f : ParamCall) (p : Bytes) → IsGood (expr.ByName f p)
good_by_name f p fits nests = rw (eq.written-ByName f p, eq.nesting-ByName f p) (by_name_read f p)

good_or_else : (p : Bytes) (e : Expr) → IsGood e → IsGood (expr.OrElse p e)
good_or_else p e good fits nests =
    let parts = and_parts (is_name p) (written e).fits (rw (eq.written-OrElse p e) at fits) in
    let deep : suc (nesting e) ≤ nesting_limit = rw (eq.nesting-OrElse p e) at nests in
    rw (eq.written-OrElse p e, eq.nesting-OrElse p e) (or_else_read p (written e) (nesting e) e (good parts.1 (omega (arith, deep))) deep)

good_equal : (a b : Expr) → IsGood a → IsGood b → IsGoodCondition (cond.Equal a b)
good_equal a b ga gb fits nests =
    let parts = and_parts (written a).fits (written b).fits (rw (eq.written-Equal a b) at fits) in
    let deep : suc (max (nesting a) (nesting b)) ≤ nesting_limit = rw (eq.nesting-Equal a b) at nests in
    rw (eq.written-Equal a b)
    (equal_read (written a) (written b) (nesting a) (nesting b) a b (ga parts.0 (omega (arith, deep))) (gb parts.1 (omega (arith, deep))))

good_less : (a b : Expr) → IsGood a → IsGood b → IsGoodCondition (cond.Less a b)
good_less a b ga gb fits nests =
    let parts = and_parts (written a).fits (written b).fits (rw (eq.written-Less a b) at fits) in
    let deep : suc (max (nesting a) (nesting b)) ≤ nesting_limit = rw (eq.nesting-Less a b) at nests in
    rw (eq.written-Less a b)
    (less_read (written a) (written b) (nesting a) (nesting b) a b (ga parts.0 (omega (arith, deep))) (gb parts.1 (omega (arith, deep))))

good_has : (p : Bytes) → IsGoodCondition (cond.Has p)
good_has p fits nests = rw (eq.written-Has p) (has_read p)

good_is_ok : (p : Bytes) → IsGoodCondition (cond.IsOk p)
good_is_ok p fits nests = rw (eq.written-IsOk p) (is_ok_read p)

-- ---- all of them

abbrev CondPart : Type 0
CondPart = (c : Cond) × IsGoodCondition c

abbrev Part : Type 0
Part = (e : Expr) × IsGood e

abbrev bare : Expr-F CondPart Part → Expr-F Cond Expr
bare y = map-Expr CondPart Part Cond Expr (λ c. c.0) (λ e. e.0) y

abbrev bare_condition : Cond-F CondPart Part → Cond-F Cond Expr
bare_condition y = map-Cond CondPart Part Cond Expr (λ c. c.0) (λ e. e.0) y

parts_good : (xs : List Part) → AllGood (map (λ e. e.0) xs)
parts_good [] = tt
parts_good (x ∷ xs) = (x.1, parts_good xs)

expression_at : (y : Expr-F CondPart Part) → IsGood (roll-Expr (bare y))
expression_at (Expr-F.Text t) = subst IsGood (sym (expr.rolls-Text t)) (good_text t)
expression_at (Expr-F.Int n) = subst IsGood (sym (expr.rolls-Int n)) (good_integer n)
expression_at (Expr-F.Param p) = subst IsGood (sym (expr.rolls-Param p)) (good_param p)
expression_at (Expr-F.New c xs) = subst IsGood (sym (expr.rolls-New c (map (λ e. e.0) xs))) (good_new c (map (λ e. e.0) xs) (parts_good xs))
expression_at (Expr-F.Field e f) = subst IsGood (sym (expr.rolls-Field e.0 f)) (good_field e.0 f e.1)
expression_at (Expr-F.Sum a b) = subst IsGood (sym (expr.rolls-Sum a.0 b.0)) (good_sum a.0 b.0 a.1 b.1)
expression_at (Expr-F.If c a b) = subst IsGood (sym (expr.rolls-If c.0 a.0 b.0)) (good_if c.0 a.0 b.0 c.1 a.1 b.1)
expression_at (Expr-F.Call f xs) = subst IsGood (sym (expr.rolls-Call f (map (λ e. e.0) xs))) (good_call f (map (λ e. e.0) xs) (parts_good xs))
expression_at (Expr-F.ByName f p) = subst IsGood (sym (expr.rolls-ByName f p)) (good_by_name f p)
expression_at (Expr-F.OrElse p e) = subst IsGood (sym (expr.rolls-OrElse p e.0)) (good_or_else p e.0 e.1)

condition_at : (y : Cond-F CondPart Part) → IsGoodCondition (roll-Cond (bare_condition y))
condition_at (Cond-F.Equal a b) = subst IsGoodCondition (sym (cond.rolls-Equal a.0 b.0)) (good_equal a.0 b.0 a.1 b.1)
condition_at (Cond-F.Less a b) = subst IsGoodCondition (sym (cond.rolls-Less a.0 b.0)) (good_less a.0 b.0 a.1 b.1)
condition_at (Cond-F.Has p) = subst IsGoodCondition (sym (cond.rolls-Has p)) (good_has p)
condition_at (Cond-F.IsOk p) = subst IsGoodCondition (sym (cond.rolls-IsOk p)) (good_is_ok p)

pub expression_back : (e : Expr) → IsGood e
expression_back = ind-Expr IsGoodCondition IsGood
    (λ x y is. subst (λ (z : Cond-F Cond Expr). IsGoodCondition (roll-Cond z)) is (condition_at y))
    (λ x y is. subst (λ (z : Expr-F Cond Expr). IsGood (roll-Expr z)) is (expression_at y))

pub condition_back : (c : Cond) → IsGoodCondition c
condition_back = ind-Cond IsGoodCondition IsGood
    (λ x y is. subst (λ (z : Cond-F Cond Expr). IsGoodCondition (roll-Cond z)) is (condition_at y))
    (λ x y is. subst (λ (z : Expr-F Cond Expr). IsGood (roll-Expr z)) is (expression_at y))
