-- What stands before what comes after a part, by its form.
use Rattle.std.proofs.Common.{◌≡◌, ◌<◌, ◌≤◌, ◌+◌, ◌∷◌, [], ◌++◌, ℕ, zero, suc, List, length, map, drop, get_or, drop-cons, refl, sym, ap, ◌∙◌, arith, length-append}
use Rattle.std.specs.Prelude.{Bool, ℤ}
use Rattle.dg_lex.specs.Bytes.{Bytes}
use Rattle.dg_decl.specs.declared.expression.CallName.{CallName}
use Rattle.dg_decl.specs.declared.expression.ParamCall.{ParamCall}
use Rattle.dg_decl.specs.declared.expression.ParamCall.TheVariants as by_name
use Rattle.dg_slots.specs.declared.body.NExpr.{NExpr}
use Rattle.dg_slots.specs.declared.body.NExpr.TheVariants as nexpr
use Rattle.dg_slots.specs.declared.body.NCond.{NCond}
use Rattle.dg_slots.specs.declared.body.NCond.TheVariants as ncond
use Rattle.dg_slots.specs.declared.body.NTree.{NTree}
use Rattle.dg_slots.specs.declared.body.NTree.TheVariants as ntree
use Rattle.dg_value.specs.declared.value.Value.{Value}
use Rattle.dg_eval.specs.Bodies.{Part, chosen, by_param, expr_part, cond_part, tree_part}
use Rattle.dg_bodies.specs.declared.counters.NewsAndCalls.{NewsAndCalls}
use Rattle.dg_bodies.specs.Counts.{one_new, one_call, after, row}
use Rattle.dg_bodies.specs.Sites.{looked_part, pair_part}
use Rattle.dg_bodies.proofs.PartForms.{part_text, part_int, part_param, new_of, part_new, part_field, part_sum, part_if, part_call, part_by_name, part_or_else, part_equal, part_less, part_has, part_is_ok, part_leaf, part_await, part_choice}

abbrev so_many : ℕ → ℕ → NewsAndCalls
so_many m k = record { news = m; calls = k }

counts : (m n k l : ℕ) → m ≡ n → k ≡ l → so_many m k ≡ so_many n l
counts m n k l e f = λ i. record { news = e i; calls = f i }

-- a part that has as much as two
after_join : {A B C : Type 0} (p : Part A) (q : Part B) (r : Part C) (at : NewsAndCalls)
    → r.news ≡ p.news + q.news → length r.called ≡ length p.called + length q.called
    → after r at ≡ after q (after p at)
unfolding after
after_join p q r at e f =
    counts (at.news + r.news) ((at.news + p.news) + q.news) (at.calls + length r.called)
    ((at.calls + length p.called) + length q.called) (omega (arith, e)) (omega (arith, f))

after_same : {A B : Type 0} (p : Part A) (q : Part B) (at : NewsAndCalls)
    → p.news ≡ q.news → length p.called ≡ length q.called → after p at ≡ after q at
unfolding after
after_same p q at e f =
    counts (at.news + p.news) (at.news + q.news) (at.calls + length p.called)
    (at.calls + length q.called) (omega (arith, e)) (omega (arith, f))

after_none : {A : Type 0} (p : Part A) (at : NewsAndCalls) → p.news ≡ 0 → length p.called ≡ 0
    → after p at ≡ at
unfolding after
after_none p at e f =
    counts (at.news + p.news) at.news (at.calls + length p.called) at.calls (omega (arith, e))
    (omega (arith, f))

after_call : {A : Type 0} (p : Part A) (at : NewsAndCalls) → p.news ≡ 0 → length p.called ≡ 1
    → after p at ≡ one_call at
unfolding after
after_call p at e f =
    counts (at.news + p.news) at.news (at.calls + length p.called) (at.calls + 1)
    (omega (arith, e)) (omega (arith, f))

pub after_chosen : {A : Type 0} (c : Part Bool) (a b : Part A) (at : NewsAndCalls)
    → after (chosen c a b) at ≡ after b (after a (after c at))
unfolding after
after_chosen c a b at =
    let more = length-append (c.called ++ a.called) b.called in
    let first = length-append c.called a.called in
    counts _ _ _ _ (omega arith) (omega (arith, more, first))

pub after_new : (class : ℕ) (args : List (Part Value)) (at : NewsAndCalls)
    → after (new_of class args) at ≡ after (row args) (one_new at)
unfolding after
after_new class args at = counts _ _ _ _ (omega arith) refl

-- ---- rows

after_nil : (at : NewsAndCalls) → after (row {A = Value} []) at ≡ at
after_nil at = after_none (row {A = Value} []) at refl refl

pub after_cons : {A : Type 0} (p : Part A) (ps : List (Part A)) (at : NewsAndCalls)
    → after (row (p ∷ ps)) at ≡ after (row ps) (after p at)
after_cons p ps at =
    after_join p (row ps) (row (p ∷ ps)) at refl (length-append p.called (row ps).called)

pub row_step : (args : List NExpr) (i : ℕ) (x : NExpr) (at : NewsAndCalls) → i < length args
    → x ≡ get_or args i x
    → after (row (map expr_part (drop i args))) at
    ≡ after (row (map expr_part (drop (i + 1) args))) (after (expr_part x) at)
row_step args i x at lt is =
    let next : suc i ≡ i + 1 = omega arith in
    ap (λ (l : List NExpr). after (row (map expr_part l)) at)
    (drop-cons args i x lt ∙ (λ j. sym is j ∷ drop (next j) args))
    ∙ after_cons (expr_part x) (map expr_part (drop (i + 1) args)) at

pub ruleset rows = (row_step)

past_all : {A : Type 0} (xs : List A) (i : ℕ) → length xs ≤ i → drop i xs ≡ []
past_all [] zero h = refl
past_all [] (suc i) h = refl
past_all (x ∷ xs) zero h = absurd (omega arith)
past_all (x ∷ xs) (suc i) h = past_all xs i (omega arith)

pub row_end : (args : List NExpr) (i : ℕ) (at end : NewsAndCalls) → length args ≤ i
    → after (row (map expr_part (drop i args))) at ≡ end → at ≡ end
row_end args i at end le is =
    sym (after_nil at)
    ∙ ap (λ (l : List NExpr). after (row (map expr_part l)) at) (sym (past_all args i le))
    ∙ is

-- ---- functions of parameters

pub after_get : (p : ℕ) (at : NewsAndCalls) → after (by_param by_name.Get p) at ≡ one_call at
after_get p at = after_call (by_param by_name.Get p) at refl refl

pub after_value : (p : ℕ) (at : NewsAndCalls) → after (by_param by_name.Value p) at ≡ at
after_value p at = after_none (by_param by_name.Value p) at refl refl

pub after_values : (p : ℕ) (at : NewsAndCalls) → after (by_param by_name.Values p) at ≡ at
after_values p at = after_none (by_param by_name.Values p) at refl refl

pub after_failure : (p : ℕ) (at : NewsAndCalls) → after (by_param by_name.Failure p) at ≡ at
after_failure p at = after_none (by_param by_name.Failure p) at refl refl

pub ruleset by_names = (after_get, after_value, after_values, after_failure)

-- ---- expressions

after_part : {A : Type 0} (p q : Part A) (at : NewsAndCalls) → p ≡ q → after p at ≡ after q at
after_part p q at e = ap (λ u. after u at) e

pub after_text : (t : Bytes) (at : NewsAndCalls) → after (expr_part (nexpr.Text t)) at ≡ at
after_text t at = after_part _ _ at (part_text t) ∙ after_none _ at refl refl

pub after_int : (n : ℤ) (at : NewsAndCalls) → after (expr_part (nexpr.Int n)) at ≡ at
after_int n at = after_part _ _ at (part_int n) ∙ after_none _ at refl refl

pub after_param : (p : ℕ) (at : NewsAndCalls) → after (expr_part (nexpr.Param p)) at ≡ at
after_param p at = after_part _ _ at (part_param p) ∙ after_none _ at refl refl

pub after_object : (class : ℕ) (args : List NExpr) (at : NewsAndCalls)
    → after (expr_part (nexpr.New class args)) at
    ≡ after (row (map expr_part args)) (one_new at)
after_object class args at =
    after_part _ _ at (part_new class args) ∙ after_new class (map expr_part args) at

pub after_field : (e : NExpr) (field : ℕ) (at : NewsAndCalls)
    → after (expr_part (nexpr.Field e field)) at ≡ after (expr_part e) at
after_field e field at =
    after_part _ _ at (part_field e field) ∙ after_same _ (expr_part e) at refl refl

pub after_sum : (a b : NExpr) (at : NewsAndCalls)
    → after (expr_part (nexpr.Sum a b)) at ≡ after (expr_part b) (after (expr_part a) at)
after_sum a b at =
    after_part _ _ at (part_sum a b)
    ∙ after_join (expr_part a) (expr_part b) _ at refl
    (length-append (expr_part a).called (expr_part b).called)

pub after_if : (c : NCond) (a b : NExpr) (at : NewsAndCalls)
    → after (expr_part (nexpr.If c a b)) at
    ≡ after (expr_part b) (after (expr_part a) (after (cond_part c) at))
after_if c a b at =
    after_part _ _ at (part_if c a b) ∙ after_chosen (cond_part c) (expr_part a) (expr_part b) at

pub after_called : (f : CallName) (args : List NExpr) (at : NewsAndCalls)
    → after (expr_part (nexpr.Call f args)) at ≡ after (row (map expr_part args)) at
after_called f args at =
    after_part _ _ at (part_call f args) ∙ after_same _ (row (map expr_part args)) at refl refl

pub after_by_name : (f : ParamCall) (p : ℕ) (at : NewsAndCalls)
    → after (expr_part (nexpr.ByName f p)) at ≡ after (by_param f p) at
after_by_name f p at = after_part _ _ at (part_by_name f p)

pub after_or_else : (p : ℕ) (e : NExpr) (at : NewsAndCalls)
    → after (expr_part (nexpr.OrElse p e)) at ≡ after (expr_part e) at
after_or_else p e at =
    after_part _ _ at (part_or_else p e) ∙ after_same _ (expr_part e) at refl refl

pub ruleset expressions = (
  after_text,
  after_int,
  after_param,
  after_object,
  after_field,
  after_sum,
  after_if,
  after_called,
  after_by_name,
  after_or_else,
)

-- ---- conditions

pub after_equal : (a b : NExpr) (at : NewsAndCalls)
    → after (cond_part (ncond.Equal a b)) at ≡ after (expr_part b) (after (expr_part a) at)
after_equal a b at =
    after_part _ _ at (part_equal a b)
    ∙ after_join (expr_part a) (expr_part b) _ at refl
    (length-append (expr_part a).called (expr_part b).called)

pub after_less : (a b : NExpr) (at : NewsAndCalls)
    → after (cond_part (ncond.Less a b)) at ≡ after (expr_part b) (after (expr_part a) at)
after_less a b at =
    after_part _ _ at (part_less a b)
    ∙ after_join (expr_part a) (expr_part b) _ at refl
    (length-append (expr_part a).called (expr_part b).called)

pub after_has : (p : ℕ) (at : NewsAndCalls) → after (cond_part (ncond.Has p)) at ≡ at
after_has p at = after_part _ _ at (part_has p) ∙ after_none _ at refl refl

pub after_is_ok : (p : ℕ) (at : NewsAndCalls) → after (cond_part (ncond.IsOk p)) at ≡ at
after_is_ok p at = after_part _ _ at (part_is_ok p) ∙ after_none _ at refl refl

pub ruleset conditions = (after_equal, after_less, after_has, after_is_ok)

-- ---- trees

pub after_leaf : (e : NExpr) (at : NewsAndCalls)
    → after (tree_part (ntree.Leaf e)) at ≡ after (expr_part e) at
after_leaf e at = after_part _ _ at (part_leaf e) ∙ after_same _ (expr_part e) at refl refl

pub after_await : (p : ℕ) (at : NewsAndCalls)
    → after (tree_part (ntree.Await p)) at ≡ one_call at
after_await p at = after_part _ _ at (part_await p) ∙ after_call _ at refl refl

pub after_choice : (c : NCond) (a b : NTree) (at : NewsAndCalls)
    → after (tree_part (ntree.If c a b)) at
    ≡ after (tree_part b) (after (tree_part a) (after (cond_part c) at))
after_choice c a b at =
    after_part _ _ at (part_choice c a b)
    ∙ after_chosen (cond_part c) (tree_part a) (tree_part b) at

pub ruleset trees = (after_leaf, after_await, after_choice)

-- ---- parts that are looked at

pub after_looked : (p : Part Value) (at : NewsAndCalls) → after (looked_part p) at ≡ after p at
after_looked p at = after_same (looked_part p) p at refl refl

pub after_pair : (a b : Part Value) (at : NewsAndCalls)
    → after (pair_part a b) at ≡ after (looked_part b) (after (looked_part a) at)
after_pair a b at =
    after_join (looked_part a) (looked_part b) (pair_part a b) at refl
    (length-append a.called b.called)

-- after both parts, as the whole counts them
pub after_both : (a b : Part Value) (at : NewsAndCalls)
    → after (pair_part a b) at ≡ after b (after a at)
after_both a b at =
    after_pair a b at ∙ after_looked b (after (looked_part a) at)
    ∙ ap (λ (u : NewsAndCalls). after b u) (after_looked a at)
