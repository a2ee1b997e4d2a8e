-- What the parts of a body give, by their forms: each a run and what goes on with its result.
use Rattle.std.proofs.Common.{◌≡◌, ◌+◌, ℕ, suc, cond, List, length, map, Option, Some, None, refl, sym, ap, ◌∙◌, arith}
use Rattle.dg_decl.specs.declared.expression.CallName.{CallName}
use Rattle.std.specs.Prelude.{ℤ}
use Rattle.dg_lex.specs.Bytes.{Bytes}
use Rattle.dg_decl.specs.declared.expression.ParamCall.{ParamCall}
use Rattle.dg_decl.specs.declared.expression.ParamCall.TheVariants as by_name
use Rattle.dg_slots.specs.declared.body.NExpr.{NExpr}
use Rattle.dg_slots.specs.declared.body.NExpr.TheVariants as nexpr
use Rattle.dg_slots.specs.declared.body.NCond.{NCond}
use Rattle.dg_slots.specs.declared.body.NCond.TheVariants as ncond
use Rattle.dg_slots.specs.declared.body.NTree.{NTree}
use Rattle.dg_slots.specs.declared.body.NTree.TheVariants as ntree
use Rattle.dg_value.specs.declared.place.Place.{Place}
use Rattle.dg_value.specs.declared.place.PlaceStep.TheVariants as step
use Rattle.dg_value.specs.Places.{then_step}
use Rattle.dg_value.specs.declared.value.Value.{Value}
use Rattle.dg_value.specs.declared.value.Value.TheVariants as value
use Rattle.dg_eval.specs.Runs.{Run, gives, and_then}
use Rattle.dg_eval.specs.Operations.{or_mistyped, field_in, sum_in, less_in, equal_in, inside_in, has_in, is_ok_in}
use Rattle.dg_eval.specs.Bodies.{value_end, Around, Part, of_two, inside_or, called_with, by_param, expr_part, cond_part, tree_part}
use Rattle.dg_bodies.specs.declared.counters.NewsAndCalls.{NewsAndCalls}
use Rattle.dg_bodies.specs.Counts.{one_new, after, row}
use Rattle.dg_bodies.specs.Sites.{run_at, looked_part, pair_part}
use Rattle.dg_bodies.proofs.RunLists.{then_then, gives_then}
use Rattle.dg_bodies.proofs.PartForms.{part_text, part_int, part_param, part_new, part_field, part_sum, part_if, part_call, part_by_name, part_or_else, part_equal, part_less, part_has, part_is_ok, part_leaf, part_await, part_choice}

as_part : {A : Type 0} (p q : Part A) (s : Around) (at : NewsAndCalls) → p ≡ q
    → run_at p s at ≡ run_at q s at
as_part {A} p q s at e = ap (λ (u : Part A). run_at u s at) e

run_after : {A B : Type 0} (p : Part A) (q : Part B) (s : Around) (at next : NewsAndCalls)
    → next ≡ after p at → q.run s (at.news + p.news) (at.calls + length p.called) ≡ run_at q s next
unfolding after
run_after {A} {B} p q s at next e = ap (λ (a : NewsAndCalls). run_at q s a) (sym e)

pub pair_run : (a b : Part Value) (s : Around) (at next : NewsAndCalls)
    → next ≡ after (looked_part a) at
    → run_at (pair_part a b) s at
    ≡ and_then (run_at (looked_part a) s at)
    (λ v. and_then (run_at (looked_part b) s next) (λ w. gives (v, w)))
pair_run a b s at next e =
    (λ i. and_then (run_at (looked_part a) s at) (λ v.
    and_then (run_after (looked_part a) (looked_part b) s at next e i) (λ w. gives (v, w))))

-- what is made of both contents
two_run : {B : Type 0} (a b : Part Value) (next : Around → Value → Value → Run B) (s : Around)
    → (at : NewsAndCalls)
    → run_at (of_two a b next) s at
    ≡ and_then (run_at (pair_part a b) s at) (λ p. next s p.0 p.1)
two_run {B} a b next s at =
    let second : Run Value =
    run_at (looked_part b) s (record { news = at.news + a.news; calls = at.calls + length a.called }) in
    let both : Value → Run (Value × Value) = λ v. and_then second (λ w. gives (v, w)) in
    let made : Value × Value → Run B = λ p. next s p.0 p.1 in
    sym (then_then (run_at (looked_part a) s at) both made
    ∙ (λ i. and_then (run_at (looked_part a) s at) (λ v.
    (then_then second (λ w. gives (v, w)) made
    ∙ (λ j. and_then second (λ w. gives_then (v, w) made j))) i)))

pub sum_run : (a b : NExpr) (s : Around) (at : NewsAndCalls)
    → run_at (expr_part (nexpr.Sum a b)) s at
    ≡ and_then (run_at (pair_part (expr_part a) (expr_part b)) s at)
    (λ p. sum_in s.origin p.0 p.1)
sum_run a b s at =
    as_part _ _ s at (part_sum a b)
    ∙ two_run (expr_part a) (expr_part b) (λ s. sum_in s.origin) s at

pub equal_run : (a b : NExpr) (s : Around) (at : NewsAndCalls)
    → run_at (cond_part (ncond.Equal a b)) s at
    ≡ and_then (run_at (pair_part (expr_part a) (expr_part b)) s at) (λ p. equal_in p.0 p.1)
equal_run a b s at =
    as_part _ _ s at (part_equal a b)
    ∙ two_run (expr_part a) (expr_part b) (λ s. equal_in) s at

pub less_run : (a b : NExpr) (s : Around) (at : NewsAndCalls)
    → run_at (cond_part (ncond.Less a b)) s at
    ≡ and_then (run_at (pair_part (expr_part a) (expr_part b)) s at) (λ p. less_in p.0 p.1)
less_run a b s at =
    as_part _ _ s at (part_less a b)
    ∙ two_run (expr_part a) (expr_part b) (λ s. less_in) s at

pub field_run : (e : NExpr) (k : ℕ) (s : Around) (at : NewsAndCalls)
    → run_at (expr_part (nexpr.Field e k)) s at
    ≡ and_then (run_at (looked_part (expr_part e)) s at) (field_in k)
field_run e k s at = as_part _ _ s at (part_field e k)

pub object_run : (class : ℕ) (args : List NExpr) (s : Around) (at next : NewsAndCalls)
    → (number : ℕ) (ident : Place) → next ≡ one_new at → number ≡ at.news + 1
    → ident ≡ then_step s.place (step.New number)
    → run_at (expr_part (nexpr.New class args)) s at
    ≡ and_then (run_at (row (map expr_part args)) s next)
    (λ vs. gives (value.Object class ident vs))
object_run class args s at next number ident e f g =
    let more : suc at.news ≡ at.news + 1 = omega arith in
    let start : run_at (row (map expr_part args)) s (record { news = suc at.news; calls = at.calls })
    ≡ run_at (row (map expr_part args)) s next =
    (λ i. run_at (row (map expr_part args)) s (record { news = more i; calls = at.calls }))
    ∙ ap (λ (a : NewsAndCalls). run_at (row (map expr_part args)) s a) (sym e) in
    let there : then_step s.place (step.New (suc at.news)) ≡ ident =
    ap (λ n. then_step s.place (step.New n)) (more ∙ sym f) ∙ sym g in
    as_part _ _ s at (part_new class args)
    ∙ (λ i. and_then (start i) (λ vs. gives (value.Object class (there i) vs)))

pub if_run : (c : NCond) (a b : NExpr) (s : Around) (at then_at else_at : NewsAndCalls)
    → then_at ≡ after (cond_part c) at → else_at ≡ after (expr_part a) then_at
    → run_at (expr_part (nexpr.If c a b)) s at
    ≡ and_then (run_at (cond_part c) s at) (λ holds.
    cond holds (run_at (expr_part a) s then_at) (run_at (expr_part b) s else_at))
unfolding after
if_run c a b s at then_at else_at e f =
    as_part _ _ s at (part_if c a b)
    ∙ (λ i. and_then (run_at (cond_part c) s at) (λ holds.
    cond holds (run_at (expr_part a) s (sym e i))
    (run_at (expr_part b) s ((ap (after (expr_part a)) (sym e) ∙ sym f) i))))

pub choice_run : (c : NCond) (a b : NTree) (s : Around) (at then_at else_at : NewsAndCalls)
    → then_at ≡ after (cond_part c) at → else_at ≡ after (tree_part a) then_at
    → run_at (tree_part (ntree.If c a b)) s at
    ≡ and_then (run_at (cond_part c) s at) (λ holds.
    cond holds (run_at (tree_part a) s then_at) (run_at (tree_part b) s else_at))
unfolding after
choice_run c a b s at then_at else_at e f =
    as_part _ _ s at (part_choice c a b)
    ∙ (λ i. and_then (run_at (cond_part c) s at) (λ holds.
    cond holds (run_at (tree_part a) s (sym e i))
    (run_at (tree_part b) s ((ap (after (tree_part a)) (sym e) ∙ sym f) i))))

pub called_run : (f : CallName) (args : List NExpr) (s : Around) (at : NewsAndCalls)
    → run_at (expr_part (nexpr.Call f args)) s at
    ≡ and_then (run_at (row (map expr_part args)) s at) (called_with f s)
called_run f args s at = as_part _ _ s at (part_call f args)

-- what is inside an optional, or else the other
abbrev pub or_other : Option Value → Run Value → Run Value
or_other None other = other
or_other (Some v) other = gives v

inside_then : (o : Option (Option Value)) (other : Run Value)
    → inside_or o other ≡ and_then (or_mistyped o) (λ o. or_other o other)
inside_then None other = refl
inside_then (Some None) other = sym (gives_then None (λ o. or_other o other))
inside_then (Some (Some v)) other = refl

pub or_else_run : (p : ℕ) (e : NExpr) (s : Around) (at : NewsAndCalls)
    → run_at (expr_part (nexpr.OrElse p e)) s at
    ≡ and_then (and_then (s.param p) (λ v. or_mistyped (inside_in v)))
    (λ o. or_other o (run_at (expr_part e) s at))
or_else_run p e s at =
    let other = run_at (expr_part e) s at in
    as_part _ _ s at (part_or_else p e)
    ∙ (λ i. and_then (s.param p) (λ v. inside_then (inside_in v) other i))
    ∙ sym (then_then (s.param p) (λ v. or_mistyped (inside_in v)) (λ o. or_other o other))

pub text_run : (t : Bytes) (s : Around) (at : NewsAndCalls)
    → run_at (expr_part (nexpr.Text t)) s at ≡ gives (value.Text t)
text_run t s at = as_part _ _ s at (part_text t)

pub int_run : (n : ℤ) (s : Around) (at : NewsAndCalls)
    → run_at (expr_part (nexpr.Int n)) s at ≡ gives (value.Int n)
int_run n s at = as_part _ _ s at (part_int n)

pub param_run : (p : ℕ) (s : Around) (at : NewsAndCalls)
    → run_at (expr_part (nexpr.Param p)) s at ≡ s.param p
param_run p s at = as_part _ _ s at (part_param p)

pub has_run : (p : ℕ) (s : Around) (at : NewsAndCalls)
    → run_at (cond_part (ncond.Has p)) s at ≡ and_then (s.param p) has_in
has_run p s at = as_part _ _ s at (part_has p)

pub is_ok_run : (p : ℕ) (s : Around) (at : NewsAndCalls)
    → run_at (cond_part (ncond.IsOk p)) s at ≡ and_then (s.param p) is_ok_in
is_ok_run p s at = as_part _ _ s at (part_is_ok p)

pub by_name_run : (f : ParamCall) (p : ℕ) (s : Around) (at : NewsAndCalls)
    → run_at (expr_part (nexpr.ByName f p)) s at ≡ run_at (by_param f p) s at
by_name_run f p s at = as_part _ _ s at (part_by_name f p)

pub leaf_run : (e : NExpr) (s : Around) (at : NewsAndCalls)
    → run_at (tree_part (ntree.Leaf e)) s at
    ≡ and_then (run_at (expr_part e) s at) (λ v. gives (value_end v))
leaf_run e s at = as_part _ _ s at (part_leaf e)

pub await_run : (p : ℕ) (s : Around) (at : NewsAndCalls) (number : ℕ) (place : Place)
    → number ≡ at.calls + 1 → place ≡ then_step s.place (step.Call number)
    → run_at (tree_part (ntree.Await p)) s at ≡ s.awaited p place
await_run p s at number place e f =
    let more : suc at.calls ≡ at.calls + 1 = omega arith in
    as_part _ _ s at (part_await p)
    ∙ ap (s.awaited p) (ap (λ n. then_step s.place (step.Call n)) (more ∙ sym e) ∙ sym f)

pub get_run : (p : ℕ) (s : Around) (at : NewsAndCalls) (number : ℕ) (place : Place)
    → number ≡ at.calls + 1 → place ≡ then_step s.place (step.Call number)
    → run_at (by_param by_name.Get p) s at ≡ s.got p place
get_run p s at number place e f =
    let more : suc at.calls ≡ at.calls + 1 = omega arith in
    ap (s.got p) (ap (λ n. then_step s.place (step.Call n)) (more ∙ sym e) ∙ sym f)
