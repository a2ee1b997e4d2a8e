-- Where trees end, and what they await.
use Rattle.std.proofs.Common.{◌≡◌, ℕ, List, ◌++◌, Option, Some, None, Result, Ok, Err, Contains, slice_get, refl, sym, subst, arith}
use Rattle.std.proofs.lemmas.List.Elements.{Contains-append_left, Contains-append_right}
use Rattle.dg_types.specs.declared.memory.NoMemory.{NoMemory}
use Rattle.dg_decl.specs.declared.document.Doc.{Doc}
use Rattle.dg_slots.specs.declared.body.NCond.{NCond}
use Rattle.dg_slots.specs.declared.body.NTree.{NTree}
use Rattle.dg_slots.specs.declared.body.NTree.TheVariants as ntree
use Rattle.dg_slots.specs.declared.plan.Plan.{Plan}
use Rattle.dg_value.specs.declared.value.Value.{Value}
use Rattle.dg_eval.specs.declared.world.World.{World}
use Rattle.dg_eval.specs.Operations.{or_mistyped}
use Rattle.dg_eval.specs.Bodies.{End, Part, cond_part, tree_part}
use Rattle.dg_eval.specs.Meaning.{param_in}
use Rattle.dg_requests.specs.declared.calls.End.{End as Ended}
use Rattle.dg_requests.specs.Scopes.{Scope, IsFit}
use Rattle.dg_requests.specs.Results.{Gave, as_end, ends}
use Rattle.dg_bodies.specs.Made.{when_counted}
use Rattle.dg_bodies.specs.Sites.{AwaitsFit}
use Rattle.dg_bodies.proofs.PartForms.{part_await, part_choice}

pub ends_counted : (end : Ended) (counted : Result (Unit {0}) NoMemory)
    → ends (when_counted end counted) ≡ when_counted (as_end end) counted
ends_counted end (Ok u) = refl
ends_counted end (Err e) = refl

pub fit_over : (s : Scope) (plan other : Plan) (world there : World) → plan ≡ other
    → world ≡ there → IsFit s other there → IsFit s plan world
fit_over s plan other world there e f h =
    subst (λ (p : Plan). IsFit s p world) (sym e)
    (subst (λ (w : World). IsFit s other w) (sym f) h)

pub given_param : (ps : List Value) (p : ℕ) (v : Value) → Gave (param_in ps p) (Ok v)
    → slice_get ps p ≡ Some v
given_param ps p v h = at (slice_get ps p) h
  where
    at : (o : Option Value) → Gave (or_mistyped o) (Ok v) → o ≡ Some v
    at None e = cc
    at (Some w) e = cc

pub await_here : (p : ℕ) → Contains (tree_part (ntree.Await p)).called p
await_here p =
    subst (λ (q : Part End). Contains q.called p) (sym (part_await p)) (0, omega arith, refl)

pub awaits_yes : (doc : Doc) (params : List Value) (c : NCond) (a b : NTree)
    → AwaitsFit doc (tree_part (ntree.If c a b)).called params
    → AwaitsFit doc (tree_part a).called params
awaits_yes doc params c a b h p v k e =
    h p v (subst (λ (q : Part End). Contains q.called p) (sym (part_choice c a b))
    (Contains-append_left ((cond_part c).called ++ (tree_part a).called) (tree_part b).called p
    (Contains-append_right (cond_part c).called (tree_part a).called p k))) e

pub awaits_no : (doc : Doc) (params : List Value) (c : NCond) (a b : NTree)
    → AwaitsFit doc (tree_part (ntree.If c a b)).called params
    → AwaitsFit doc (tree_part b).called params
awaits_no doc params c a b h p v k e =
    h p v (subst (λ (q : Part End). Contains q.called p) (sym (part_choice c a b))
    (Contains-append_right ((cond_part c).called ++ (tree_part a).called) (tree_part b).called p
    k)) e
