-- Where a body is evaluated, and what its parts give there.
use Rattle.std.specs.Prelude.{◌≡◌, ℕ, List, Some, Contains, slice_get}
use Rattle.dg_slots.specs.declared.plan.Plan.{Plan}
use Rattle.dg_value.specs.declared.place.Place.{Place}
use Rattle.dg_value.specs.declared.value.Value.{Value}
use Rattle.dg_decl.specs.declared.expression.CallName.{CallName}
use Rattle.dg_decl.specs.declared.expression.CallName.TheVariants as call
use Rattle.dg_value.specs.declared.value.Value.{out-Value}
use Rattle.dg_eval.specs.Runs.{Run, gives, mistyped}
use Rattle.dg_eval.specs.Operations.{int_in, text_in, decimal_of, size_at, fail_of}
use Rattle.dg_eval.specs.Bodies.{Around, Part, looked, of_two}
use Rattle.dg_eval.specs.Meaning.{eval, around}
use Rattle.dg_decl.specs.declared.document.Doc.{Doc}
use Rattle.dg_requests.specs.Scopes.{Scope}
use Rattle.dg_requests.specs.Contexts.{AwaitFits}
use Rattle.dg_bodies.specs.declared.counters.NewsAndCalls.{NewsAndCalls}

-- the plan, the slot whose body it is, its place and the parameters
pub record Site : Type 0 where
  pub plan : Plan
  pub slot : ℕ
  pub place : Place
  pub params : List Value

-- what a body sees there, over the evaluation at this depth
abbrev pub seen : Scope → ℕ → Site → Around
seen s depth site = around s.doc (eval s.doc depth) depth site.slot site.place site.params

-- what a part gives, where so many `new` and calls stand before it
abbrev pub run_at : {A : Type 0} → Part A → Around → NewsAndCalls → Run A
run_at part s at = part.run s at.news at.calls

-- a part, and the content behind its value
abbrev pub looked_part : Part Value → Part Value
looked_part p = record { news = p.news; called = p.called; run = looked p }

-- the contents behind the values of two parts
abbrev pub pair_part : Part Value → Part Value → Part (Value × Value)
pair_part a b = of_two a b (λ s v w. gives (v, w))

-- what a function of one argument gives of the content behind it, in the body of a slot
abbrev pub applied_to : CallName → ℕ → Value → Run Value
applied_to call.TextOf origin v = decimal_of (int_in v)
applied_to call.Size origin v = size_at (out-Value v)
applied_to call.Fail origin v = fail_of origin (text_in v)
applied_to other origin v = mistyped

-- of the parameters that a body calls, each is one that may be awaited
abbrev pub AwaitsFit : Doc → List ℕ → List Value → Type 0
AwaitsFit doc called params =
    (p : ℕ) (v : Value) → Contains called p → slice_get params p ≡ Some v → AwaitFits doc v
