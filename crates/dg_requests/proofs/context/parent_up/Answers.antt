use Rattle.std.proofs.Common.{◌≡◌, ◌≤◌, ◌+◌, ◌∙◌, Some, None, slice_get, sym, ap, arith}
use Rattle.dg_decl.specs.Components.{walk}
use Rattle.dg_requests.specs.Contexts.{parent_at}
use Rattle.dg_requests.proofs.ContextLemmas.{goes_on, goes_to, goes_nowhere}
use Rattle.dg_requests.proofs.context.parent_up.Goals as goal

pub returns-in-None : goal.returns-in-None
returns-in-None c = record {
  exact = λ steps lt.
      let le : c.loop-step.step + 1 ≤ c.args.level = omega (arith, c.loop-step-test.true) in
      goes_nowhere (parent_at c.args.world.now.parent) c.args.inst (c.loop-step.step + 1)
      c.args.level
      (goes_on (parent_at c.args.world.now.parent) c.args.inst c.loop-step.step c.loop-step.at None
      c.loop-step.invariant (sym c.in-None.is ∙ c.parent_of.ensures.exact)) le steps lt;
}

pub loop-step-preserved : goal.loop-step-preserved
loop-step-preserved c =
    goes_on (parent_at c.args.world.now.parent) c.args.inst c.loop-step.step c.loop-step.at
    (Some c.in-Some.parent) c.loop-step.invariant (sym c.in-Some.is ∙ c.parent_of.ensures.exact)

pub returns : goal.returns
returns c = record {
  exact = λ steps lt.
      let same : c.loop-step.step ≡ c.args.level =
      omega (arith, c.loop-step-test.false, c.loop-step.auto.step-end) in
      goes_to (parent_at c.args.world.now.parent) c.args.inst c.loop-step.step c.loop-step.at
      c.loop-step.invariant steps (omega (arith, lt, same))
      ∙ ap (slice_get (walk (parent_at c.args.world.now.parent) steps (Some c.args.inst))) same;
}
