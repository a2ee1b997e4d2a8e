use Rattle.std.proofs.Common.{Some}
use Rattle.dg_requests.specs.Contexts.{parent_at}
use Rattle.dg_requests.proofs.ContextLemmas.{GoesOn}
use Rattle.dg_tree.proofs.parents.parent_up.Given as goal

abbrev pub invariant-loop-step : goal.invariant-loop-step
invariant-loop-step l = GoesOn (parent_at l.parents) l.inst l.step (Some l.at)
