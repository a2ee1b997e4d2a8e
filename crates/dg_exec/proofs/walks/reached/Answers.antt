use Rattle.dg_exec.proofs.ReachLemmas.{found_all}
use Rattle.dg_exec.proofs.walks.reached.Goals as goal

pub returns : goal.returns
returns c = record {
  exact = λ doc of n is.
      found_all doc c.args.plan.now c.args.world.now of c.args.inst c.args.slot n is
      c.new-found.result.keys c.new-done.result.keys c.reach.new.found.keys c.reach.new.done.keys
      c.new-found.ensures.len c.new-done.ensures.len
      (λ short. c.in_ok-reach.ensures.exact doc of n is short);
}
