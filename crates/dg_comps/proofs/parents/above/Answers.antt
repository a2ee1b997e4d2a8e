use Rattle.dg_comps.proofs.ParentLemmas.{walk_begins, walk_steps, walk_stops, walk_ends}
use Rattle.dg_comps.proofs.parents.above.Goals as goal

pub loop-init : goal.loop-init
loop-init c = walk_begins c.args.parents.now c.args.class c.requires.class c.requires.within

pub loop-preserved : goal.loop-preserved
loop-preserved c =
    walk_steps c.args.parents.now c.args.class c.loop.counter c.loop.set c.with-set.result
    c.in-Some.parent c.loop.next c.loop.invariant c.in-Some.is c.loop-test.true c.requires.within
    c.with-set.ensures.exact

pub returns-in-None : goal.returns-in-None
returns-in-None c = record {
  exact = walk_stops c.args.parents.now c.args.class c.loop.counter c.loop.set c.loop.next
      c.loop.invariant c.in-None.is;
}
