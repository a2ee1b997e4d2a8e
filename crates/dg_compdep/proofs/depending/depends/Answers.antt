use Rattle.dg_compdep.proofs.DependencyLemmas.{step_requires, step_named, step_broken}
use Rattle.dg_compdep.proofs.depending.depends.Goals as goal

pub bad_depends_on-requires : goal.bad_depends_on-requires
bad_depends_on-requires c = record {
  named = step_requires c.args.d.now c.in_ok-classes.classes c.statements-s-items.result.now
      c.loop-s.s-index
      c.s-item.result c.loop-s.named
      (cc (
        c.statements-s-items.ensures.exact,
        c.names.ensures.exact,
        c.in_ok-classes.ensures.exact,
      ))
      c.in_ok-classes.ensures.exact c.loop-s-test.true c.s-item.is c.loop-s.invariant.named;
}

pub loop-s-preserved : goal.loop-s-preserved
loop-s-preserved c = record {
  broken = step_broken c.args.d.now c.in_ok-classes.classes c.statements-s-items.result.now
      c.loop-s.s-index
      c.s-item.result c.loop-s.broken.items c.bad_depends_on.new.broken.items
      (cc (
        c.statements-s-items.ensures.exact,
        c.names.ensures.exact,
        c.in_ok-classes.ensures.exact,
      ))
      c.in_ok-classes.ensures.exact c.loop-s-test.true c.s-item.is c.loop-s.invariant.broken
      c.in_ok-bad_depends_on.ensures.exact;
  named = step_named c.args.d.now c.in_ok-classes.classes c.statements-s-items.result.now
      c.loop-s.s-index
      c.s-item.result c.loop-s.named c.bad_depends_on.new.named
      (cc (
        c.statements-s-items.ensures.exact,
        c.names.ensures.exact,
        c.in_ok-classes.ensures.exact,
      ))
      c.in_ok-classes.ensures.exact c.loop-s-test.true c.s-item.is c.loop-s.invariant.named
      c.in_ok-bad_depends_on.ensures.named;
}
