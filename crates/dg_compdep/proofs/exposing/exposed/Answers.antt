use Rattle.std.proofs.Common.{ap, sym, length, subst, arith, rules, ◌<◌}
use Rattle.std.specs.Prelude.{All}
use Rattle.dg_decl.specs.Components.{class_count}
use Rattle.dg_slots.proofs.ClassLemmas.{deps_few}
use Rattle.dg_compdep.proofs.ExposingLemmas.{deps_small, deps_at, exposed_end}
use Rattle.dg_compdep.proofs.exposing.exposed.Goals as goal

pub exposed_to-requires-clause-deps : goal.exposed_to-requires-clause-deps
exposed_to-requires-clause-deps c =
    let doc = c.args.d.now in
    let i = c.loop-class.class-index in
    let is = deps_at doc c.as_slice-classes.result.now i c.class-item.result c.as_slice.result.now
    (search rules) c.loop-class-test.true c.class-item.is c.as_slice.ensures in
    subst (All (λ d. d < class_count doc)) (sym is) (deps_small doc i)

pub exposed_to-requires-clause-few : goal.exposed_to-requires-clause-few
exposed_to-requires-clause-few c =
    let doc = c.args.d.now in
    let i = c.loop-class.class-index in
    let is = deps_at doc c.as_slice-classes.result.now i c.class-item.result c.as_slice.result.now
    (search rules) c.loop-class-test.true c.class-item.is c.as_slice.ensures in
    omega (arith, ap length is, deps_few doc i, c.requires.bounded.items)

pub returns : goal.returns
returns c = record {
  exact = exposed_end c.args.d.now c.as_slice-classes.result.now c.loop-class.class-index
      c.loop-class.lists.items
      (search rules) c.loop-class.auto.class-index-end c.loop-class-test.false
      c.loop-class.invariant;
}
