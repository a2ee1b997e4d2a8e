use Rattle.std.proofs.Common.{List, Some, Ok, refl, sym, ap}
use Rattle.std.proofs.lemmas.Bool.{false≢true}
use Rattle.dg_value.specs.declared.value.Value.{Value}
use Rattle.dg_eval.specs.Meaning.{node_in, given, eval}
use Rattle.dg_requests.proofs.RanLemmas.{ran_plain}
use Rattle.dg_requests.proofs.AllRuns.{can_at_index, ran_at_index, ran_lacks_at}
use Rattle.dg_requests.proofs.GivingLemmas.{fit_is_context, node_there, input_here, ran_all}
use Rattle.dg_requests.proofs.giving.given.Goals as goal

pub loop-index-init : goal.loop-index-init
loop-index-init g c = record {
  ran = λ n is. ran_plain g.S.InScope.scope _ _ _ refl
      (ap (λ (l : List Value). Some (Ok l)) (sym c.new.ensures));
  same = c.requires.same;
}

pub unreachable-requires-in_default-target_at : goal.unreachable-requires-in_default-target_at
unreachable-requires-in_default-target_at g c =
    let doc = g.S.InScope.scope.doc in
    let f = eval doc c.args.depth in
    let of = fit_is_context g.S.InScope.scope c.args.plan.now c.args.world.now c.requires.fit in
    let n = node_there (node_in doc c.args.inst c.args.slot) c.requires.there in
    let x = input_here doc c.args.plan.now c.args.world.now of f c.args.inst c.args.slot
    c.loop-index.index n.0 c.args.place.now c.in-Some.found.now c.as_slice-input-items.result.now _
    n.1 (c.in-Some.ensures.exact doc of) c.as_slice-input-items.ensures c.loop-index-test.true in
    absurd (false≢true (c.in_default-target_at.ensures.found doc c.args.plan.now of c.args.slot
    c.loop-index.index n.0 x.dependency x.is_input))

pub give_input-next-requires-clause-can : goal.give_input-next-requires-clause-can
give_input-next-requires-clause-can g c =
    let doc = g.S.InScope.scope.doc in
    let f = eval doc c.args.depth in
    let of = fit_is_context g.S.InScope.scope c.args.plan.now c.args.world.now c.requires.fit in
    let n = node_there (node_in doc c.args.inst c.args.slot) c.requires.there in
    let x = input_here doc c.args.plan.now c.args.world.now of f c.args.inst c.args.slot
    c.loop-index.index n.0 c.args.place.now c.in-Some.found.now c.as_slice-input-items.result.now _
    n.1 (c.in-Some.ensures.exact doc of) c.as_slice-input-items.ensures c.loop-index-test.true in
    can_at_index g.S.InScope.scope (given doc f c.args.inst n.0 c.args.place.now)
    c.loop-index.index _
    (x.run c.in-Some-target_at.target (c.in-Some-target_at.ensures.exact doc c.args.plan.now of
    c.args.slot c.loop-index.index n.0 x.dependency x.is_input))
    (c.requires.can n.0 n.1)

pub returns-then-matches-clause-ran : goal.returns-then-matches-clause-ran
returns-then-matches-clause-ran g c = λ n is.
    let doc = g.S.InScope.scope.doc in
    let f = eval doc c.args.depth in
    let of = fit_is_context g.S.InScope.scope c.args.plan.now c.args.world.now c.requires.fit in
    let x = input_here doc c.args.plan.now c.args.world.now of f c.args.inst c.args.slot
    c.loop-index.index n c.args.place.now c.in-Some.found.now c.as_slice-input-items.result.now _
    is (c.in-Some.ensures.exact doc of) c.as_slice-input-items.ensures c.loop-index-test.true in
    ran_lacks_at g.S.InScope.scope (given doc f c.args.inst n c.args.place.now) _ _ _
    c.and_next-so_far.result (c.requires.can n is)
    (ran_at_index g.S.InScope.scope (given doc f c.args.inst n c.args.place.now) c.loop-index.index _
    _ _ _ c.loop-index.so_far c.and_next-so_far.result c.give_input-next.result
    (x.run c.in-Some-target_at.target (c.in-Some-target_at.ensures.exact doc c.args.plan.now of
    c.args.slot c.loop-index.index n x.dependency x.is_input))
    (c.requires.can n is) (c.loop-index.invariant.ran n is) c.give_input-next.ensures.ran
    c.and_next-so_far.ensures.exact)

pub loop-index-preserved : goal.loop-index-preserved
loop-index-preserved g c = record {
  ran = λ n is.
      let doc = g.S.InScope.scope.doc in
      let f = eval doc c.args.depth in
      let of = fit_is_context g.S.InScope.scope c.args.plan.now c.args.world.now c.requires.fit in
      let x = input_here doc c.args.plan.now c.args.world.now of f c.args.inst c.args.slot
      c.loop-index.index n c.args.place.now c.in-Some.found.now c.as_slice-input-items.result.now _
      is (c.in-Some.ensures.exact doc of) c.as_slice-input-items.ensures c.loop-index-test.true in
      ran_at_index g.S.InScope.scope (given doc f c.args.inst n c.args.place.now) c.loop-index.index _
      _ _ _ c.loop-index.so_far c.and_next-so_far.result c.give_input-next.result
      (x.run c.in-Some-target_at.target (c.in-Some-target_at.ensures.exact doc c.args.plan.now of
      c.args.slot c.loop-index.index n x.dependency x.is_input))
      (c.requires.can n is) (c.loop-index.invariant.ran n is) c.give_input-next.ensures.ran
      c.and_next-so_far.ensures.exact;
  same = c.give_input-next.ensures.same;
}

pub returns-clause-ran : goal.returns-clause-ran
returns-clause-ran g c = λ n is.
    let doc = g.S.InScope.scope.doc in
    let f = eval doc c.args.depth in
    let of = fit_is_context g.S.InScope.scope c.args.plan.now c.args.world.now c.requires.fit in
    ran_all g.S.InScope.scope of.accepted f c.args.inst c.args.slot c.loop-index.index n
    c.args.place.now c.in-Some.found.now c.as_slice-input-items.result.now _ _ c.loop-index.so_far
    is (c.in-Some.ensures.exact doc of) c.as_slice-input-items.ensures c.loop-index-test.false
    (c.loop-index.invariant.ran n is)
