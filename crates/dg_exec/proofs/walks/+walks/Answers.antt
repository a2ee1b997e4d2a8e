use Rattle.std.proofs.Common.{◌≡◌, ℕ, suc, ◌-◌, option_map, sym, ap, subst, ◌∙◌, arith}
use Rattle.std.proofs.lemmas.Option.{none-some}
use Rattle.dg_slots.specs.Plans.{slot_of}
use Rattle.dg_requests.specs.Contexts.{WalksAreShort, as_look}
use Rattle.dg_eval.specs.Meaning.{enough}
use Rattle.dg_exec.specs.Jobs.{led_to, reached}
use Rattle.dg_exec.proofs.ReachLemmas.{edge_is, input_at, walked_none, walked_edge, walked_nowhere, walked_next, walked_all, walked_producer, walked_before, walked_now, walked_too_far}
use Rattle.dg_exec.proofs.walks.+walks.Goals as goal

pub follow-returns-then-is_producing : goal.follow-returns-then-is_producing
follow-returns-then-is_producing t c = record {
  exact = λ doc of n is short.
      walked_producer doc c.args.plan.now c.args.world.now of (as_look c.args.at)
      c.args.found.now.keys c.args.done.now.keys c.add.new.cells.keys
      c.if-is_producing.ensures.exact c.in_ok-add.ensures.exact;
}

pub follow-returns-then-depth-eq0 : goal.follow-returns-then-depth-eq0
follow-returns-then-depth-eq0 t c = record {
  exact = λ doc of n is short.
      walked_too_far doc c.args.depth n
      (led_to doc (reached doc enough) (as_look c.args.at))
      c.args.found.now.keys c.args.done.now.keys (omega (arith, c.if-depth-eq0.true)) short;
}

pub follow-returns-then-has : goal.follow-returns-then-has
follow-returns-then-has t c = record {
  exact = λ doc of n is short.
      walked_before doc c.args.plan.now c.args.world.now of (as_look c.args.at) n
      c.args.found.now.keys c.args.done.now.keys c.if-is_producing.ensures.exact is
      c.if-has.ensures.exact;
}

pub follow-returns : goal.follow-returns
follow-returns t c = record {
  exact = λ doc of n is short.
      let deep : c.args.depth ≡ suc (c.args.depth - 1) = omega (arith, c.if-depth-eq0.false) in
      let P : ℕ → Type 0 = λ k. WalksAreShort doc k n in
      walked_now doc c.args.plan.now c.args.world.now of (as_look c.args.at) n
      c.args.found.now.keys c.args.done.now.keys c.reach.new.found.keys c.reach.new.done.keys
      c.add-2.new.cells.keys c.if-is_producing.ensures.exact is
      (c.in_ok-reach.ensures.exact doc of n is (subst P deep short)) c.in_ok-add-2.ensures.exact;
}

pub reach-returns-in_default : goal.reach-returns-in_default
reach-returns-in_default t c = record {
  exact = λ doc of n is short h.
      absurd (none-some (slot_of doc n)
      (c.in_default.ensures.exact doc of ∙ ap (option_map (slot_of doc)) is));
}

pub reach-loop-input-init : goal.reach-loop-input-init
reach-loop-input-init t c = λ doc of n is short.
    walked_none doc c.args.found.now.keys c.args.done.now.keys

pub reach-loop-input-preserved : goal.reach-loop-input-preserved
reach-loop-input-preserved t c = λ doc of n is short.
    let m = c.loop-input.input-index in
    let x = input_at doc c.args.plan.now c.args.world.now of c.args.inst c.args.slot m n
    c.in-Some.here.now c.as_slice-input-items.result.now _ is
    (c.in-Some.ensures.exact doc of) c.as_slice-input-items.ensures c.loop-input-test.true in
    walked_next doc c.args.inst m n x.dependency c.args.found.now.keys c.args.done.now.keys
    c.loop-input.found.keys c.loop-input.done.keys c.enter.new.found.keys c.enter.new.done.keys
    x.is_input.is_dependency (c.loop-input.invariant doc of n is short)
    (c.in_ok-enter.ensures.exact doc of c.args.slot m n x.dependency x.is_input short)

pub reach-returns : goal.reach-returns
reach-returns t c = record {
  exact = λ doc of n is short.
      walked_all doc of.accepted c.args.inst c.args.slot c.loop-input.input-index n
      c.in-Some.here.now c.as_slice-input-items.result.now
      c.args.found.now.keys c.args.done.now.keys c.loop-input.found.keys c.loop-input.done.keys is
      (c.in-Some.ensures.exact doc of) c.as_slice-input-items.ensures c.loop-input-test.false
      (c.loop-input.invariant doc of n is short);
}

pub enter-returns-in_default : goal.enter-returns-in_default
enter-returns-in_default t c = record {
  exact = λ doc of k m n d asks short.
      walked_nowhere doc c.args.inst n d c.args.found.now.keys c.args.done.now.keys
      (c.in_default.ensures.exact doc c.args.plan.now of k m n d asks);
}

pub enter-returns : goal.enter-returns
enter-returns t c = record {
  exact = λ doc of k m n d asks short.
      let to = c.in-Some.ensures.exact doc c.args.plan.now of k m n d asks in
      let e = edge_is doc c.args.depth c.args.inst m n d (as_look c.in-Some.at) short
      asks.is_dependency (sym to) in
      walked_edge doc c.args.inst n d (as_look c.in-Some.at) c.args.found.now.keys
      c.args.done.now.keys c.follow.new.found.keys c.follow.new.done.keys to
      (c.in_ok-follow.ensures.exact doc of e.node e.is_in e.short);
}
