use Rattle.std.proofs.Common.{None, false, true, Some}
use Rattle.std.proofs.lemmas.Bool.{false≢true}
use Rattle.dg_decl.specs.Graph.{nodes}
use Rattle.dg_decl.proofs.MemberLemmas.{in_got}
use Rattle.dg_eval.specs.Meaning.{node_in}
use Rattle.dg_requests.proofs.ContextLemmas.{in_class_is}
use Rattle.dg_requests.proofs.Behind.{behind_here, behind_none, input_for, step_is, positive, slot_is, cell_is, passed_is, no_steps}
use Rattle.dg_requests.proofs.context.+producer_within.Goals as goal

pub returns-then-is_producer : goal.returns-then-is_producer
returns-then-is_producer t c = record {
  exact = λ doc of n is short may.
      let at = (in_class_is doc c.args.at.inst c.args.at.slot n is).0 in
      let same = slot_is doc n c.in-Some.slot.now (node_in doc c.args.at.inst c.args.at.slot)
      (c.in-Some.ensures.exact doc of) is in
      behind_here doc n c.args.at (in_got (nodes doc) c.args.at.slot n at) at
      (cell_is doc n c.in-Some.slot.now true same c.if-is_producer.ensures.exact);
}

pub returns-then-steps-eq0 : goal.returns-then-steps-eq0
returns-then-steps-eq0 t c = record {
  exact = λ doc of n is short may. no_steps doc n c.args.steps short c.if-steps-eq0.true;
}

pub returns-in_default-passed_input : goal.returns-in_default-passed_input
returns-in_default-passed_input t c = record {
  exact = λ doc of n is short may.
      let at = (in_class_is doc c.args.at.inst c.args.at.slot n is).0 in
      let same = slot_is doc n c.in-Some.slot.now (node_in doc c.args.at.inst c.args.at.slot)
      (c.in-Some.ensures.exact doc of) is in
      behind_none doc of.accepted c.args.at.inst c.args.at.slot n
      (in_got (nodes doc) c.args.at.slot n at)
      (cell_is doc n c.in-Some.slot.now false same c.if-is_producer.ensures.exact)
      (passed_is doc n c.in-Some.slot.now None same c.in_default-passed_input.ensures.exact) may;
}

pub returns-in_default-target_at : goal.returns-in_default-target_at
returns-in_default-target_at t c = record {
  exact = λ doc of n is short may.
      let same = slot_is doc n c.in-Some.slot.now (node_in doc c.args.at.inst c.args.at.slot)
      (c.in-Some.ensures.exact doc of) is in
      let x = c.in-Some-passed_input.input.now in
      let asks = input_for doc of.accepted c.args.at.inst c.args.at.slot n x is
      (passed_is doc n c.in-Some.slot.now (Some x) same c.in-Some-passed_input.ensures.exact) in
      absurd (false≢true (c.in_default-target_at.ensures.found doc c.args.plan.now of
      c.args.at.slot 0 n asks.0 asks.1));
}

pub returns : goal.returns
returns t c = record {
  exact = λ doc of n is short may.
      let same = slot_is doc n c.in-Some.slot.now (node_in doc c.args.at.inst c.args.at.slot)
      (c.in-Some.ensures.exact doc of) is in
      let x = c.in-Some-passed_input.input.now in
      let next = step_is doc c.args.plan.now c.args.world.now of c.args.at.inst c.args.at.slot
      c.args.steps n x c.in-Some-target_at.next is
      (cell_is doc n c.in-Some.slot.now false same c.if-is_producer.ensures.exact)
      (positive c.args.steps c.if-steps-eq0.false) short may
      (passed_is doc n c.in-Some.slot.now (Some x) same c.in-Some-passed_input.ensures.exact)
      (λ m d asks. c.in-Some-target_at.ensures.exact doc c.args.plan.now of c.args.at.slot m n d
      asks) in
      next.behind c.producer_within.result
      (c.producer_within.ensures.exact doc of next.next next.is_next next.short next.may);
}
