use Rattle.std.proofs.Common.{◌≡◌, ◌+◌, suc, arith}
use Rattle.dg_top.proofs.HeldLemmas.{holds_reply}
use Rattle.dg_top.proofs.LineLemmas.{is_numbered, one_more}
use Rattle.dg_top.proofs.UsedLemmas.{scope_closed, can_run, asked_more, is_stored}
use Rattle.dg_top.proofs.asking.reply_to.Goals as goal

pub eval_ask-requires-clause-fit : goal.eval_ask-requires-clause-fit
eval_ask-requires-clause-fit g c = record {
  accepted = c.requires.context.accepted;
  of_plan = c.requires.context.of_plan;
  of_world = c.requires.context.of_world;
  closed = scope_closed g.D.RunsDoc.document c.requires.context.accepted c.uses_end.ensures.exact;
}

pub eval_ask-requires-clause-can : goal.eval_ask-requires-clause-can
eval_ask-requires-clause-can g c =
    let doc = g.D.RunsDoc.document in
    let next : c.args.index + 1 ≡ suc c.args.index = omega arith in
    rw next (can_run doc (suc c.args.index) c.args.ask.now c.requires.context.accepted
    c.asks_are_answered.ensures.exact
    (is_numbered doc c.args.index c.args.ask.now c.requires.ask))

pub returns-clause-asked : goal.returns-clause-asked
returns-clause-asked g c =
    let doc = g.D.RunsDoc.document in
    let n = c.args.index in
    let a = c.args.ask.now in
    let next : n + 1 ≡ suc n = omega arith in
    let told = rw next at c.in_ok-reply.ensures.asked in
    asked_more doc c.requires.context.accepted c.uses_end.ensures.exact n (suc n, a) (is_numbered
    doc n a c.requires.ask) (one_more doc n a c.requires.ask)
    c.eval_ask.new.cells c.args.tree.now.asked told.0 c.count_of-stored.ensures.sound
    c.requires.asked told.1 told.2

pub returns-clause-held : goal.returns-clause-held
returns-clause-held g c =
    let doc = g.D.RunsDoc.document in
    let n = c.args.index in
    let a = c.args.ask.now in
    let next : n + 1 ≡ suc n = omega arith in
    let told = rw next at c.in_ok-reply.ensures.asked in
    let tree = c.eval_ask.new.cells in
    let accepted = c.requires.context.accepted in
    let at = is_numbered doc n a c.requires.ask in
    let more = one_more doc n a c.requires.ask in
    let after = asked_more doc accepted c.uses_end.ensures.exact n (suc n, a) at more tree
    c.args.tree.now.asked told.0 c.count_of-stored.ensures.sound c.requires.asked told.1 told.2
    in
    holds_reply doc tree (suc n, a) c.in_ok-reply.reply accepted c.replies_are_whole.ensures.exact
    c.held_are_used.ensures.exact c.count_of-stored.ensures.sound at (rw next at
    c.in_ok-reply.ensures.exact)
    (is_stored doc accepted c.uses_end.ensures.exact n (suc n, a) at more tree
    c.count_of-stored.ensures.sound after)
