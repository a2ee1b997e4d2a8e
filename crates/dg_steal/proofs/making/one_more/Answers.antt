use Rattle.std.proofs.Common.{arith, get_or}
use Rattle.std.proofs.lemmas.Option.{slice_get-get_or}
use Rattle.dg_steal.proofs.Meeting.{goes_on, finishes}
use Rattle.dg_steal.proofs.making.one_more.Goals as goal

pub loop-hand-preserved : goal.loop-hand-preserved
loop-hand-preserved c =
    let l = c.loop-hand in
    let hand = c.hand-item.result in
    rw c.in_ok-push.ensures.items
    (goes_on _ _ _ _ l.own l.others.items (get_or l.hand-items l.hand-index hand) c.meet.new.self c.meet.new.own c.in_ok-meet.field-0 l.invariant (slice_get-get_or l.hand-items l.hand-index hand (omega arith)) c.in_ok-meet.ensures.exact)

pub returns-clause-exact : goal.returns-clause-exact
returns-clause-exact c =
    let count = c.loop-hand.invariant.count in
    finishes _ _ _ _ _ _ _ _ _ c.loop-hand.invariant (omega arith) c.requires.new (omega arith) (omega arith) c.new-2.ensures.exact
