use Rattle.dg_steal.proofs.Meeting.{Meeting}
use Rattle.dg_steal.proofs.making.one_more.Given as goal

abbrev pub invariant-loop-hand : goal.invariant-loop-hand
invariant-loop-hand l = Meeting l.fn.hands.items l.initial.own.deque l.hand-index l.hand-items l.own l.others.items
