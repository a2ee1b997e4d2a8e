use Rattle.std.proofs.Common.{◌+◌, ◌-◌, not, count_by, vec_len}
use Rattle.dg_num.proofs.Searches.{Searched}
use Rattle.dg_num.proofs.reached.reach.Given as goal

abbrev pub invariant-loop-next : goal.invariant-loop-next
invariant-loop-next l = Searched l.graph l.from l.marks.items l.queue.items l.next

abbrev pub decreases-loop-next : goal.decreases-loop-next
decreases-loop-next l = (count_by not l.marks.items + vec_len l.queue) - l.next
