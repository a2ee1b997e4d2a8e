use Rattle.std.proofs.Common.{◌+◌, ◌-◌, not, count_by, length, take}
use Rattle.dg_num.proofs.Numberings.{Numbering}
use Rattle.dg_num.proofs.components.component_numbers.Given as goal

abbrev pub invariant-loop-next : goal.invariant-loop-next
invariant-loop-next l = Numbering l.graph l.turned l.order.items
    (take l.number l.queue.items) l.marks.items l.queue.items l.numbers.items l.next l.number l.root

abbrev pub decreases-loop-next : goal.decreases-loop-next
decreases-loop-next l = l.root + ((count_by not l.marks.items + length l.queue.items) - l.next)
