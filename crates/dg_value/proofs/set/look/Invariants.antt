use Rattle.std.proofs.Common.{◌≡◌}
use Rattle.dg_value.specs.Contents.{look, look_through}
use Rattle.dg_value.proofs.set.look.Given as goal

abbrev pub invariant-loop-at : goal.invariant-loop-at
invariant-loop-at g l =
    look_through (g.C.Contents.content l.contents) l.left l.at
    ≡ look (g.C.Contents.content l.contents) l.value

abbrev pub decreases-loop-at : goal.decreases-loop-at
decreases-loop-at g l = l.left
