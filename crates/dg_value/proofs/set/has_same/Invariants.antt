use Rattle.std.proofs.Common.{◌≡◌, drop}
use Rattle.std.specs.List.{list_any}
use Rattle.dg_value.specs.Sets.{same_behind}
use Rattle.dg_value.proofs.set.has_same.Given as goal

abbrev pub invariant-loop-element : goal.invariant-loop-element
invariant-loop-element g l =
    list_any (same_behind (g.C.Contents.content l.contents) l.fn.value) (drop l.element-index l.set)
    ≡ list_any (same_behind (g.C.Contents.content l.contents) l.fn.value) l.set
