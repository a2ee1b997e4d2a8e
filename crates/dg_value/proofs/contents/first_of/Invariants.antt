use Rattle.std.proofs.Common.{◌≡◌, drop}
use Rattle.std.specs.List.{find}
use Rattle.dg_value.specs.Contents.{is_cell}
use Rattle.dg_value.proofs.contents.first_of.Given as goal

abbrev pub invariant-loop-entry : goal.invariant-loop-entry
invariant-loop-entry l =
    find (is_cell l.inst l.slot) (drop l.entry-index l.entries)
    ≡ find (is_cell l.inst l.slot) l.entries
