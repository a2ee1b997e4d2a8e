use Rattle.std.proofs.Common.{◌≡◌, ◌≤◌}
use Rattle.dg_top.specs.Progress.{first_lines, AreAsked, AreLinesBetween}
use Rattle.dg_top.proofs.asking.lines_between.Given as goal

-- the lines of the replies up to this ask are made
abbrev pub invariant-loop-index : goal.invariant-loop-index
invariant-loop-index g l = record {
  lines : AreLinesBetween g.D.RunsDoc.document l.from l.index l.text.items;
  asked : AreAsked g.D.RunsDoc.document l.index l.tree.asked;
  appeared : l.numbers ≡ (first_lines g.D.RunsDoc.document l.index).seen;
  within : l.index ≤ l.to;
}
