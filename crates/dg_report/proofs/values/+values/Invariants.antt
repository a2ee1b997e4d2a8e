use Rattle.std.proofs.Common.{◌≡◌, ◌+◌, map, drop, option_map}
use Rattle.dg_eval.specs.Report.{value_fields}
use Rattle.dg_report.specs.Output.{with_members, with_entry, with_fields}
use Rattle.dg_report.specs.Shown.{with_value, total, inside_weight, weight, cell_weight, kept_weight}
use Rattle.dg_report.proofs.values.+values.Given as goal

abbrev pub decreases-push_value : goal.decreases-push_value
decreases-push_value g l = weight (g.C.Contents.content l.cells.now) l.left l.v.now

abbrev pub decreases-push_object : goal.decreases-push_object
decreases-push_object g l =
    3 + total (map (weight (g.C.Contents.content l.cells.now) l.left) l.fields.now)

abbrev pub decreases-push_fields : goal.decreases-push_fields
decreases-push_fields g l =
    1 + total (map (weight (g.C.Contents.content l.cells.now) l.left) l.fields.now)

abbrev pub decreases-push_set : goal.decreases-push_set
decreases-push_set g l =
    1 + total (map (weight (g.C.Contents.content l.cells.now) l.left) l.elements.now)

abbrev pub decreases-push_map : goal.decreases-push_map
decreases-push_map g l =
    1 + total (map (λ e. weight (g.C.Contents.content l.cells.now) l.left e.1) l.entries.now)

abbrev pub decreases-push_inside : goal.decreases-push_inside
decreases-push_inside g l =
    1 + inside_weight (option_map (weight (g.C.Contents.content l.cells.now) l.left) l.inside.now)

abbrev pub decreases-push_cell : goal.decreases-push_cell
decreases-push_cell g l = 1 + cell_weight (g.C.Contents.content l.cells.now) l.left l.inst l.slot

abbrev pub decreases-push_kept : goal.decreases-push_kept
decreases-push_kept g l = kept_weight (g.C.Contents.content l.cells.now) l.left l.kept.now

-- the fields that are left, behind the text so far
abbrev pub invariant-push_fields-loop-index : goal.invariant-push_fields-loop-index
invariant-push_fields-loop-index g l = record {
  exact : with_fields (with_value l.names (g.C.Contents.content l.cells) l.left)
      (value_fields l.names l.class) l.index l.out (drop l.index l.fields)
      ≡ with_fields (with_value l.names (g.C.Contents.content l.cells) l.left)
      (value_fields l.names l.class) 0 l.initial.out l.fields;
  kept : l.out.before ≡ l.initial.out.before;
}

-- the elements that are left, behind the text so far
abbrev pub invariant-push_set-loop-index : goal.invariant-push_set-loop-index
invariant-push_set-loop-index g l = record {
  exact : with_members (with_value l.names (g.C.Contents.content l.cells) l.left) l.index l.out
      (drop l.index l.elements)
      ≡ with_members (with_value l.names (g.C.Contents.content l.cells) l.left) 0 l.initial.out l.elements;
  kept : l.out.before ≡ l.initial.out.before;
}

-- the entries that are left, behind the text so far
abbrev pub invariant-push_map-loop-index : goal.invariant-push_map-loop-index
invariant-push_map-loop-index g l = record {
  exact : with_members (with_entry (with_value l.names (g.C.Contents.content l.cells) l.left)) l.index l.out
      (drop l.index l.entries)
      ≡ with_members (with_entry (with_value l.names (g.C.Contents.content l.cells) l.left)) 0 l.initial.out
      l.entries;
  kept : l.out.before ≡ l.initial.out.before;
}
