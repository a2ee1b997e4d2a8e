use Rattle.std.proofs.Common.{◌≡◌, take, map}
use Rattle.std.specs.List.{flat_map}
use Rattle.dg_decl.specs.Canonical.{canonical_line}
use Rattle.dg_decl.specs.Lines.{with_end}
use Rattle.dg_printer.proofs.document.print_doc.Given as goal

-- the lines of the items so far
abbrev pub invariant-loop-item : goal.invariant-loop-item
invariant-loop-item l = l.line.text ≡ flat_map with_end
    (map canonical_line (take l.item-index l.item-items))
