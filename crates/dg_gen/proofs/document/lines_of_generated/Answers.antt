use Rattle.std.proofs.Common.{arith, length-append}
use Rattle.std.proofs.lemmas.List.FromFn.{length-map-range_with_len}
use Rattle.dg_gen.specs.Document.{producer_lines, module_lines, component_lines}
use Rattle.dg_gen.proofs.document.lines_of_generated.Goals as goal

pub returns : goal.returns
unfolding producer_lines module_lines component_lines
returns c = record { exact = simp (length-append, length-map-range_with_len) (omega arith) }
