use Rattle.dg_decl.proofs.LineLemmas.{split_lines}
use Rattle.dg_decl.proofs.reading.lines_and_rest.Goals as goal

pub returns : goal.returns
returns c = record { exact = split_lines }
