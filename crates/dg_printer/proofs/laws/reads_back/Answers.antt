use Rattle.dg_printer.proofs.BackDocument.{back}
use Rattle.dg_printer.proofs.laws.reads_back.Goals as goal

pub returns : goal.returns
returns c = record { exact = back }
