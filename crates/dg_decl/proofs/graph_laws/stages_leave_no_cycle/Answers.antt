use Rattle.dg_decl.proofs.AcceptedGraph.{stages_leave_no_cycle}
use Rattle.dg_decl.proofs.graph_laws.stages_leave_no_cycle.Goals as goal

pub returns : goal.returns
returns c = record { exact = stages_leave_no_cycle }
