use Rattle.std.proofs.Common.{ap, length, ◌∙◌}
use Rattle.dg_jobs.proofs.Hanging.{fed_next, stays_next}
use Rattle.dg_jobs.proofs.Rightness.{keeps_next}
use Rattle.dg_jobs.proofs.laws.invariant_is_kept.Goals as goal

pub returns-clause-phases : goal.returns-clause-phases
returns-clause-phases g c = stays_next

pub returns-clause-inputs : goal.returns-clause-inputs
returns-clause-inputs g c = fed_next

pub returns-clause-meanings : goal.returns-clause-meanings
returns-clause-meanings g c = λ m s t event fit may faithful comes stays keeps. keeps_next m s t event fit stays.same (stays.count ∙ ap length stays.same) may faithful comes keeps
