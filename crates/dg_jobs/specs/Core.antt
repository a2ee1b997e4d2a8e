use Rattle.std.specs.Prelude.{◌≡◌, ℕ, Some, length}
use Rattle.dg_jobs.specs.declared.job_core.JobCore.TheInside.{Inside}
use Rattle.dg_jobs.specs.declared.phase.Phase.TheVariants.{Done}
use Rattle.dg_jobs.specs.Board.{tables, IsCalm}
use Rattle.dg_jobs.specs.Jobs.{Jobs, phase_of, result_at}

-- the jobs of a core
abbrev pub jobs_inside : {R : Type 0} → Inside R → Jobs R
jobs_inside core = record {
  inputs = (tables core.board).inputs;
  phases = core.board.phases.items;
  results = core.results.items;
}

-- the tables of a core fit together, and only jobs that are done have a result
pub record IsWhole {R : Type 0} (core : Inside R) : Type 0 where
  pub calm : IsCalm (tables core.board)
  pub for_results : length core.results.items ≡ length core.board.phases.items
  pub only_done : (job : ℕ) (result : R) → result_at core.results.items job ≡ Some result
      → phase_of core.board.phases.items job ≡ Done
