use Rattle.std.proofs.Common.{◌≡◌, ◌<◌, Some, None, MatchOption, ℕ, length, ◌∙◌, subst, arith}
use Rattle.std.proofs.lemmas.List.{get_or_read}
use Rattle.dg_jobs.specs.Jobs.{result_at, EndsAt}
use Rattle.dg_jobs.proofs.CoreLaws.{result_found, last_is_job}
use Rattle.dg_jobs.proofs.job_core.JobCore.result.Goals as goal

pub index-requires : goal.index-requires
index-requires g c =
    let s = c.self.inside in
    omega (arith, last_is_job s.board.phases.items c.args.job c.in_ok-last.last c.in_ok-last.ensures.exact, c.self.invariant.for_results, s.results.ok.0)

pub returns : goal.returns
returns g c =
    let s = c.self.inside in
    let ends = c.in_ok-last.ensures.exact in
    let last = c.in_ok-last.last in
    let lt : last < length s.results.items = omega (arith, last_is_job s.board.phases.items c.args.job last ends, c.self.invariant.for_results) in
    let read = get_or_read s.results.items last c.index.result.now lt c.index.ensures None in
    record { exact = subst (λ jobs. MatchOption c.as_ref.result ((other : ℕ) → EndsAt jobs.phases c.args.job other → result_at jobs.results other ≡ None) (λ found. (other : ℕ) × EndsAt jobs.phases c.args.job other × (result_at jobs.results other ≡ Some found.now))) c.self.view_is (result_found s.board.phases.items s.results.items c.args.job last c.as_ref.result ends c.in_ok-last.ensures.only (c.as_ref.ensures.value ∙ read)) }
