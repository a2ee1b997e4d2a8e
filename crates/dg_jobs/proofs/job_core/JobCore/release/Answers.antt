use Rattle.std.proofs.Common.{◌≡◌, ◌≢◌, ◌↔◌, ◌⊎◌, ◌<◌, None, length, ap, ◌∙◌, subst, arith}
use Rattle.std.proofs.lemmas.List.{get_or_read}
use Rattle.dg_jobs.specs.declared.phase.Phase.TheVariants.{Done}
use Rattle.dg_jobs.specs.Jobs.{phase_of, result_at}
use Rattle.dg_jobs.proofs.CoreLaws.{release_cause}
use Rattle.dg_jobs.proofs.job_core.JobCore.release.Goals as goal

pub returns-clause-cause : goal.returns-clause-cause
returns-clause-cause g c =
    let s = c.self.inside in
    let lt : c.args.job < length s.results.items = omega (arith, c.requires, ap (λ jobs. length jobs.inputs) c.self.view_is, c.self.invariant.calm.fits.for_inputs, c.self.invariant.for_results) in
    let read = get_or_read s.results.items c.args.job c.index_mut.result.now lt c.index_mut.ensures.value None in
    subst (λ jobs. (c.take.result ≡ None) ↔ ((phase_of jobs.phases c.args.job ≢ Done) ⊎ (result_at jobs.results c.args.job ≡ None))) c.self.view_is (release_cause s.board.phases.items s.results.items c.args.job c.take.result c.self.invariant.only_done (c.take.ensures.value ∙ read))
