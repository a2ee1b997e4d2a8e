use Rattle.std.proofs.Common.{◌≡◌, Some, length, sym, ap, ◌∙◌}
use Rattle.std.proofs.lemmas.List.{length-set}
use Rattle.dg_jobs.specs.declared.phase.Phase.TheVariants.{Done, Out, Waits}
use Rattle.dg_jobs.specs.Board.{tables}
use Rattle.dg_jobs.specs.Jobs.{phase_of}
use Rattle.dg_jobs.proofs.CoreLaws.{done_more, done_still}
use Rattle.dg_jobs.proofs.job_core.JobCore.finish.Goals as goal

pub invariant_of-self : goal.invariant_of-self
invariant_of-self g c =
    let s = c.self.inside in
    let out : phase_of s.board.phases.items c.args.job ≡ Out = ap (λ jobs. phase_of jobs.phases c.args.job) c.self.view_is ∙ c.requires.out in
    record {
      calm = c.finish.ensures.calm;
      for_results = length-set s.results.items c.args.job (Some c.in-Done.result) ∙ c.self.invariant.for_results ∙ sym (ap length c.finish.ensures.phases ∙ length-set s.board.phases.items c.args.job Done);
      only_done = done_more s.board.phases.items (tables c.finish.new.self).phases s.results.items c.args.job c.in-Done.result out c.finish.ensures.phases c.self.invariant.only_done;
    }

pub invariant_of-self-in-Done-2 : goal.invariant_of-self-in-Done-2
invariant_of-self-in-Done-2 g c =
    let s = c.self.inside in
    let out : phase_of s.board.phases.items c.args.job ≡ Out = ap (λ jobs. phase_of jobs.phases c.args.job) c.self.view_is ∙ c.requires.out in
    record {
      calm = c.finish.ensures.calm;
      for_results = length-set s.results.items c.args.job (Some c.in-Done.result) ∙ c.self.invariant.for_results ∙ sym (ap length c.finish.ensures.phases ∙ length-set s.board.phases.items c.args.job Done);
      only_done = done_more s.board.phases.items (tables c.finish.new.self).phases s.results.items c.args.job c.in-Done.result out c.finish.ensures.phases c.self.invariant.only_done;
    }

pub invariant_of-self-in-Forward : goal.invariant_of-self-in-Forward
invariant_of-self-in-Forward g c =
    let s = c.self.inside in
    let out : phase_of s.board.phases.items c.args.job ≡ Out = ap (λ jobs. phase_of jobs.phases c.args.job) c.self.view_is ∙ c.requires.out in
    record {
      calm = c.forward.ensures.calm;
      for_results = c.self.invariant.for_results ∙ sym (c.forward.ensures.phases.count ∙ length-set s.board.phases.items c.args.job (Waits c.in-Forward.other));
      only_done = done_still (tables s.board).inputs s.board.phases.items (tables c.forward.new.self).phases s.results.items c.args.job c.in-Forward.other out c.forward.ensures.phases c.self.invariant.only_done;
    }
