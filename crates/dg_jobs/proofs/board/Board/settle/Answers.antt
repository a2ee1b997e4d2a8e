use Rattle.std.proofs.Common.{◌≡◌, ◌+◌, Some, length, sym, ◌∙◌, ap, subst, arith}
use Rattle.dg_jobs.specs.Board.{tables, Fits, HasEnd}
use Rattle.dg_jobs.proofs.Passing.{to_note}
use Rattle.dg_jobs.proofs.board.Board.settle.Goals as goal

pub note_end-requires-clause-room : goal.note_end-requires-clause-room
note_end-requires-clause-room c =
    let len_is : c.len.result ≡ length c.loop-job.self.phases.items = c.len.ensures ∙ c.loop-job.self.phases.ok.0 in
    let q = to_note (tables c.args.self.now) (tables c.loop-job.self) c.in-Some.job c.pop.new.self c.loop-job.invariant (c.in-Some.ensures.exact.0 ∙ ap (λ x. Some (x + 1)) len_is) c.in-Some.ensures.exact.1 in
    omega (arith, q.room, c.loop-job.invariant.fits.small)

pub pass_on-requires-clause-fits : goal.pass_on-requires-clause-fits
pass_on-requires-clause-fits c =
    let len_is : c.len.result ≡ length c.loop-job.self.phases.items = c.len.ensures ∙ c.loop-job.self.phases.ok.0 in
    let q = to_note (tables c.args.self.now) (tables c.loop-job.self) c.in-Some.job c.pop.new.self c.loop-job.invariant (c.in-Some.ensures.exact.0 ∙ ap (λ x. Some (x + 1)) len_is) c.in-Some.ensures.exact.1 in
    subst (λ x. Fits x c.in-Some.job (length x.phases)) (sym c.note_end.ensures.exact) q.fits

pub pass_on-requires-clause-noted : goal.pass_on-requires-clause-noted
pass_on-requires-clause-noted c =
    let len_is : c.len.result ≡ length c.loop-job.self.phases.items = c.len.ensures ∙ c.loop-job.self.phases.ok.0 in
    let q = to_note (tables c.args.self.now) (tables c.loop-job.self) c.in-Some.job c.pop.new.self c.loop-job.invariant (c.in-Some.ensures.exact.0 ∙ ap (λ x. Some (x + 1)) len_is) c.in-Some.ensures.exact.1 in
    subst (λ x. HasEnd x.ends c.in-Some.job) (sym c.note_end.ensures.exact) q.has_end
