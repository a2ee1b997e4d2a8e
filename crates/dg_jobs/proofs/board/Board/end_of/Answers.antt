use Rattle.std.proofs.Common.{◌≡◌, ℕ, Option, Some, None, MatchOption, sym, ◌∙◌, arith}
use Rattle.std.proofs.lemmas.List.{get_or_past, get_or_read}
use Rattle.dg_jobs.specs.Board.{tables, IsCalm, Tables}
use Rattle.dg_jobs.specs.Jobs.{EndsAt, IsFinished}
use Rattle.dg_jobs.specs.Piles.{choice_at}
use Rattle.dg_jobs.proofs.Counted.{end_noted}
use Rattle.dg_jobs.proofs.Filing.{finished_has_end, not_none}
use Rattle.dg_jobs.proofs.board.Board.end_of.Goals as goal

exact_end : (t : Tables) (job : ℕ) (o : Option ℕ) → IsCalm t → o ≡ choice_at t.ends job → MatchOption o (IsFinished t.phases job → ⊥) (EndsAt t.phases job)
exact_end t job None calm e = λ finished. let has = finished_has_end t calm job finished in not_none (choice_at t.ends job) has.0 (sym e) has.1
exact_end t job (Some last) calm e = calm.fits.lasts job last (sym e)

pub returns-then-job-len-clause-exact : goal.returns-then-job-len-clause-exact
returns-then-job-len-clause-exact c =
    let t = tables c.args.self.now in
    exact_end t c.args.job c.index.result.now c.requires (get_or_read t.ends c.args.job c.index.result.now (omega (arith, c.if-job-len.true, c.len.ensures, c.args.self.now.ends.ok.0)) c.index.ensures None)

pub returns-then-job-len-clause-only : goal.returns-then-job-len-clause-only
returns-then-job-len-clause-only c = λ last ends.
    let t = tables c.args.self.now in
    get_or_read t.ends c.args.job c.index.result.now (omega (arith, c.if-job-len.true, c.len.ensures, c.args.self.now.ends.ok.0)) c.index.ensures None ∙ end_noted t c.requires c.args.job last ends

pub returns-else-job-len-clause-exact : goal.returns-else-job-len-clause-exact
returns-else-job-len-clause-exact c =
    let t = tables c.args.self.now in
    exact_end t c.args.job None c.requires (sym (get_or_past t.ends c.args.job None (omega (arith, c.if-job-len.false, c.len.ensures, c.args.self.now.ends.ok.0))))

pub returns-else-job-len-clause-only : goal.returns-else-job-len-clause-only
returns-else-job-len-clause-only c = λ last ends.
    let t = tables c.args.self.now in
    sym (get_or_past t.ends c.args.job None (omega (arith, c.if-job-len.false, c.len.ensures, c.args.self.now.ends.ok.0))) ∙ end_noted t c.requires c.args.job last ends
