use Rattle.std.proofs.Common.{◌≡◌, ◌≢◌, Some, ◌+◌, ◌<◌, ℕ, length, set, get_or, sym, ◌∙◌, ap, arith}
use Rattle.std.proofs.lemmas.List.{get_or_read}
use Rattle.std.proofs.lemmas.List.Elements.{Contains-get_or}
use Rattle.dg_jobs.specs.declared.board.Board.{Board}
use Rattle.dg_jobs.specs.declared.phase.Phase.{Phase}
use Rattle.dg_jobs.specs.declared.phase.Phase.TheVariants.{Asleep, Wanted}
use Rattle.dg_jobs.specs.Board.{tables}
use Rattle.dg_jobs.specs.Jobs.{inputs_of, phase_of}
use Rattle.dg_jobs.proofs.Passing.{Passing-file, Passing-push, Passing-end, passed}
use Rattle.dg_jobs.proofs.board.Board.pass_on.Goals as goal

-- the phase that is read is that of the job
phase_read : (board : Board) (other : ℕ) (phase : Phase) → other < length board.phases.items → phase ≡ get_or board.phases.items other phase → phase ≡ phase_of board.phases.items other
phase_read board other phase lt read = get_or_read board.phases.items other phase lt read Asleep

pub file-requires-clause-in_range : goal.file-requires-clause-in_range
file-requires-clause-in_range c = λ k d lt.
    let t = tables c.loop-other.self in
    let q = passed (tables c.args.self.now) t c.args.job c.in-Some.other c.pop.new.self c.loop-other.invariant c.in-Some.ensures.exact.0 c.in-Some.ensures.exact.1 in
    omega (arith, q.fits.in_range c.in-Some.other _ (Contains-get_or (inputs_of t.inputs c.in-Some.other) k d lt), q.fits.for_ends, c.loop-other.self.ends.ok.0)

pub file-requires-clause-room : goal.file-requires-clause-room
file-requires-clause-room c =
    let t = tables c.loop-other.self in
    let q = passed (tables c.args.self.now) t c.args.job c.in-Some.other c.pop.new.self c.loop-other.invariant c.in-Some.ensures.exact.0 c.in-Some.ensures.exact.1 in
    omega (arith, q.room, q.fits.small)

pub loop-other-smaller-in-Wanted : goal.loop-other-smaller-in-Wanted
loop-other-smaller-in-Wanted c =
    let t = tables c.loop-other.self in
    let q = passed (tables c.args.self.now) t c.args.job c.in-Some.other c.pop.new.self c.loop-other.invariant c.in-Some.ensures.exact.0 c.in-Some.ensures.exact.1 in
    let wanted : phase_of t.phases c.in-Some.other ≡ Wanted = sym (phase_read c.loop-other.self c.in-Some.other c.index.result.now q.within c.index.ensures) ∙ c.in-Wanted.is in
    (Passing-file (tables c.args.self.now) t (tables c.file.new.self) c.args.job c.in-Some.other c.pop.new.self c.loop-other.invariant q wanted c.file.ensures.exact).1

pub loop-other-preserved-in-Wanted : goal.loop-other-preserved-in-Wanted
loop-other-preserved-in-Wanted c =
    let t = tables c.loop-other.self in
    let q = passed (tables c.args.self.now) t c.args.job c.in-Some.other c.pop.new.self c.loop-other.invariant c.in-Some.ensures.exact.0 c.in-Some.ensures.exact.1 in
    let wanted : phase_of t.phases c.in-Some.other ≡ Wanted = sym (phase_read c.loop-other.self c.in-Some.other c.index.result.now q.within c.index.ensures) ∙ c.in-Wanted.is in
    (Passing-file (tables c.args.self.now) t (tables c.file.new.self) c.args.job c.in-Some.other c.pop.new.self c.loop-other.invariant q wanted c.file.ensures.exact).0

pub loop-other-smaller : goal.loop-other-smaller
loop-other-smaller c =
    let t = tables c.loop-other.self in
    let q = passed (tables c.args.self.now) t c.args.job c.in-Some.other c.pop.new.self c.loop-other.invariant c.in-Some.ensures.exact.0 c.in-Some.ensures.exact.1 in
    let isnt : phase_of t.phases c.in-Some.other ≢ Wanted = λ e. c.in_default-index.not-Wanted (phase_read c.loop-other.self c.in-Some.other c.index.result.now q.within c.index.ensures ∙ e) in
    let is : c.push.new.self ≡ set c.pop.new.self c.in-Some.other (Some (length t.phases + 1)) = c.push.ensures.exact ∙ ap (λ n. set c.pop.new.self c.in-Some.other (Some (n + 1))) (c.len.ensures ∙ c.loop-other.self.phases.ok.0) in
    (Passing-push (tables c.args.self.now) t c.args.job c.in-Some.other c.pop.new.self c.push.new.self c.loop-other.invariant q isnt is).1

pub loop-other-preserved : goal.loop-other-preserved
loop-other-preserved c =
    let t = tables c.loop-other.self in
    let q = passed (tables c.args.self.now) t c.args.job c.in-Some.other c.pop.new.self c.loop-other.invariant c.in-Some.ensures.exact.0 c.in-Some.ensures.exact.1 in
    let isnt : phase_of t.phases c.in-Some.other ≢ Wanted = λ e. c.in_default-index.not-Wanted (phase_read c.loop-other.self c.in-Some.other c.index.result.now q.within c.index.ensures ∙ e) in
    let is : c.push.new.self ≡ set c.pop.new.self c.in-Some.other (Some (length t.phases + 1)) = c.push.ensures.exact ∙ ap (λ n. set c.pop.new.self c.in-Some.other (Some (n + 1))) (c.len.ensures ∙ c.loop-other.self.phases.ok.0) in
    (Passing-push (tables c.args.self.now) t c.args.job c.in-Some.other c.pop.new.self c.push.new.self c.loop-other.invariant q isnt is).0

pub returns-clause-fits : goal.returns-clause-fits
returns-clause-fits c = Passing-end (tables c.args.self.now) (tables c.loop-other.self) c.args.job c.pop.new.self c.loop-other.invariant c.in_default.ensures.exact.0 c.in_default.ensures.exact.1
