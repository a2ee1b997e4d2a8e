use Rattle.std.proofs.Common.{◌≡◌, ◌+◌, ◌<◌, ◌∷◌, [], Some, Contains, length, get_or, sym, ◌∙◌, ap, subst, arith}
use Rattle.std.proofs.lemmas.List.{length-map}
use Rattle.std.proofs.lemmas.List.Elements.{Contains-get_or}
use Rattle.dg_jobs.specs.Board.{tables, IsCalm, WakesRow}
use Rattle.dg_jobs.specs.Jobs.{inputs_of}
use Rattle.dg_jobs.specs.Piles.{choice_at}
use Rattle.dg_jobs.proofs.Demanding.{Demanding-start, Demanding-step, Demanding-end, free_when_asleep, taken_up}
use Rattle.dg_jobs.proofs.Handing.{ready_lt}
use Rattle.dg_jobs.proofs.BoardLaws.{changed}
use Rattle.dg_jobs.proofs.RowLaws.{inputs_read}
use Rattle.dg_jobs.proofs.Waking.{WakesRow-none, WakesRow-more, kept_free}
use Rattle.dg_jobs.proofs.board.Board.demand.Goals as goal

pub loop-job-init : goal.loop-job-init
loop-job-init c =
    let t = tables c.args.self.now in
    let calm = c.requires.calm in
    let lt : c.args.job < length t.phases = omega (arith, c.requires.job, c.args.self.now.inputs.ok.0, length-map c.args.self.now.inputs.items (λ row. row.items), calm.fits.for_inputs) in
    Demanding-start t c.args.job c.wake.new.phases.items c.wake.new.piles calm (WakesRow-more (c.args.job ∷ []) 0 t.phases t.places t.phases t.places c.wake.new.phases.items c.wake.new.piles (WakesRow-none t.phases t.places) (omega arith) lt calm.fits.for_places (free_when_asleep t calm) c.wake.ensures.cases)

pub wake_all-requires-clause-row : goal.wake_all-requires-clause-row
wake_all-requires-clause-row c = λ k d lt.
    let t = tables c.loop-job.self in
    let inv = c.loop-job.invariant in
    let len_is : c.len-woken.result ≡ length t.phases = c.len-woken.ensures ∙ c.args.self.now.phases.ok.0 ∙ sym inv.count in
    let q = taken_up (tables c.args.self.now) t c.args.job c.in-Some.job c.pop.new.self inv (c.in-Some.ensures.exact.0 ∙ ap (λ x. Some (x + 2)) len_is) c.in-Some.ensures.exact.1 in
    let row : c.as_slice.result.now ≡ inputs_of t.inputs c.in-Some.job = c.as_slice.ensures.value ∙ inputs_read c.loop-job.self.inputs.items c.in-Some.job c.index.result.now (omega (arith, q.within, inv.fits.for_inputs, length-map c.loop-job.self.inputs.items (λ row. row.items))) c.index.ensures in
    omega (arith, inv.fits.in_range c.in-Some.job (get_or c.as_slice.result.now k d) (subst (λ xs. Contains xs (get_or c.as_slice.result.now k d)) row (Contains-get_or c.as_slice.result.now k d lt)), c.loop-job.self.phases.ok.0)

pub file-requires-clause-in_range : goal.file-requires-clause-in_range
file-requires-clause-in_range c = λ k d lt.
    let t = tables c.loop-job.self in
    let inv = c.loop-job.invariant in
    omega (arith, inv.fits.in_range c.in-Some.job _ (Contains-get_or (inputs_of t.inputs c.in-Some.job) k d lt), inv.fits.for_ends, c.loop-job.self.ends.ok.0)

pub file-requires-clause-free : goal.file-requires-clause-free
file-requires-clause-free c =
    let t = tables c.loop-job.self in
    let inv = c.loop-job.invariant in
    let len_is : c.len-woken.result ≡ length t.phases = c.len-woken.ensures ∙ c.args.self.now.phases.ok.0 ∙ sym inv.count in
    let q = taken_up (tables c.args.self.now) t c.args.job c.in-Some.job c.pop.new.self inv (c.in-Some.ensures.exact.0 ∙ ap (λ x. Some (x + 2)) len_is) c.in-Some.ensures.exact.1 in
    kept_free c.as_slice.result.now t.phases c.pop.new.self c.wake_all.new.phases.items c.wake_all.new.piles c.in-Some.job c.wake_all.ensures.exact q.wanted q.free

pub file-requires-clause-room : goal.file-requires-clause-room
file-requires-clause-room c =
    let t = tables c.loop-job.self in
    let inv = c.loop-job.invariant in
    let len_is : c.len-woken.result ≡ length t.phases = c.len-woken.ensures ∙ c.args.self.now.phases.ok.0 ∙ sym inv.count in
    let q = taken_up (tables c.args.self.now) t c.args.job c.in-Some.job c.pop.new.self inv (c.in-Some.ensures.exact.0 ∙ ap (λ x. Some (x + 2)) len_is) c.in-Some.ensures.exact.1 in
    omega (arith, ready_lt (changed t t.phases t.ends t.passed c.pop.new.self t.ready t.out t.finished) (length t.phases) c.in-Some.job c.in-Some.job q.fits q.within q.free, inv.fits.small)

pub loop-job-smaller : goal.loop-job-smaller
loop-job-smaller c =
    let t = tables c.loop-job.self in
    let inv = c.loop-job.invariant in
    let len_is : c.len-woken.result ≡ length t.phases = c.len-woken.ensures ∙ c.args.self.now.phases.ok.0 ∙ sym inv.count in
    let on : choice_at t.places c.in-Some.job ≡ Some (length t.phases + 2) = c.in-Some.ensures.exact.0 ∙ ap (λ x. Some (x + 2)) len_is in
    let q = taken_up (tables c.args.self.now) t c.args.job c.in-Some.job c.pop.new.self inv on c.in-Some.ensures.exact.1 in
    let row : c.as_slice.result.now ≡ inputs_of t.inputs c.in-Some.job = c.as_slice.ensures.value ∙ inputs_read c.loop-job.self.inputs.items c.in-Some.job c.index.result.now (omega (arith, q.within, inv.fits.for_inputs, length-map c.loop-job.self.inputs.items (λ row. row.items))) c.index.ensures in
    let w : WakesRow (inputs_of t.inputs c.in-Some.job) t.phases c.pop.new.self c.wake_all.new.phases.items c.wake_all.new.piles = subst (λ xs. WakesRow xs t.phases c.pop.new.self c.wake_all.new.phases.items c.wake_all.new.piles) row c.wake_all.ensures.exact in
    (Demanding-step (tables c.args.self.now) t (tables c.file.new.self) c.args.job c.in-Some.job c.pop.new.self c.wake_all.new.phases.items c.wake_all.new.piles inv on q w c.file.ensures.exact).less

pub loop-job-preserved : goal.loop-job-preserved
loop-job-preserved c =
    let t = tables c.loop-job.self in
    let inv = c.loop-job.invariant in
    let len_is : c.len-woken.result ≡ length t.phases = c.len-woken.ensures ∙ c.args.self.now.phases.ok.0 ∙ sym inv.count in
    let on : choice_at t.places c.in-Some.job ≡ Some (length t.phases + 2) = c.in-Some.ensures.exact.0 ∙ ap (λ x. Some (x + 2)) len_is in
    let q = taken_up (tables c.args.self.now) t c.args.job c.in-Some.job c.pop.new.self inv on c.in-Some.ensures.exact.1 in
    let row : c.as_slice.result.now ≡ inputs_of t.inputs c.in-Some.job = c.as_slice.ensures.value ∙ inputs_read c.loop-job.self.inputs.items c.in-Some.job c.index.result.now (omega (arith, q.within, inv.fits.for_inputs, length-map c.loop-job.self.inputs.items (λ row. row.items))) c.index.ensures in
    let w : WakesRow (inputs_of t.inputs c.in-Some.job) t.phases c.pop.new.self c.wake_all.new.phases.items c.wake_all.new.piles = subst (λ xs. WakesRow xs t.phases c.pop.new.self c.wake_all.new.phases.items c.wake_all.new.piles) row c.wake_all.ensures.exact in
    (Demanding-step (tables c.args.self.now) t (tables c.file.new.self) c.args.job c.in-Some.job c.pop.new.self c.wake_all.new.phases.items c.wake_all.new.piles inv on q w c.file.ensures.exact).next

pub returns-clause-calm : goal.returns-clause-calm
returns-clause-calm c =
    let t = tables c.loop-job.self in
    let len_is : c.len-woken.result ≡ length t.phases = c.len-woken.ensures ∙ c.args.self.now.phases.ok.0 ∙ sym c.loop-job.invariant.count in
    subst (λ xs. IsCalm (changed t t.phases t.ends t.passed xs t.ready t.out t.finished)) (sym c.in_default.ensures.exact.0) (Demanding-end (tables c.args.self.now) t c.args.job c.loop-job.invariant (λ job on. c.in_default.ensures.exact.1 job (on ∙ ap (λ x. Some (x + 2)) (sym len_is)))).0

pub returns-clause-phases : goal.returns-clause-phases
returns-clause-phases c =
    let t = tables c.loop-job.self in
    let len_is : c.len-woken.result ≡ length t.phases = c.len-woken.ensures ∙ c.args.self.now.phases.ok.0 ∙ sym c.loop-job.invariant.count in
    (Demanding-end (tables c.args.self.now) t c.args.job c.loop-job.invariant (λ job on. c.in_default.ensures.exact.1 job (on ∙ ap (λ x. Some (x + 2)) (sym len_is)))).1
