use Rattle.std.proofs.Common.{◌≡◌, ◌+◌, ◌-◌, ◌<◌, ℕ, Some, None, length, set, refl, sym, ◌∙◌, ap, subst, inr, arith}
use Rattle.std.proofs.lemmas.List.{length-map, get_or_read}
use Rattle.dg_jobs.specs.declared.board.Board.{Board}
use Rattle.dg_jobs.specs.declared.phase.Phase.TheVariants.{Out, Waits}
use Rattle.dg_jobs.specs.Board.{tables, IsCalm}
use Rattle.dg_jobs.specs.Jobs.{phase_of, Wakes}
use Rattle.dg_jobs.specs.Piles.{choice_at}
use Rattle.dg_jobs.proofs.Demanding.{Wakes-set, no_end, some_end, still_out}
use Rattle.dg_jobs.proofs.Handing.{Fits-ending, out_pos, calm_await, calm_settled}
use Rattle.dg_jobs.proofs.board.Board.forward.Goals as goal

-- the other job is one after the demand too
in_range : (old new : Board) (other : ℕ) → (tables new).inputs ≡ (tables old).inputs → IsCalm (tables new) → other < old.inputs.len → other < length new.phases.items
in_range old new other same calm lt = omega (arith, ap length same, calm.fits.for_inputs, length-map old.inputs.items (λ row. row.items), old.inputs.ok.0)

pub settle-requires-clause-fits : goal.settle-requires-clause-fits
settle-requires-clause-fits c =
    let t = tables c.demand.new.self in
    let calm = c.demand.ensures.calm in
    let out : phase_of t.phases c.args.job ≡ Out = still_out (tables c.args.self.now).inputs c.args.other (tables c.args.self.now).phases t.phases c.args.job c.demand.ensures.phases c.requires.out in
    let pos = out_pos t (length t.phases) (length t.phases) c.args.job calm.fits out in
    let lt = in_range c.args.self.now c.demand.new.self c.args.other c.demand.ensures.inputs calm c.requires.other in
    let len_is : c.len.result ≡ length t.phases = c.len.ensures ∙ c.demand.new.self.phases.ok.0 in
    let read : c.index.result.now ≡ choice_at t.ends c.args.other = get_or_read t.ends c.args.other c.index.result.now (omega (arith, lt, calm.fits.for_ends)) c.index.ensures None in
    let ended = some_end c.index.result.now c.if-is_none.ensures in
    Fits-ending t c.args.job (Waits c.args.other) (set t.phases c.args.job (Waits c.args.other)) c.push-else-is_none.new.self (t.out - 1) calm out refl (inr (c.args.other, refl, lt, (ended.0, sym read ∙ ended.1))) refl (omega (arith, pos)) (c.push-else-is_none.ensures.exact ∙ ap (λ x. set t.places c.args.job (Some (x + 1))) len_is)

pub returns-then-is_none-clause-calm : goal.returns-then-is_none-clause-calm
returns-then-is_none-clause-calm c =
    let t = tables c.demand.new.self in
    let calm = c.demand.ensures.calm in
    let out : phase_of t.phases c.args.job ≡ Out = still_out (tables c.args.self.now).inputs c.args.other (tables c.args.self.now).phases t.phases c.args.job c.demand.ensures.phases c.requires.out in
    let pos = out_pos t (length t.phases) (length t.phases) c.args.job calm.fits out in
    let lt = in_range c.args.self.now c.demand.new.self c.args.other c.demand.ensures.inputs calm c.requires.other in
    let read : c.index.result.now ≡ choice_at t.ends c.args.other = get_or_read t.ends c.args.other c.index.result.now (omega (arith, lt, calm.fits.for_ends)) c.index.ensures None in
    calm_await t c.args.job c.args.other (set t.phases c.args.job (Waits c.args.other)) c.push.new.self (t.out - 1) calm out lt (sym read ∙ no_end c.index.result.now c.if-is_none.ensures) refl (omega (arith, pos)) c.push.ensures.exact

pub returns-then-is_none-clause-phases : goal.returns-then-is_none-clause-phases
returns-then-is_none-clause-phases c =
    let t = tables c.args.self.now in
    let out = c.requires.out in
    Wakes-set t.inputs c.args.other c.args.job (Waits c.args.other) t.phases (tables c.demand.new.self).phases (λ e. absurd (cc)) (λ e. absurd (cc)) c.demand.ensures.phases

pub returns-else-is_none-clause-calm : goal.returns-else-is_none-clause-calm
returns-else-is_none-clause-calm c =
    let t = tables c.demand.new.self in
    let out : phase_of t.phases c.args.job ≡ Out = still_out (tables c.args.self.now).inputs c.args.other (tables c.args.self.now).phases t.phases c.args.job c.demand.ensures.phases c.requires.out in
    calm_settled t (tables c.settle.new.self) c.args.job (Waits c.args.other) (set t.phases c.args.job (Waits c.args.other)) c.demand.ensures.calm out (λ e. absurd (cc)) refl c.settle.ensures.fits c.settle.ensures.none_ends c.settle.ensures.none_woken c.settle.ensures.inputs c.settle.ensures.phases

pub returns-else-is_none-clause-phases : goal.returns-else-is_none-clause-phases
returns-else-is_none-clause-phases c =
    let t = tables c.args.self.now in
    let out = c.requires.out in
    subst (λ xs. Wakes t.inputs c.args.other (set t.phases c.args.job (Waits c.args.other)) xs) (sym c.settle.ensures.phases) (Wakes-set t.inputs c.args.other c.args.job (Waits c.args.other) t.phases (tables c.demand.new.self).phases (λ e. absurd (cc)) (λ e. absurd (cc)) c.demand.ensures.phases)
