use Rattle.std.proofs.Common.{◌≡◌, ◌+◌, ◌-◌, Some, length, set, refl, sym, ◌∙◌, ap, arith}
use Rattle.dg_jobs.specs.declared.phase.Phase.TheVariants.{Out}
use Rattle.dg_jobs.specs.Board.{tables}
use Rattle.dg_jobs.specs.Piles.{choice_at}
use Rattle.dg_jobs.proofs.Handing.{calm_take, out_room, ready_pos}
use Rattle.dg_jobs.proofs.Filing.{on_is_ready, ready_is_on}
use Rattle.dg_jobs.proofs.board.Board.take.Goals as goal

pub returns-in_default-clause-cases : goal.returns-in_default-clause-cases
returns-in_default-clause-cases c =
    let len_is : c.len.result ≡ length c.args.self.now.phases.items = c.len.ensures ∙ c.args.self.now.phases.ok.0 in
    (refl, λ job ready. c.in_default.ensures.exact.1 job (ready_is_on (tables c.args.self.now) c.requires.calm job ready ∙ ap (λ x. Some x) (sym len_is)))

pub overflow_add-self : goal.overflow_add-self
overflow_add-self c =
    let len_is : c.len.result ≡ length c.args.self.now.phases.items = c.len.ensures ∙ c.args.self.now.phases.ok.0 in
    omega (arith, out_room (tables c.args.self.now) c.in-Some.job c.requires.calm (c.in-Some.ensures.exact.0 ∙ ap (λ x. Some x) len_is))

pub returns-clause-calm : goal.returns-clause-calm
returns-clause-calm c =
    let t = tables c.args.self.now in
    let len_is : c.len.result ≡ length c.args.self.now.phases.items = c.len.ensures ∙ c.args.self.now.phases.ok.0 in
    let on : choice_at t.places c.in-Some.job ≡ Some (length t.phases) = c.in-Some.ensures.exact.0 ∙ ap (λ x. Some x) len_is in
    calm_take t c.in-Some.job c.pop.new.self (t.ready - 1) (set t.phases c.in-Some.job Out) (t.out + 1) c.requires.calm on c.in-Some.ensures.exact.1 (omega (arith, ready_pos t (length t.phases) (length t.phases) c.in-Some.job c.requires.calm.fits on)) refl refl

pub returns-clause-cases : goal.returns-clause-cases
returns-clause-cases c =
    let len_is : c.len.result ≡ length c.args.self.now.phases.items = c.len.ensures ∙ c.args.self.now.phases.ok.0 in
    (on_is_ready (tables c.args.self.now) c.requires.calm c.in-Some.job (c.in-Some.ensures.exact.0 ∙ ap (λ x. Some x) len_is), refl)
