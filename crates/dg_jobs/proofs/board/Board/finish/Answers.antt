use Rattle.std.proofs.Common.{◌≡◌, ◌+◌, ◌-◌, Some, length, set, refl, ◌∙◌, ap, inl, arith}
use Rattle.dg_jobs.specs.declared.phase.Phase.TheVariants.{Done}
use Rattle.dg_jobs.specs.Board.{tables}
use Rattle.dg_jobs.proofs.Handing.{Fits-ending, out_pos}
use Rattle.dg_jobs.proofs.board.Board.finish.Goals as goal

pub settle-requires-clause-fits : goal.settle-requires-clause-fits
settle-requires-clause-fits c =
    let t = tables c.args.self.now in
    let pos = out_pos t (length t.phases) (length t.phases) c.args.job c.requires.calm.fits c.requires.out in
    let len_is : c.len.result ≡ length t.phases = c.len.ensures ∙ c.args.self.now.phases.ok.0 in
    Fits-ending t c.args.job Done (set t.phases c.args.job Done) c.push.new.self (t.out - 1) c.requires.calm c.requires.out refl (inl refl) refl (omega (arith, pos)) (c.push.ensures.exact ∙ ap (λ x. set t.places c.args.job (Some (x + 1))) len_is)
