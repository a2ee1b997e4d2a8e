use Rattle.std.proofs.Common.{◌-◌, length, set, refl, arith}
use Rattle.std.proofs.lemmas.List.Elements.{Contains-get_or}
use Rattle.dg_jobs.specs.declared.phase.Phase.TheVariants.{Wanted}
use Rattle.dg_jobs.specs.Board.{tables}
use Rattle.dg_jobs.specs.Jobs.{inputs_of}
use Rattle.dg_jobs.proofs.Handing.{calm_put_back, held_out, out_pos, ready_lt}
use Rattle.dg_jobs.proofs.board.Board.put_back.Goals as goal

pub file-requires-clause-in_range : goal.file-requires-clause-in_range
file-requires-clause-in_range c = λ k d lt.
    let t = tables c.args.self.now in
    let f = c.requires.calm.fits in
    omega (arith, f.in_range c.args.job _ (Contains-get_or (inputs_of t.inputs c.args.job) k d lt), f.for_ends, c.args.self.now.ends.ok.0)

pub file-requires-clause-room : goal.file-requires-clause-room
file-requires-clause-room c =
    let t = tables c.args.self.now in
    let f = c.requires.calm.fits in
    let held = held_out t c.args.job Wanted (set t.phases c.args.job Wanted) c.requires.calm c.requires.out refl in
    omega (arith, ready_lt t (length t.phases) (length t.phases) c.args.job f held.3 held.2, f.small)

pub returns-clause-calm : goal.returns-clause-calm
returns-clause-calm c =
    let t = tables c.args.self.now in
    let pos = out_pos t (length t.phases) (length t.phases) c.args.job c.requires.calm.fits c.requires.out in
    calm_put_back t (tables c.file.new.self) c.args.job (set t.phases c.args.job Wanted) (t.out - 1) c.requires.calm c.requires.out refl (omega (arith, pos)) c.file.ensures.exact
