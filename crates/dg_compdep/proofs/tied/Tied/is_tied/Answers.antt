use Rattle.std.proofs.Common.{◌≡◌, Some, None}
use Rattle.dg_decl.specs.Document.{statements}
use Rattle.dg_compdep.specs.Ties.{first_index}
use Rattle.dg_compdep.proofs.LinkLemmas.{tied}
use Rattle.dg_compdep.proofs.tied.Tied.is_tied.Goals as goal

pub returns-in-Some : goal.returns-in-Some
returns-in-Some c =
    let e : Some c.in-Some.field-0 ≡ first_index c.args.self.now c.args.from.now c.args.class
    (statements c.args.self.now) = cc (c.in-Some.is, c.in_ok-first_line.ensures.exact) in
    record { exact = tied c.args.self.now c.args.from.now c.args.class (Some c.in-Some.field-0) e }

pub returns-in-None : goal.returns-in-None
returns-in-None c =
    let e : None ≡ first_index c.args.self.now c.args.from.now c.args.class (statements
    c.args.self.now) = cc (c.in-None.is, c.in_ok-first_line.ensures.exact) in
    record { exact = tied c.args.self.now c.args.from.now c.args.class None e }
