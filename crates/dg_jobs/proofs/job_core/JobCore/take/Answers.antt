use Rattle.std.proofs.Common.{subst, refl}
use Rattle.dg_jobs.specs.Board.{tables}
use Rattle.dg_jobs.specs.Calls.{NoneReady, SomeOut}
use Rattle.dg_jobs.specs.Jobs.{IsOut}
use Rattle.dg_jobs.proofs.Counted.{some_out}
use Rattle.dg_jobs.proofs.job_core.JobCore.take.Goals as goal

pub returns-then-self-gt0-clause-idle : goal.returns-then-self-gt0-clause-idle
returns-then-self-gt0-clause-idle g c =
    let found = some_out (tables c.take.new.self) c.in_default.ensures.calm c.if-self-gt0.true in
    let before : IsOut c.self.inside.board.phases.items found.0 = subst (λ xs. IsOut xs found.0) c.in_default.ensures.cases.0 found.1 in
    let out : SomeOut c.args.self.now = (found.0, subst (λ jobs. IsOut jobs.phases found.0) c.self.view_is before) in
    let none : NoneReady c.args.self.now = subst (λ jobs. NoneReady jobs) c.self.view_is c.in_default.ensures.cases.1 in
    ((λ _. (none, out)), (λ _. refl))

pub returns-then-self-gt0-clause-ended : goal.returns-then-self-gt0-clause-ended
returns-then-self-gt0-clause-ended g c =
    let found = some_out (tables c.take.new.self) c.in_default.ensures.calm c.if-self-gt0.true in
    let before : IsOut c.self.inside.board.phases.items found.0 = subst (λ xs. IsOut xs found.0) c.in_default.ensures.cases.0 found.1 in
    let out : IsOut c.args.self.now.phases found.0 = subst (λ jobs. IsOut jobs.phases found.0) c.self.view_is before in
    ((λ e. absurd (cc)), (λ h. absurd (h.1 found.0 out)))
