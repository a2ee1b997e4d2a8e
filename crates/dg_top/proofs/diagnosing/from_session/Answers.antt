use Rattle.dg_top.proofs.StageLemmas.{session_are}
use Rattle.dg_top.proofs.diagnosing.from_session.Goals as goal

pub returns-in-Err-Broken : goal.returns-in-Err-Broken
returns-in-Err-Broken c =
    let cause = rw c.in-Err-Broken.field-0-is at c.in-Err-Broken.ensures.cause in
    record {
      exact = rw c.in-Err-Broken.field-0-is (session_are c.args.d.now c.in-Err-Broken.broken.items c.requires.passes c.requires.bindings c.requires.sizes cause.0 cause.1);
    }
