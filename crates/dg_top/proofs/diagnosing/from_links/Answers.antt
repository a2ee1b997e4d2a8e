use Rattle.std.proofs.Common.{sym, ◌∙◌}
use Rattle.dg_top.proofs.StageLemmas.{links_are}
use Rattle.dg_top.proofs.diagnosing.from_links.Goals as goal

pub returns-in-Ok : goal.returns-in-Ok
returns-in-Ok c =
    record {
      exact = links_are c.args.d.now c.new.result.items c.requires.passes c.requires.bindings c.requires.sizes c.requires.session (c.new.ensures.items ∙ sym c.in-Ok.ensures.accepted);
    }

pub returns-in-Err-Broken : goal.returns-in-Err-Broken
returns-in-Err-Broken c =
    let cause = rw c.in-Err-Broken.field-0-is at c.in-Err-Broken.ensures.cause in
    record {
      exact = rw c.in-Err-Broken.field-0-is (links_are c.args.d.now c.in-Err-Broken.broken.items c.requires.passes c.requires.bindings c.requires.sizes c.requires.session cause.0);
    }
