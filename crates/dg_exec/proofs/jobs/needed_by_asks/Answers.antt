use Rattle.std.proofs.Common.{Vec, ℕ, map, ◌∙◌}
use Rattle.std.specs.Global.{Global}
use Rattle.dg_exec.specs.Jobs.{needed_by_ask}
use Rattle.dg_exec.proofs.JobLemmas.{row_pushed}
use Rattle.dg_exec.proofs.jobs.needed_by_asks.Goals as goal

pub loop-ask-preserved : goal.loop-ask-preserved
loop-ask-preserved c = λ doc of t.
    row_pushed (λ (row : Vec ℕ Global). row.items) (needed_by_ask doc)
    c.as_slice-ask-items.result.now c.loop-ask.ask-index c.ask-item.result
    c.loop-ask.rows.items c.push.new.self.items c.in_ok-needed_by_ask.field-0
    (map (needed_by_ask doc) c.args.session.now.asks) c.loop-ask-test.true c.ask-item.is
    c.in_ok-push.ensures.items
    (c.in_ok-needed_by_ask.ensures.exact doc of (t.0, c.len-asks.ensures ∙ t.1))
    (c.loop-ask.invariant doc of t)
