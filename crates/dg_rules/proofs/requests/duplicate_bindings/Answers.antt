use Rattle.std.proofs.Common.{arith}
use Rattle.dg_rules.specs.Requests.{duplicate_at}
use Rattle.dg_rules.proofs.ListLemmas.{appended}
use Rattle.dg_rules.proofs.RequestLemmas.{duplicates_are}
use Rattle.dg_rules.proofs.requests.duplicate_bindings.Goals as goal

pub returns : goal.returns
returns c = record {
  exact = appended (duplicate_at c.args.sites.now c.args.node.now) c.args.needed.now
      c.loop-d.d-index c.args.broken.now.items c.loop-d.broken.items _ c.loop-d.invariant
      (omega arith)
      (duplicates_are c.args.sites.now c.args.node.now c.args.needed.now c.requires.needed);
}
