use Rattle.std.proofs.Common.{arith}
use Rattle.dg_rules.specs.Requests.{missing_at}
use Rattle.dg_rules.proofs.ListLemmas.{appended}
use Rattle.dg_rules.proofs.RequestLemmas.{missing_is}
use Rattle.dg_rules.proofs.requests.missing_binding.Goals as goal

pub returns : goal.returns
returns c = record {
  exact = appended (missing_at c.args.sites.now c.args.node.now) c.args.needed.now c.loop-d.d-index
      c.args.broken.now.items c.loop-d.broken.items _ c.loop-d.invariant (omega arith)
      (missing_is c.args.sites.now c.args.node.now c.args.needed.now c.requires.needed);
}
