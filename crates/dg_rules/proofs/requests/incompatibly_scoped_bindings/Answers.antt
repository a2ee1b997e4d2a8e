use Rattle.std.proofs.Common.{arith}
use Rattle.dg_rules.specs.Requests.{bad_scope_at}
use Rattle.dg_rules.proofs.ListLemmas.{appended}
use Rattle.dg_rules.proofs.RequestLemmas.{bad_scopes_are}
use Rattle.dg_rules.proofs.requests.incompatibly_scoped_bindings.Goals as goal

pub returns : goal.returns
returns c = record {
  exact = appended (bad_scope_at c.args.sites.now c.args.node.now) c.args.needed.now
      c.loop-d.d-index c.args.broken.now.items c.loop-d.broken.items _ c.loop-d.invariant
      (omega arith)
      (bad_scopes_are c.args.sites.now c.args.node.now c.args.needed.now c.requires.needed);
}
