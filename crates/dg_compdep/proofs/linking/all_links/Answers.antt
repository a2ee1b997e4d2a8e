use Rattle.std.proofs.Common.{arith}
use Rattle.dg_compdep.proofs.LinkLemmas.{links_end}
use Rattle.dg_compdep.proofs.linking.all_links.Goals as goal

pub returns : goal.returns
returns c = record {
  exact = links_end c.args.tied.now c.statements-s-items.result.now c.loop-s.s-index
      c.loop-s.lists.items
      (cc (c.statements-s-items.ensures.exact, c.names-2.ensures.exact)) (omega arith) (omega arith)
      c.loop-s.invariant;
}
