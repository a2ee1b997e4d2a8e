use Rattle.dg_comps.proofs.ParentLemmas.{rooted}
use Rattle.dg_comps.proofs.parents.has_root.Goals as goal

pub returns : goal.returns
returns c = record {
  exact = λ doc knows cycles. rooted doc c.args.sets.now c.args.cyclic c.args.class c.with.result
      c.meet.result knows cycles c.requires.class c.with.ensures.exact c.meet.ensures.exact;
}
