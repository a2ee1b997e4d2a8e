use Rattle.dg_comps.proofs.SetLemmas.{meeting}
use Rattle.dg_comps.proofs.class_set.meet.Goals as goal

pub returns : goal.returns
returns c = record {
  exact = λ classes is. meeting c.args.first c.args.second classes is
      c.ranges.first.fits;
}
