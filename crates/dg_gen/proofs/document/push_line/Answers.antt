use Rattle.dg_gen.proofs.TextLemmas.{one}
use Rattle.dg_gen.proofs.document.push_line.Goals as goal

pub returns : goal.returns
returns c = record {
  exact = one c.args.out.now.items c.args.text.now _ _ c.in_ok-extend_from_slice.ensures.items c.in_ok-push.ensures.items;
}
