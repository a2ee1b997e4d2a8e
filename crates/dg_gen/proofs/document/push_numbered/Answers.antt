use Rattle.std.proofs.Common.{◌++◌}
use Rattle.std.specs.Prelude.{decimal}
use Rattle.std.proofs.lemmas.Result.{on_ok_weaker}
use Rattle.dg_gen.proofs.TextLemmas.{longer, joined}
use Rattle.dg_gen.proofs.document.push_numbered.Goals as goal

pub returns : goal.returns
returns c = record {
  exact = on_ok_weaker c.push_line.result
      (longer (c.args.head.now ++ decimal c.args.n) (joined _ _ _ _ _ c.in_ok-extend_from_slice.ensures.items c.in_ok-push_decimal.ensures.exact))
      c.push_line.ensures.exact;
}
