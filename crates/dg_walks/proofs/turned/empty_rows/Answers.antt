use Rattle.std.proofs.Common.{length, ap, ◌∙◌, arith}
use Rattle.dg_num.specs.Graph.{row_at}
use Rattle.dg_num.proofs.Rows.{row_at_past, row_at-push_empty}
use Rattle.dg_walks.proofs.turned.empty_rows.Goals as goal

pub loop-init : goal.loop-init
loop-init c = record {
  len = c.in_ok-rows.ensures.len;
  empty = λ i. row_at_past c.in_ok-rows.rows.items i
      (omega (arith, ap length c.in_ok-rows.ensures.items));
}

pub loop-preserved : goal.loop-preserved
loop-preserved c = record {
  len = omega (arith, c.in_ok-push.ensures.len);
  empty = λ i. ap (λ rows. row_at rows i) c.in_ok-push.ensures.items
      ∙ row_at-push_empty c.loop.rows.items c.new.result c.new.ensures.items c.loop.invariant.empty
      i;
}
