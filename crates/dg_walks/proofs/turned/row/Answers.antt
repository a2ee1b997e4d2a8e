use Rattle.std.proofs.Common.{sym, ap, ◌∙◌, ◌<◌, [], length, arith}
use Rattle.std.proofs.lemmas.List.{get_or-map}
use Rattle.dg_num.specs.Graph.{row_at}
use Rattle.dg_walks.proofs.turned.row.Goals as goal

pub returns : goal.returns
unfolding row_at
returns c =
    let rows = c.args.graph.now.next.items in
    let lt : c.args.node < length rows = omega arith in
    record {
      exact = c.as_slice.ensures.value ∙ ap (λ row. row.items) c.index.ensures
          ∙ sym (get_or-map (λ row. row.items) rows c.args.node c.index.result.now [] lt);
    }
