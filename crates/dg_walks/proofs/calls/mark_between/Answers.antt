use Rattle.std.proofs.Common.{arith}
use Rattle.dg_num.proofs.Rows.{IsSound-reversed}
use Rattle.dg_walks.proofs.CallLemmas.{marks_between_slices}
use Rattle.dg_walks.proofs.calls.mark_between.Goals as goal

pub marks_back-requires-clause-graph : goal.marks_back-requires-clause-graph
marks_back-requires-clause-graph c =
    IsSound-reversed c.args.graph.now c.args.turned.now c.requires.graph c.requires.turned

pub returns : goal.returns
returns c = record {
  exact = marks_between_slices c.args.graph.now c.args.turned.now c.args.from.now c.args.to
      c.args.marks.now.items c.in_ok-ahead.ahead.items c.in_ok-back.back.items
      c.deref.result.now c.deref-2.result.now c.join.new.marks.items _
      c.requires.turned (omega (arith, c.requires.marks)) c.in_ok-ahead.ensures.exact
      c.in_ok-back.ensures.exact c.deref.ensures.value c.deref-2.ensures.value (omega arith)
      c.join.ensures.exact;
}
