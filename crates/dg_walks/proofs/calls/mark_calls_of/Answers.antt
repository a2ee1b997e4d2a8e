use Rattle.std.proofs.Common.{◌≡◌, ◌<◌, false, length, get_or, sym, ◌∙◌, arith}
use Rattle.std.proofs.lemmas.Bool.{false≢true}
use Rattle.std.proofs.lemmas.List.{get_or_read}
use Rattle.dg_walks.proofs.CallLemmas.{without_cycle, without_called_cycle, when_marked}
use Rattle.dg_walks.proofs.CallLemmas.{called_more, calls_below, row_below}
use Rattle.dg_walks.proofs.calls.mark_calls_of.Goals as goal

pub returns-then-not-on_cycle-node : goal.returns-then-not-on_cycle-node
returns-then-not-on_cycle-node c =
    record {
      exact = without_cycle c.args.graph.now c.args.turned.now c.args.called.now
          c.args.on_cycle.now c.args.marks.now.items c.args.node c.requires.parts c.requires.node
          c.requires.marks c.if-not-on_cycle-node.true;
    }

pub is_any_on_cycle-requires : goal.is_any_on_cycle-requires
is_any_on_cycle-requires c =
    row_below c.args.graph.now c.args.turned.now c.args.called.now c.args.on_cycle.now
    c.args.node c.row-from.result.now c.requires.parts c.row-from.ensures.exact

pub returns-then-not-is_any_on_cycle : goal.returns-then-not-is_any_on_cycle
returns-then-not-is_any_on_cycle c =
    record {
      exact = without_called_cycle c.args.graph.now c.args.turned.now c.args.called.now
          c.args.on_cycle.now c.args.marks.now.items c.args.node c.row-from.result.now
          c.requires.parts c.row-from.ensures.exact c.requires.marks
          (λ some. false≢true (sym c.if-not-is_any_on_cycle.true
          ∙ c.is_any_on_cycle.ensures.exact.1 some));
    }

pub returns-then-index : goal.returns-then-index
returns-then-index c =
    let lt : c.args.node < length c.args.marks.now.items =
    omega (arith, c.requires.marks.for_each_node, c.requires.node) in
    let read : c.index.result.now ≡ get_or c.args.marks.now.items c.args.node false =
    get_or_read c.args.marks.now.items c.args.node c.index.result.now lt c.index.ensures false in
    record {
      exact = when_marked c.args.graph.now c.args.turned.now c.args.called.now
          c.args.on_cycle.now c.args.marks.now.items c.args.node c.requires.parts c.requires.node
          c.requires.marks (sym read ∙ c.if-index.true);
    }

pub mark_between-requires-clause-from : goal.mark_between-requires-clause-from
mark_between-requires-clause-from c =
    calls_below c.args.graph.now c.args.turned.now c.args.called.now c.args.on_cycle.now
    c.args.node c.row-from.result.now c.requires.parts c.row-from.ensures.exact

pub returns : goal.returns
returns c = record {
  exact = called_more c.args.graph.now c.args.called.now c.args.node c.row-from.result.now
      c.args.marks.now.items c.mark_between.new.marks.items c.requires.marks
      c.row-from.ensures.exact c.in_ok-mark_between.ensures.exact;
}
