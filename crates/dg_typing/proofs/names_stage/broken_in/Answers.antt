use Rattle.std.proofs.Common.{arith}
use Rattle.dg_typing.proofs.NamesLoop as lemmas
use Rattle.dg_typing.proofs.names_stage.broken_in.Goals as goal

pub loop-s-init : goal.loop-s-init
loop-s-init c = lemmas.breaks_first c.args.names.now c.new-members.result c.new-broken.result.items
    c.new-members.ensures.exact c.new-broken.ensures.items

pub names_at-requires : goal.names_at-requires
names_at-requires c = record {
  told = lemmas.told c.args.names.now c.statements-s-items.result.now c.loop-s.s-index
      c.s-item.result c.in_ok-again.again c.loop-s.members c.loop-s.broken.items
      c.statements-s-items.ensures.exact c.loop-s-test.true c.s-item.is c.loop-s.invariant
      c.in_ok-again.ensures.exact;
}

pub loop-s-preserved : goal.loop-s-preserved
loop-s-preserved c =
    lemmas.breaks_next c.args.names.now c.statements-s-items.result.now c.loop-s.s-index
    c.s-item.result c.loop-s.members c.note.new.self c.loop-s.broken.items
    c.names_at.new.out.items c.loop-s-test.true c.s-item.is c.loop-s.invariant
    c.in_ok-again.ensures.noted c.in_ok-names_at.ensures.exact

pub returns : goal.returns
returns c = record {
  exact = lemmas.breaks_all c.args.names.now c.statements-s-items.result.now c.loop-s.s-index
      c.loop-s.members c.loop-s.broken.items c.statements-s-items.ensures.exact (omega arith)
      c.loop-s.invariant;
}
