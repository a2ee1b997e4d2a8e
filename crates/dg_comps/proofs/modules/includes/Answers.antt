use Rattle.std.proofs.Common.{◌≡◌, ◌∙◌, length, ap, arith}
use Rattle.dg_comps.proofs.ModuleLemmas.{includes_step, includes_end, statements_length}
use Rattle.dg_comps.proofs.modules.includes.Goals as goal

pub overflow_cast-index-end : goal.overflow_cast-index-end
overflow_cast-index-end c =
    let len = ap length c.statements.ensures.exact ∙ statements_length c.args.names.now in
    let small = c.statements.ensures.bounded.items in
    omega (arith, len, small)

pub loop-index-preserved : goal.loop-index-preserved
loop-index-preserved c =
    includes_step c.args.names.now c.loop-index.index c.in_ok-included.field-0
    c.loop-index.next.items
    c.push.new.self.items c.loop-index.invariant c.in_ok-push.ensures.items
    c.in_ok-included.ensures.exact

pub returns : goal.returns
returns c =
    let len = ap length c.statements.ensures.exact ∙ statements_length c.args.names.now in
    record {
      exact = includes_end c.args.names.now c.loop-index.index (record { next = c.loop-index.next })
          c.loop-index.invariant (omega (arith, len, c.loop-index-test.false));
    }
