use Rattle.std.proofs.Common.{◌≡◌, ◌∙◌, vec_len, slice_index, arith}
use Rattle.dg_comps.proofs.ModuleLemmas.{installed_step}
use Rattle.dg_comps.proofs.modules.push_installed.Goals as goal

pub loop-class-preserved : goal.loop-class-preserved
loop-class-preserved c =
    let rows = c.args.rows.now.items in record {
      len = c.in_ok-push_to.ensures.len ∙ c.loop-class.invariant.len;
      each = λ doc knows is. installed_step doc c.args.index c.loop-class.class c.args.reached
          c.args.above.now c.if_installed.result rows c.loop-class.rows.items
          c.push_to.new.rows.items knows is (c.loop-class.invariant.each doc knows is)
          (omega arith) (omega (arith, c.requires.rows)) (omega arith)
          c.if_installed.ensures.exact (λ other lt. c.in_ok-push_to.ensures.exact other
          (omega arith));
    }
