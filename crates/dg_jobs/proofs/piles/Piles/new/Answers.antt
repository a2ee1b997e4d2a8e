use Rattle.std.proofs.Common.{◌≡◌, ◌+◌, None, replicate, rules}
use Rattle.dg_jobs.proofs.PileLaws.{AreStacked-new}
use Rattle.dg_jobs.proofs.piles.Piles.new.Goals as goal

pub invariant_of-result : goal.invariant_of-result
invariant_of-result c =
    let place : c.in_ok-vec.field-0.items ≡ replicate c.args.count None = search rules in
    let below : c.in_ok-vec-2.field-0.items ≡ replicate c.args.count None = search rules in
    let top : c.in_ok-vec-3.field-0.items ≡ replicate (c.args.count + 3) None = search rules in
    rw (place, below, top) (AreStacked-new c.args.count c.requires)
