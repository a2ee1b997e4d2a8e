use Rattle.std.proofs.Common.{arith}
use Rattle.dg_comps.proofs.RowLemmas.{pushed}
use Rattle.dg_comps.proofs.rows.push_to.Goals as goal

pub returns-in_ok-push-clause-exact : goal.returns-in_ok-push-clause-exact
returns-in_ok-push-clause-exact c =
    λ other lt. pushed c.args.rows.now.items c.in-Some.class c.args.index c.index_mut.result.now
    c.push.new.self c.args.class (omega arith) c.index_mut.ensures.value c.in_ok-push.ensures.items
    c.in-Some.is other
