use Rattle.dg_top.proofs.StageLemmas.{in_graph_are}
use Rattle.dg_top.proofs.diagnosing.from_bindings.Goals as goal

pub returns-then-is_found : goal.returns-then-is_found
returns-then-is_found c =
    let some = rw c.as_slice.ensures.value at (c.is_found.ensures.found c.if-is_found.true) in
    record {
      exact = in_graph_are c.args.d.now c.in_ok-broken.broken.items c.requires.passes c.in_ok-broken.ensures.exact some;
    }
