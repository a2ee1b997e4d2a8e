use Rattle.std.proofs.Common.{ap, sym, ◌∙◌}
use Rattle.std.proofs.lemmas.Result.{IfOk-weaker}
use Rattle.dg_decl.specs.Stages.Bindings.{bindings_stage}
use Rattle.dg_decl.specs.Stages.Sizes.{sizes_stage}
use Rattle.dg_top.proofs.StageLemmas.{first_of_two, second_of_two}
use Rattle.dg_top.proofs.diagnosing.in_graph.Goals as goal

pub returns-then-is_found : goal.returns-then-is_found
returns-then-is_found c =
    let some = rw c.as_slice-3.ensures.value at (c.is_found.ensures.found c.if-is_found.true) in
    let is = c.in_ok-broken.ensures.exact ∙ ap bindings_stage c.in_ok-dependencies.ensures.exact in
    record {
      exact = first_of_two (bindings_stage c.args.d.now) (sizes_stage c.args.d.now) c.in_ok-broken.broken.items is some;
    }

pub returns : goal.returns
returns c =
    let none = rw c.as_slice-3.ensures.value at (c.is_found.ensures.nothing c.if-is_found.false) in
    let is = c.in_ok-broken.ensures.exact ∙ ap bindings_stage c.in_ok-dependencies.ensures.exact in
    record {
      exact = IfOk-weaker c.sizes.result _ _ (λ broken h. second_of_two (bindings_stage c.args.d.now) (sizes_stage c.args.d.now) broken.items (sym is ∙ none) h) c.sizes.ensures.exact;
    }
