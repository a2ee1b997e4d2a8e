use Rattle.std.proofs.Common.{◌<◌, ◌≤◌, ℕ, List, length, Option, Some, slice_get, ap, ◌∙◌, arith}
use Rattle.dg_decl.specs.Components.{walk}
use Rattle.dg_requests.specs.Contexts.{parent_at}
use Rattle.dg_tree.proofs.ParentLemmas.{is_up, is_past}
use Rattle.dg_tree.proofs.parents.up.Goals as goal

pub returns-then-level-len : goal.returns-then-level-len
returns-then-level-len c = record {
  exact = λ doc is.
      let le : length c.args.world.now.parent ≤ c.args.level =
      omega (arith, c.if-level-len.true, c.len.ensures) in
      is_past doc c.args.world.now c.args.inst c.args.level is le;
}

pub returns : goal.returns
returns c = record {
  exact = λ doc is.
      let lt : c.args.level < length c.args.world.now.parent =
      omega (arith, c.if-level-len.false, c.len.ensures) in
      is_up doc c.args.world.now c.args.inst c.args.level c.parent_up.result is lt
      (λ steps within. c.parent_up.ensures.exact steps within
      ∙ ap (λ (ps : List (Option ℕ)). slice_get (walk (parent_at ps) steps (Some c.args.inst))
      c.args.level) c.as_slice.ensures);
}
