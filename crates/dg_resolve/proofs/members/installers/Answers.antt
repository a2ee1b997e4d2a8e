use Rattle.std.proofs.Common.{◌∷◌, ◌++◌, [], ℕ, ◌==◌, List, if◌then◌else◌, ap, ◌∙◌}
use Rattle.std.specs.List.{flat_map, range_with_len}
use Rattle.dg_resolve.specs.Members.{among_modules}
use Rattle.dg_resolve.specs.Tables.{of_number}
use Rattle.dg_resolve.proofs.ListLemmas.{up_more}
use Rattle.dg_resolve.proofs.members.installers.Goals as goal

pub loop-class-preserved : goal.loop-class-preserved
loop-class-preserved c =
    let class = c.loop-class.class in
    record {
      each = λ m.
          c.in_ok-add_under.ensures.exact.each m
          ∙ ap (λ (l : List ℕ). l ++ flat_map (λ k. if m == k then class ∷ [] else []) c.modules_at.result.now) (c.loop-class.invariant.each m)
          ∙ ap (λ (ks : List ℕ). flat_map (among_modules c.args.classes.now m) (range_with_len 0 class) ++ flat_map (λ k. if m == k then class ∷ [] else []) ks) c.modules_at.ensures.exact
          ∙ up_more (among_modules c.args.classes.now m) class;
    }
