use Rattle.std.proofs.Common.{◌∷◌, ◌++◌, [], ℕ, List, map, sym, ap, ◌∙◌, arith}
use Rattle.std.specs.List.{range_with_len}
use Rattle.std.proofs.lemmas.List.{map-append}
use Rattle.std.proofs.lemmas.List.FromFn.{map-range_with_len_more}
use Rattle.dg_resolve.specs.Chains.{root_first_in}
use Rattle.dg_resolve.proofs.chains.chains.Goals as goal

pub loop-class-preserved : goal.loop-class-preserved
loop-class-preserved c =
    let classes = c.args.classes.now in
    let class = c.loop-class.class in
    ap (map (λ found. found.items)) c.in_ok-push.ensures.items
    ∙ map-append (λ found. found.items) c.loop-class.made.items (c.in_ok-chain.field-0 ∷ [])
    ∙ ap (λ (l : List (List ℕ)). l ++ c.in_ok-chain.field-0.items ∷ []) c.loop-class.invariant
    ∙ ap (λ (f : List ℕ). map (root_first_in classes) (range_with_len 0 class) ++ f ∷ []) c.in_ok-chain.ensures.exact
    ∙ sym (map-range_with_len_more (root_first_in classes) 0 class class (omega arith))
