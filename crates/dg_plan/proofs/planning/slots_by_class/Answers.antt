use Rattle.std.proofs.Common.{◌∷◌, ◌++◌, [], ℕ, List, map, filter_map, sym, ap, ◌∙◌, arith}
use Rattle.std.specs.List.{range_with_len}
use Rattle.std.proofs.lemmas.List.FromFn.{map-range_with_len_more}
use Rattle.dg_plan.specs.Entries.{slot_of_entry, entries_in}
use Rattle.dg_plan.proofs.planning.slots_by_class.Goals as goal

pub loop-class-preserved : goal.loop-class-preserved
loop-class-preserved c =
    let ns = c.args.numbers.now in
    let classes = c.args.classes.now in
    let class = c.loop-class.class in
    c.in_ok-push.ensures.ok
    ∙ ap (λ (l : List (List ℕ)). l ++ c.in_ok-slots_of_entries.field-0 ∷ []) c.loop-class.invariant
    ∙ ap (λ (s : List ℕ). map (entries_in ns classes) (range_with_len 0 class) ++ s ∷ [])
    (c.in_ok-slots_of_entries.ensures.exact
    ∙ ap (filter_map (slot_of_entry ns class)) c.entries_at.ensures.exact)
    ∙ sym (map-range_with_len_more (entries_in ns classes) 0 class class (omega arith))
