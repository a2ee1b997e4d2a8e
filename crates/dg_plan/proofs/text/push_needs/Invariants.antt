use Rattle.std.proofs.Common.{◌≡◌, ◌++◌, take}
use Rattle.dg_plan.specs.Counted.{text_of_need, texts_from}
use Rattle.dg_plan.proofs.text.push_needs.Given as goal

abbrev pub invariant-loop-index : goal.invariant-loop-index
invariant-loop-index l =
    l.text.items
    ≡ l.fn.text.items ++ texts_from (text_of_need l.dependencies l.node) 0 (take l.index l.needed)
