use Rattle.dg_typing.proofs.TypeListings.{items_next}
use Rattle.dg_typing.proofs.types_stage.type_names.listed_by.Goals as goal

pub loop-place-preserved : goal.loop-place-preserved
loop-place-preserved c =
    items_next c.args.items.now c.loop-place.place c.index-items-place.result
    c.loop-place.listed.keys c.note_item.new.listed.keys c.loop-place-test.true
    c.index-items-place.is c.loop-place.invariant c.in_ok-note_item.ensures.exact
