use Rattle.std.proofs.Common.{refl}
use Rattle.dg_typing.specs.declared.types_stage.type_names.Listing.{Listing}
use Rattle.dg_typing.proofs.TypeListings.{adds_next}
use Rattle.dg_typing.proofs.types_stage.type_names.note_interfaces.Goals as goal

pub loop-interface-preserved : goal.loop-interface-preserved
loop-interface-preserved c =
    let listing : Listing = record { class = c.args.class; interface = c.as_slice.result } in
    adds_next listing c.args.class c.args.interfaces.now c.loop-interface.interface-index
    c.interface-item.result c.args.listed.now.keys c.loop-interface.listed.keys
    c.insert.new.self.keys c.loop-interface-test.true c.interface-item.is refl
    c.as_slice.ensures.exact c.in_ok-insert.ensures.keys c.loop-interface.invariant
