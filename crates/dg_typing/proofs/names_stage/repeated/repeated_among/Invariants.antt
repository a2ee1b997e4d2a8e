use Rattle.dg_typing.proofs.NamesRepeated.{RepeatsOn}
use Rattle.dg_typing.proofs.names_stage.repeated.repeated_among.Given as goal

abbrev pub invariant-loop-place : goal.invariant-loop-place
invariant-loop-place l =
    RepeatsOn l.s l.params l.place l.fn.out.items l.out.items
