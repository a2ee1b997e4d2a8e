use Rattle.std.proofs.Common.{◌≡◌, ◌++◌, map, drop}
use Rattle.dg_slots.specs.Numbered.{exprs, numbered}
use Rattle.dg_session.proofs.numbered.+numbering.Given as goal

abbrev pub invariant-numbered_args-loop-arg : goal.invariant-numbered_args-loop-arg
invariant-numbered_args-loop-arg l =
    l.list ++ exprs (map (numbered l.numbers l.params) (drop l.arg-index l.args))
    ≡ exprs (map (numbered l.numbers l.params) l.args)
