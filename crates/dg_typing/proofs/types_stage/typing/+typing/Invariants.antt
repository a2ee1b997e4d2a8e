use Rattle.std.proofs.Common.{◌≡◌, map, drop}
use Rattle.std.specs.List.{list_all}
use Rattle.dg_decl.specs.Typing as spec
use Rattle.dg_typing.proofs.types_stage.typing.+typing.Given as goal

abbrev pub invariant-arguments_check-loop-index : goal.invariant-arguments_check-loop-index
invariant-arguments_check-loop-index l =
    spec.arguments_check (map (spec.typed l.names l.params) (drop l.index l.args))
    (drop l.index l.fields)
    ≡ spec.arguments_check (map (spec.typed l.names l.params) l.args) l.fields

abbrev pub invariant-each_checks-loop-arg : goal.invariant-each_checks-loop-arg
invariant-each_checks-loop-arg l =
    list_all (λ x. x.checks l.wanted) (map (spec.typed l.names l.params) (drop l.arg-index l.args))
    ≡ list_all (λ x. x.checks l.wanted) (map (spec.typed l.names l.params) l.args)
