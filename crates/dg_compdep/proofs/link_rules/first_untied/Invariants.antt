use Rattle.std.proofs.Common.{◌≡◌, drop, not}
use Rattle.std.specs.List.{find}
use Rattle.dg_decl.specs.Stages.Links.{is_tied}
use Rattle.dg_compdep.proofs.link_rules.first_untied.Given as goal

abbrev pub invariant-loop-dep : goal.invariant-loop-dep
invariant-loop-dep l =
    find (λ d. not (is_tied l.tied l.from d)) (drop l.dep-index l.deps)
    ≡ find (λ d. not (is_tied l.tied l.from d)) l.deps
