use Rattle.std.proofs.Common.{◌≡◌, ◌+◌, ◌*◌, true, take}
use Rattle.std.specs.Prelude.{nat_le}
use Rattle.std.specs.List.{list_all}
use Rattle.dg_decl.specs.ExpressionForms as forms
use Rattle.dg_reader.proofs.nesting.+nesting.Given as goal

-- those so far nest no deeper
abbrev pub invariant-all_nest_within-loop-e : goal.invariant-all_nest_within-loop-e
invariant-all_nest_within-loop-e l = list_all (λ x. nat_le (forms.nesting x) l.limit) (take
    l.e-index l.es) ≡ true

abbrev pub decreases-nests_within : goal.decreases-nests_within
decreases-nests_within l = 2 * l.limit

abbrev pub decreases-condition_nests_within : goal.decreases-condition_nests_within
decreases-condition_nests_within l = 2 * l.limit

abbrev pub decreases-all_nest_within : goal.decreases-all_nest_within
decreases-all_nest_within l = 2 * l.limit + 1
