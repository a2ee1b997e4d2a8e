use Rattle.std.proofs.Common.{◌≡◌, ◌-◌, ◌+◌, ◌*◌}
use Rattle.dg_decl.specs.Readers as readers
use Rattle.dg_decl.specs.ExpressionForms as forms
use Rattle.dg_reader.proofs.ListLemmas.{with_front}
use Rattle.dg_reader.proofs.constants.+constants.Given as goal

-- what was read so far and what is still read are the whole list
abbrev pub invariant-constant_list-loop-turn : goal.invariant-constant_list-loop-turn
invariant-constant_list-loop-turn l =
    with_front l.found (readers.list_of (forms.constant_within l.depth) (readers.list_limit -
    l._turn) l.tokens)
    ≡ readers.list_of (forms.constant_within l.depth) readers.list_limit l.fn.tokens

abbrev pub decreases-constant_within : goal.decreases-constant_within
decreases-constant_within l = 5 * l.depth

abbrev pub decreases-constant_list : goal.decreases-constant_list
decreases-constant_list l = 5 * l.depth + 1

abbrev pub decreases-constants : goal.decreases-constants
decreases-constants l = 5 * l.depth + 2

abbrev pub decreases-constant_object : goal.decreases-constant_object
decreases-constant_object l = 5 * l.depth + 3

abbrev pub decreases-constant_over : goal.decreases-constant_over
decreases-constant_over l = 5 * l.depth + 4
