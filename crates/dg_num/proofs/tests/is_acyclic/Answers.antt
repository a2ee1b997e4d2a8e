use Rattle.std.proofs.Common.{◌<◌, ℕ, Bool, List, not, length, sym, ap, ◌∙◌, subst}
use Rattle.std.proofs.lemmas.Bool.{false≢true}
use Rattle.dg_num.specs.Walks.{IsTrueAt}
use Rattle.dg_num.proofs.Repeats.{IsAcyclic-from_marks}
use Rattle.dg_num.proofs.tests.is_acyclic.Goals as goal

pub returns : goal.returns
returns c = λ clear.
    let marks = c.in_ok-marks.marks.items in
    let P : List Bool → Type 0 = λ xs. (x : ℕ) × (x < length xs) × IsTrueAt xs x in
    IsAcyclic-from_marks c.args.graph.now marks c.in_ok-marks.ensures.exact (λ some.
    let marked = c.has_mark.ensures.1 (subst P (sym c.deref.ensures.value) some) in
    false≢true (sym (ap not marked) ∙ clear))
