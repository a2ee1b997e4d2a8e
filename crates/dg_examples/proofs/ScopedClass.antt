-- One class with a scope, and without.
use Rattle.std.proofs.Common.{◌≡◌, refl, ◌∙◌}
use Rattle.std.specs.Prelude.{ℕ, List, [], ◌∷◌, Some, codes}
use Rattle.dg_decl.specs.Diagnostics.{IsAccepted}
use Rattle.dg_decl.proofs.FoldEquations.{folds}
use Rattle.dg_value.specs.declared.place.Place.{Place}
use Rattle.dg_value.specs.declared.place.PlaceRoot.TheVariants as root
use Rattle.dg_value.specs.declared.place.PlaceStep.TheVariants as step
use Rattle.dg_value.specs.declared.value.Reply.TheVariants as reply
use Rattle.dg_value.specs.declared.value.Value.{Value}
use Rattle.dg_value.specs.declared.value.Value.TheVariants as value
use Rattle.dg_eval.specs.Runs.{gives}
use Rattle.dg_eval.specs.Meaning.{content_of}
use Rattle.dg_eval.specs.Asks.{cells}
use Rattle.dg_eval.specs.Report.{printed, value_text, whole, report}
use Rattle.dg_examples.specs.Documents.{scoped_class, unscoped_class}
use Rattle.dg_examples.specs.Outcomes.{replies, with_value, place, cell_of}
use Rattle.dg_examples.proofs.Words.{evaluates}
use Rattle.dg_examples.proofs.ValueFolds.{values}
use Rattle.dg_examples.proofs.Printing.{whole_held, whole_object, value_line, report_of, before_lines}

pub accepted : IsAccepted scoped_class
unfolding evaluates scoped_class
accepted = simp folds refl

-- the one object
abbrev pool : Value
pool = value.Object 6 (place (root.Cell 0 0) (step.New 1 ∷ [])) []

pub given : replies scoped_class ≡ with_value (value.Held 0 0) ∷ with_value (value.Held 0 0) ∷ []
unfolding evaluates scoped_class
given = refl

pub made : content_of scoped_class 0 0
    ≡ gives (value.Object 6 (place (root.Cell 0 0) (step.New 1 ∷ [])) [])
unfolding evaluates scoped_class
made = refl

pub used_cells : cells scoped_class ≡ cell_of 0 0 ∷ []
unfolding evaluates scoped_class
used_cells = refl

the_whole : whole scoped_class 129 (value.Held 0 0) ≡ Some pool
the_whole =
    whole_held scoped_class 128 0 0 pool [] made
    ∙ whole_object scoped_class 127 6 (place (root.Cell 0 0) (step.New 1 ∷ [])) []

abbrev once : List Place
once = place (root.Cell 0 0) (step.New 1 ∷ []) ∷ []

first_text : value_text scoped_class pool [] ≡ printed (codes "Pool#1{}") once
unfolding evaluates scoped_class
first_text = simp values refl

second_text : value_text scoped_class pool once ≡ printed (codes "Pool#1") once
unfolding evaluates scoped_class
second_text = simp values refl

pub printed_report : report scoped_class ≡ codes "1 Pool#1{}\n2 Pool#1\ncells 1\n"
unfolding evaluates
printed_report =
    report_of scoped_class _ _ _ given used_cells
    (before_lines scoped_class 0 (reply.Value (value.Held 0 0)) (with_value (value.Held 0 0) ∷ [])
    [] _ once _ (value_line scoped_class 1 (value.Held 0 0) pool [] (codes "Pool#1{}") once the_whole
    first_text)
    (before_lines scoped_class 1 (reply.Value (value.Held 0 0)) [] once _ once [] (value_line
    scoped_class 2 (value.Held 0 0) pool once (codes "Pool#1") once the_whole second_text) refl))

-- ---- without the scope

pub unscoped_accepted : IsAccepted unscoped_class
unfolding evaluates unscoped_class
unscoped_accepted = simp folds refl

-- the object of the ask of this number
abbrev pool_of : ℕ → Value
pool_of n = value.Object 6 (place (root.Ask n) (step.Arg 1 ∷ step.New 1 ∷ [])) []

abbrev ident_of : ℕ → Place
ident_of n = place (root.Ask n) (step.Arg 1 ∷ step.New 1 ∷ [])

pub unscoped_given : replies unscoped_class
    ≡ with_value (value.Object 6 (place (root.Ask 1) (step.Arg 1 ∷ step.New 1 ∷ [])) [])
    ∷ with_value (value.Object 6 (place (root.Ask 2) (step.Arg 1 ∷ step.New 1 ∷ [])) [])
    ∷ []
unfolding evaluates unscoped_class
unscoped_given = refl

pub unscoped_used : cells unscoped_class ≡ []
unfolding evaluates unscoped_class
unscoped_used = refl

whole_pool : (n : ℕ) → whole unscoped_class 129 (pool_of n) ≡ Some (pool_of n)
whole_pool n = whole_object unscoped_class 128 6 (ident_of n) []

text_of_first : value_text unscoped_class (pool_of 1) []
    ≡ printed (codes "Pool#1{}") (ident_of 1 ∷ [])
unfolding evaluates unscoped_class
text_of_first = simp values refl

text_of_second : value_text unscoped_class (pool_of 2) (ident_of 1 ∷ [])
    ≡ printed (codes "Pool#2{}") (ident_of 1 ∷ ident_of 2 ∷ [])
unfolding evaluates unscoped_class
text_of_second = simp values refl

pub unscoped_report : report unscoped_class ≡ codes "1 Pool#1{}\n2 Pool#2{}\ncells 0\n"
unfolding evaluates
unscoped_report =
    report_of unscoped_class _ _ _ unscoped_given unscoped_used
    (before_lines unscoped_class 0 (reply.Value (pool_of 1)) (with_value (pool_of 2) ∷ []) [] _
    (ident_of 1 ∷ []) _ (value_line unscoped_class 1 (pool_of 1) (pool_of 1) [] (codes "Pool#1{}")
    (ident_of 1 ∷ []) (whole_pool 1) text_of_first)
    (before_lines unscoped_class 1 (reply.Value (pool_of 2)) [] (ident_of 1 ∷ []) _
    (ident_of 1 ∷ ident_of 2 ∷ []) [] (value_line unscoped_class 2 (pool_of 2) (pool_of 2)
    (ident_of 1 ∷ []) (codes "Pool#2{}") (ident_of 1 ∷ ident_of 2 ∷ []) (whole_pool 2)
    text_of_second) refl))
