-- Two parameters that fail.
use Rattle.std.proofs.Common.{◌≡◌, refl, ap, ◌∙◌}
use Rattle.std.specs.Prelude.{ℕ, suc, List, [], ◌∷◌, ◌++◌, Some, Err, codes}
use Rattle.std.specs.List.{filter_map, flat_map}
use Rattle.dg_slots.specs.declared.session.Ask.{Ask}
use Rattle.dg_value.specs.declared.place.PlaceRoot.TheVariants as root
use Rattle.dg_value.specs.declared.place.PlaceStep.TheVariants as step
use Rattle.dg_value.specs.declared.value.Failure.{Failure}
use Rattle.dg_value.specs.declared.value.Reply.TheVariants as reply
use Rattle.dg_value.specs.declared.value.Value.{Value}
use Rattle.dg_value.specs.declared.value.Value.TheVariants as value
use Rattle.dg_value.specs.Places.{at_root, then_step}
use Rattle.dg_eval.specs.Runs.{Asked, cell, Run, gives, before, and_then, asking, both, failed, asks_of}
use Rattle.dg_eval.specs.Meaning.{Eval, eval, cell_place, content_of, of_end, object_of}
use Rattle.dg_eval.specs.Asks.{Reached, CellName, run_of_ask, reply_of, followed, used, as_cell, each_once, cells}
use Rattle.dg_eval.specs.Report.{printed, reply_line, report}
use Rattle.dg_examples.specs.Documents.{two_failures}
use Rattle.dg_examples.specs.Outcomes.{replies, with_failure, cell_of}
use Rattle.dg_examples.proofs.Words.{evaluates}
use Rattle.dg_examples.proofs.Bodies.{fail_runs}
use Rattle.dg_examples.proofs.Printing.{report_of, before_lines}
use Rattle.dg_examples.proofs.Uses.{used_of_cell}

abbrev first_content : Run Value
first_content = failed 1 (codes "no a")

abbrev second_content : Run Value
second_content = failed 2 (codes "no b")

-- the contents of the two cells, at any depth that is enough
first_fails : (d : ℕ) → eval two_failures (suc (suc d)) 0 1 (cell_place 0 1) ≡ first_content
unfolding evaluates two_failures
first_fails d =
    let below : Eval = eval two_failures (suc d) in
    ap (λ r. and_then (before [] r) (of_end below))
    (fail_runs two_failures below d 1 (cell_place 0 1) [] (codes "no a"))

second_fails : (d : ℕ) → eval two_failures (suc (suc d)) 0 2 (cell_place 0 2) ≡ second_content
unfolding evaluates two_failures
second_fails d =
    let below : Eval = eval two_failures (suc d) in
    ap (λ r. and_then (before [] r) (of_end below))
    (fail_runs two_failures below d 2 (cell_place 0 2) [] (codes "no b"))

-- what the ask comes to, from the contents of the two cells
abbrev asked_with : Run Value → Run Value → Run Reached
asked_with x y =
    and_then
    (and_then
    (both (asking (cell 0 1) (and_then x (λ v. gives (value.Held 0 1))))
    (both (asking (cell 0 2) (and_then y (λ v. gives (value.Held 0 2)))) (gives [])))
    (object_of two_failures 1 (then_step (at_root (root.Ask 1)) (step.Arg 1))))
    (followed two_failures (at_root (root.Ask 1)) 1 [])

abbrev the_ask : Ask
the_ask = record { inst = 0; entry = 0; steps = [] }

abbrev failure : Failure
failure = record { origin = 1; message = codes "no a" }

abbrev the_run : Run Reached
the_run = Some (Err failure, cell 0 1 ∷ cell 0 2 ∷ [])

run_is : run_of_ask two_failures 1 the_ask ≡ the_run
unfolding evaluates two_failures
run_is =
    ap (λ x. asked_with x (eval two_failures 127 0 2 (cell_place 0 2))) (first_fails 125)
    ∙ ap (asked_with first_content) (second_fails 125)

pub given : replies two_failures ≡ with_failure failure ∷ []
unfolding evaluates two_failures
given = ap (λ (r : Run Reached). reply_of r ∷ []) run_is

-- ---- cells

first_used : used two_failures 256 (cell 0 1) ≡ cell 0 1 ∷ []
unfolding content_of
first_used = used_of_cell two_failures 255 0 1 first_content (first_fails 126)

second_used : used two_failures 256 (cell 0 2) ≡ cell 0 2 ∷ []
unfolding content_of
second_used = used_of_cell two_failures 255 0 2 second_content (second_fails 126)

-- the cells of these
abbrev cells_among : List Asked → List CellName
cells_among xs = each_once (filter_map as_cell xs)

pub used_cells : cells two_failures ≡ cell_of 0 1 ∷ cell_of 0 2 ∷ []
unfolding evaluates two_failures
used_cells =
    ap (λ (r : Run Reached). cells_among (flat_map (used two_failures 256) (asks_of r) ++ []))
    run_is
    ∙ ap (λ xs. cells_among ((xs ++ (used two_failures 256 (cell 0 2) ++ [])) ++ [])) first_used
    ∙ ap (λ xs. cells_among (((cell 0 1 ∷ []) ++ (xs ++ [])) ++ [])) second_used

-- ---- the report

the_line : reply_line two_failures 1 (reply.Failed failure) []
    ≡ printed (codes "1 failed M.a \"no a\"\n") []
unfolding evaluates two_failures
the_line = refl

pub printed_report : report two_failures ≡ codes "1 failed M.a \"no a\"\ncells 2\n"
unfolding evaluates
printed_report =
    report_of two_failures _ _ _ given used_cells
    (before_lines two_failures 0 (reply.Failed failure) [] [] _ [] [] the_line refl)
