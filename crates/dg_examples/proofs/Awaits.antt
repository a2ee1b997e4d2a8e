-- A producer that awaits another in one of two arms.
use Rattle.std.proofs.Common.{◌≡◌, refl, ap, ◌∙◌}
use Rattle.std.specs.Prelude.{ℕ, suc, pos, List, [], ◌∷◌, ◌++◌, Some, Ok, codes}
use Rattle.std.specs.List.{filter_map, flat_map}
use Rattle.dg_types.specs.declared.shape.Shape.TheVariants as shape
use Rattle.dg_decl.specs.declared.item.Param.{Param}
use Rattle.dg_slots.specs.declared.session.Ask.{Ask}
use Rattle.dg_value.specs.declared.place.PlaceRoot.TheVariants as root
use Rattle.dg_value.specs.declared.value.Reply.TheVariants as reply
use Rattle.dg_value.specs.declared.value.Value.{Value}
use Rattle.dg_value.specs.declared.value.Value.TheVariants as value
use Rattle.dg_value.specs.Places.{at_root}
use Rattle.dg_eval.specs.Runs.{Asked, cell, Run, gives, before, and_then, asking, asks_of}
use Rattle.dg_eval.specs.Meaning.{Eval, eval, cell_place, content_of, of_end, around}
use Rattle.dg_eval.specs.Asks.{Reached, value_there, CellName, run_of_ask, reply_of, followed, used, as_cell, each_once, cells}
use Rattle.dg_eval.specs.Report.{printed, value_text, whole, report}
use Rattle.dg_examples.specs.Documents.{slow_use, awaited, unawaited}
use Rattle.dg_examples.specs.Outcomes.{replies, with_value, cell_of}
use Rattle.dg_examples.proofs.Words.{evaluates}
use Rattle.dg_examples.proofs.Bodies.{integer_runs, choice_runs}
use Rattle.dg_examples.proofs.Printing.{whole_held, whole_int, value_line, report_of, before_lines}
use Rattle.dg_examples.proofs.Uses.{used_of_cell}
use Rattle.dg_examples.proofs.ValueFolds.{values}

abbrev the_param : Param
the_param = record { name = codes "slow"; shape = slow_use (shape.Producer shape.Int) }

abbrev the_ask : Ask
the_ask = record { inst = 0; entry = 0; steps = [] }

-- a run that gives an integer
abbrev integer : ℕ → List Asked → Run Value
integer n asked = Some (Ok (value.Int (pos n)), asked)

-- ---- where the arm is taken

slow_content : (d : ℕ) → eval awaited (suc (suc d)) 0 0 (cell_place 0 0) ≡ integer 5 []
unfolding evaluates awaited
slow_content d =
    let below : Eval = eval awaited (suc d) in
    ap (λ r. and_then (before [] r) (of_end below))
    (integer_runs awaited [] below d 0 (cell_place 0 0) [] (pos 5))

-- the content of the other cell, from that of this one
abbrev awaited_with : Run Value → Run Value
awaited_with x = before [] (asking (cell 0 0) x)

pick_content : (d : ℕ) → eval awaited (suc (suc (suc d))) 0 1 (cell_place 0 1)
    ≡ integer 5 (cell 0 0 ∷ [])
unfolding evaluates awaited
pick_content d =
    let below : Eval = eval awaited (suc (suc d)) in
    ap (λ r. and_then (before [] r) (of_end below))
    (choice_runs awaited (the_param ∷ []) (pos 1) (pos 2) the_param (pos 0)
    (around awaited below (suc (suc d)) 1 (cell_place 0 1) (value.Provider 0 0 ∷ [])))
    ∙ ap awaited_with (slow_content d)

-- what the ask comes to, from the content of the cell
abbrev asked_with : Run Value → Run Reached
asked_with x =
    and_then (asking (cell 0 1) (and_then x (λ v. gives (value.Held 0 1))))
    (followed awaited (at_root (root.Ask 1)) 1 [])

abbrev the_run : Run Reached
the_run = Some (Ok (value_there (value.Held 0 1)), cell 0 1 ∷ [])

run_is : run_of_ask awaited 1 the_ask ≡ the_run
unfolding evaluates awaited
run_is = ap asked_with (pick_content 125)

pub given : replies awaited ≡ with_value (value.Held 0 1) ∷ []
unfolding evaluates awaited
given = ap (λ (r : Run Reached). reply_of r ∷ []) run_is

pub made : content_of awaited 0 1 ≡ integer 5 (cell 0 0 ∷ [])
unfolding content_of
made = pick_content 125

-- the cells of these
abbrev cells_among : List Asked → List CellName
cells_among xs = each_once (filter_map as_cell xs)

slow_used : used awaited 255 (cell 0 0) ≡ cell 0 0 ∷ []
unfolding content_of
slow_used = used_of_cell awaited 254 0 0 (integer 5 []) (slow_content 126)

pick_used : used awaited 256 (cell 0 1) ≡ cell 0 1 ∷ cell 0 0 ∷ []
pick_used =
    used_of_cell awaited 255 0 1 (integer 5 (cell 0 0 ∷ [])) made
    ∙ ap (λ (xs : List Asked). cell 0 1 ∷ (xs ++ [])) slow_used

pub used_cells : cells awaited ≡ cell_of 0 1 ∷ cell_of 0 0 ∷ []
unfolding evaluates awaited
used_cells =
    ap (λ (r : Run Reached). cells_among (flat_map (used awaited 256) (asks_of r) ++ [])) run_is
    ∙ ap (λ xs. cells_among ((xs ++ []) ++ [])) pick_used

the_whole : whole awaited 129 (value.Held 0 1) ≡ Some (value.Int (pos 5))
the_whole =
    whole_held awaited 128 0 1 (value.Int (pos 5)) (cell 0 0 ∷ []) made
    ∙ whole_int awaited 127 (pos 5)

the_text : value_text awaited (value.Int (pos 5)) [] ≡ printed (codes "5") []
unfolding evaluates
the_text = simp values refl

pub printed_report : report awaited ≡ codes "1 5\ncells 2\n"
unfolding evaluates
printed_report =
    report_of awaited _ _ _ given used_cells
    (before_lines awaited 0 (reply.Value (value.Held 0 1)) [] [] _ [] [] (value_line awaited 1
    (value.Held 0 1) (value.Int (pos 5)) [] (codes "5") [] the_whole the_text) refl)

-- ---- where it isn't

passed_content : (d : ℕ) → eval unawaited (suc (suc d)) 0 1 (cell_place 0 1) ≡ integer 0 []
unfolding evaluates unawaited
passed_content d =
    let below : Eval = eval unawaited (suc d) in
    ap (λ r. and_then (before [] r) (of_end below))
    (choice_runs unawaited (the_param ∷ []) (pos 3) (pos 2) the_param (pos 0)
    (around unawaited below (suc d) 1 (cell_place 0 1) (value.Provider 0 0 ∷ [])))

abbrev passed_with : Run Value → Run Reached
passed_with x =
    and_then (asking (cell 0 1) (and_then x (λ v. gives (value.Held 0 1))))
    (followed unawaited (at_root (root.Ask 1)) 1 [])

passed_run : run_of_ask unawaited 1 the_ask ≡ the_run
unfolding evaluates unawaited
passed_run = ap passed_with (passed_content 126)

pub unawaited_given : replies unawaited ≡ with_value (value.Held 0 1) ∷ []
unfolding evaluates unawaited
unawaited_given = ap (λ (r : Run Reached). reply_of r ∷ []) passed_run

pub unawaited_made : content_of unawaited 0 1 ≡ integer 0 []
unfolding content_of
unawaited_made = passed_content 126

passed_used : used unawaited 256 (cell 0 1) ≡ cell 0 1 ∷ []
passed_used = used_of_cell unawaited 255 0 1 (integer 0 []) unawaited_made

pub unawaited_used : cells unawaited ≡ cell_of 0 1 ∷ []
unfolding evaluates unawaited
unawaited_used =
    ap (λ (r : Run Reached). cells_among (flat_map (used unawaited 256) (asks_of r) ++ []))
    passed_run
    ∙ ap (λ xs. cells_among ((xs ++ []) ++ [])) passed_used

passed_whole : whole unawaited 129 (value.Held 0 1) ≡ Some (value.Int (pos 0))
passed_whole =
    whole_held unawaited 128 0 1 (value.Int (pos 0)) [] unawaited_made
    ∙ whole_int unawaited 127 (pos 0)

passed_text : value_text unawaited (value.Int (pos 0)) [] ≡ printed (codes "0") []
unfolding evaluates
passed_text = simp values refl

pub unawaited_report : report unawaited ≡ codes "1 0\ncells 1\n"
unfolding evaluates
unawaited_report =
    report_of unawaited _ _ _ unawaited_given unawaited_used
    (before_lines unawaited 0 (reply.Value (value.Held 0 1)) [] [] _ [] [] (value_line unawaited 1
    (value.Held 0 1) (value.Int (pos 0)) [] (codes "0") [] passed_whole passed_text) refl)
