-- An entry that a component dependency exposes.
use Rattle.std.proofs.Common.{◌≡◌, refl, ap, ◌∙◌}
use Rattle.std.specs.Prelude.{List, [], ◌∷◌, Some, option_map, codes}
use Rattle.dg_decl.specs.Diagnostics.{IsAccepted}
use Rattle.dg_decl.proofs.FoldEquations.{folds}
use Rattle.dg_decl.proofs.JudgeWords.{judges}
use Rattle.dg_examples.proofs.Acceptance.{accepted_by}
use Rattle.dg_value.specs.declared.place.Place.{Place}
use Rattle.dg_value.specs.declared.place.PlaceRoot.TheVariants as root
use Rattle.dg_value.specs.declared.place.PlaceStep.TheVariants as step
use Rattle.dg_value.specs.declared.value.Reply.TheVariants as reply
use Rattle.dg_value.specs.declared.value.Value.{Value}
use Rattle.dg_value.specs.declared.value.Value.TheVariants as value
use Rattle.dg_eval.specs.Runs.{gives}
use Rattle.dg_eval.specs.Meaning.{content_of}
use Rattle.dg_eval.specs.Asks.{cells}
use Rattle.dg_eval.specs.Report.{printed, value_text, whole, all_some, report}
use Rattle.dg_examples.specs.Documents.{exposed_entry}
use Rattle.dg_examples.specs.Outcomes.{replies, with_value, place, cell_of}
use Rattle.dg_examples.proofs.Words.{evaluates}
use Rattle.dg_examples.proofs.ValueFolds.{values}
use Rattle.dg_examples.proofs.Printing.{whole_held, whole_object, value_line, report_of, before_lines}

pub accepted : IsAccepted exposed_entry
unfolding judges exposed_entry
accepted =
    accepted_by exposed_entry (record {
      names = simp folds refl;
      types = refl;
      components = refl;
      dependencies = refl;
      bindings = refl;
      sizes = refl;
      session = refl;
      links = refl;
    })

abbrev page_ident : Place
page_ident = place (root.Ask 1) (step.Arg 1 ∷ step.New 1 ∷ [])

abbrev log_ident : Place
log_ident = place (root.Cell 1 0) (step.New 1 ∷ [])

abbrev log : Value
log = value.Object 6 log_ident []

abbrev page : Value
page = value.Object 7 page_ident (value.Held 1 0 ∷ [])

-- the page with the log in place of its cell
abbrev whole_page : Value
whole_page = value.Object 7 page_ident (log ∷ [])

pub given : replies exposed_entry
    ≡ with_value (value.Object 7 (place (root.Ask 1) (step.Arg 1 ∷ step.New 1 ∷ []))
    (value.Held 1 0 ∷ []))
    ∷ []
unfolding evaluates exposed_entry
given = refl

pub made : content_of exposed_entry 1 0
    ≡ gives (value.Object 6 (place (root.Cell 1 0) (step.New 1 ∷ [])) [])
unfolding evaluates exposed_entry
made = refl

pub used_cells : cells exposed_entry ≡ cell_of 1 0 ∷ []
unfolding evaluates exposed_entry
used_cells = refl

log_is : whole exposed_entry 129 (value.Held 1 0) ≡ Some log
log_is =
    whole_held exposed_entry 128 1 0 log [] made ∙ whole_object exposed_entry 127 6 log_ident []

page_is : whole exposed_entry 129 page ≡ Some whole_page
page_is =
    whole_object exposed_entry 128 7 page_ident (value.Held 1 0 ∷ [])
    ∙ ap (λ o. option_map (value.Object 7 page_ident) (all_some (o ∷ []))) log_is

abbrev seen : List Place
seen = page_ident ∷ log_ident ∷ []

the_text : value_text exposed_entry whole_page [] ≡ printed (codes "Page#1{log=Log#2{}}") seen
unfolding evaluates exposed_entry
the_text = simp values refl

pub printed_report : report exposed_entry ≡ codes "1 Page#1{log=Log#2{}}\ncells 1\n"
unfolding evaluates
printed_report =
    report_of exposed_entry _ _ _ given used_cells
    (before_lines exposed_entry 0 (reply.Value page) [] [] _ seen [] (value_line exposed_entry 1
    page whole_page [] (codes "Page#1{log=Log#2{}}") seen page_is the_text) refl)
