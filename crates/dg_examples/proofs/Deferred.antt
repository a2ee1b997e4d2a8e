-- A Provider and a Lazy.
use Rattle.std.proofs.Common.{◌≡◌, refl}
use Rattle.std.specs.Prelude.{ℕ, List, [], ◌∷◌, Some, codes}
use Rattle.dg_decl.specs.Diagnostics.{IsAccepted}
use Rattle.dg_decl.proofs.FoldEquations.{folds}
use Rattle.dg_decl.proofs.JudgeWords.{judges}
use Rattle.dg_examples.proofs.Acceptance.{accepted_by}
use Rattle.dg_value.specs.declared.place.Place.{Place}
use Rattle.dg_value.specs.declared.place.PlaceRoot.TheVariants as root
use Rattle.dg_value.specs.declared.place.PlaceStep.TheVariants as step
use Rattle.dg_value.specs.declared.value.Reply.TheVariants as reply
use Rattle.dg_value.specs.declared.value.Value.{Value}
use Rattle.dg_value.specs.declared.value.Value.TheVariants as value
use Rattle.dg_eval.specs.Runs.{gives}
use Rattle.dg_eval.specs.Meaning.{content_of}
use Rattle.dg_eval.specs.Asks.{cells}
use Rattle.dg_eval.specs.Report.{printed, value_text, whole, report}
use Rattle.dg_examples.specs.Documents.{provider_and_lazy}
use Rattle.dg_examples.specs.Outcomes.{replies, with_value, place, cell_of}
use Rattle.dg_examples.proofs.Words.{evaluates}
use Rattle.dg_examples.proofs.ValueFolds.{values}
use Rattle.dg_examples.proofs.Printing.{whole_object, value_line, report_of, before_lines}

pub accepted : IsAccepted provider_and_lazy
unfolding judges provider_and_lazy
accepted =
    accepted_by provider_and_lazy (record {
      names = simp folds refl;
      types = refl;
      components = refl;
      dependencies = refl;
      bindings = refl;
      sizes = refl;
      session = refl;
      links = refl;
    })

-- the object that a Provider makes for the ask of this number
abbrev each_of : ℕ → Value
each_of n = value.Object 6 (place (root.Ask n) (step.Step 2 ∷ step.New 1 ∷ [])) []

-- that of the Lazy
abbrev one : Value
one = value.Object 6 (place (root.Cell 0 1) (step.Arg 2 ∷ step.Inside ∷ step.New 1 ∷ [])) []

pub given : replies provider_and_lazy
    ≡ with_value (value.Object 6 (place (root.Ask 1) (step.Step 2 ∷ step.New 1 ∷ [])) [])
    ∷ with_value (value.Object 6 (place (root.Ask 2) (step.Step 2 ∷ step.New 1 ∷ [])) [])
    ∷ with_value (value.Object 6 (place (root.Cell 0 1) (step.Arg 2 ∷ step.Inside ∷ step.New 1
    ∷ [])) [])
    ∷ with_value (value.Object 6 (place (root.Cell 0 1) (step.Arg 2 ∷ step.Inside ∷ step.New 1
    ∷ [])) [])
    ∷ []
unfolding evaluates provider_and_lazy
given = refl

pub made : content_of provider_and_lazy 0 1
    ≡ gives (value.Object 7 (place (root.Cell 0 1) (step.New 1 ∷ []))
    (value.Provider 0 0 ∷ value.Lazy 0 0 (place (root.Cell 0 1) (step.Arg 2 ∷ [])) ∷ []))
unfolding evaluates provider_and_lazy
made = refl

pub used_cells : cells provider_and_lazy ≡ cell_of 0 1 ∷ []
unfolding evaluates provider_and_lazy
used_cells = refl

abbrev each_ident : ℕ → Place
each_ident n = place (root.Ask n) (step.Step 2 ∷ step.New 1 ∷ [])

abbrev one_ident : Place
one_ident = place (root.Cell 0 1) (step.Arg 2 ∷ step.Inside ∷ step.New 1 ∷ [])

whole_tab : (p : Place) → whole provider_and_lazy 129 (value.Object 6 p [])
    ≡ Some (value.Object 6 p [])
whole_tab p = whole_object provider_and_lazy 128 6 p []

abbrev seen_1 : List Place
seen_1 = each_ident 1 ∷ []

abbrev seen_2 : List Place
seen_2 = each_ident 1 ∷ each_ident 2 ∷ []

abbrev seen_3 : List Place
seen_3 = each_ident 1 ∷ each_ident 2 ∷ one_ident ∷ []

text_1 : value_text provider_and_lazy (each_of 1) [] ≡ printed (codes "Tab#1{}") seen_1
unfolding evaluates provider_and_lazy
text_1 = simp values refl

text_2 : value_text provider_and_lazy (each_of 2) seen_1 ≡ printed (codes "Tab#2{}") seen_2
unfolding evaluates provider_and_lazy
text_2 = simp values refl

text_3 : value_text provider_and_lazy one seen_2 ≡ printed (codes "Tab#3{}") seen_3
unfolding evaluates provider_and_lazy
text_3 = simp values refl

text_4 : value_text provider_and_lazy one seen_3 ≡ printed (codes "Tab#3") seen_3
unfolding evaluates provider_and_lazy
text_4 = simp values refl

pub printed_report : report provider_and_lazy
    ≡ codes "1 Tab#1{}\n2 Tab#2{}\n3 Tab#3{}\n4 Tab#3\ncells 1\n"
unfolding evaluates
printed_report =
    report_of provider_and_lazy _ _ _ given used_cells
    (before_lines provider_and_lazy 0 (reply.Value (each_of 1))
    (with_value (each_of 2) ∷ with_value one ∷ with_value one ∷ []) [] _ seen_1 _
    (value_line provider_and_lazy 1 (each_of 1) (each_of 1) [] (codes "Tab#1{}") seen_1
    (whole_tab (each_ident 1)) text_1)
    (before_lines provider_and_lazy 1 (reply.Value (each_of 2))
    (with_value one ∷ with_value one ∷ []) seen_1 _ seen_2 _
    (value_line provider_and_lazy 2 (each_of 2) (each_of 2) seen_1 (codes "Tab#2{}") seen_2
    (whole_tab (each_ident 2)) text_2)
    (before_lines provider_and_lazy 2 (reply.Value one) (with_value one ∷ []) seen_2 _ seen_3 _
    (value_line provider_and_lazy 3 one one seen_2 (codes "Tab#3{}") seen_3 (whole_tab one_ident)
    text_3)
    (before_lines provider_and_lazy 3 (reply.Value one) [] seen_3 _ seen_3 []
    (value_line provider_and_lazy 4 one one seen_3 (codes "Tab#3") seen_3 (whole_tab one_ident)
    text_4) refl))))
