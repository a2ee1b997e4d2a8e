-- A set that a child adds to.
use Rattle.std.proofs.Common.{◌≡◌, refl, ap, ◌∙◌}
use Rattle.std.specs.Prelude.{ℕ, suc, List, [], ◌∷◌, ◌++◌, Some, codes, map}
use Rattle.dg_decl.specs.declared.document.Doc.{Doc}
use Rattle.dg_decl.specs.Diagnostics.{IsAccepted}
use Rattle.dg_decl.proofs.FoldEquations.{folds}
use Rattle.dg_decl.proofs.JudgeWords.{judges}
use Rattle.dg_examples.proofs.Acceptance.{accepted_by}
use Rattle.dg_value.specs.declared.place.Place.{Place}
use Rattle.dg_value.specs.declared.place.PlaceRoot.TheVariants as root
use Rattle.dg_value.specs.declared.place.PlaceStep.TheVariants as step
use Rattle.dg_value.specs.declared.value.Reply.TheVariants as reply
use Rattle.dg_value.specs.declared.value.Value.{Value}
use Rattle.dg_value.specs.declared.value.Value.TheVariants as value
use Rattle.dg_eval.specs.Runs.{gives}
use Rattle.dg_eval.specs.Meaning.{content_of}
use Rattle.dg_eval.specs.Asks.{cells}
use Rattle.dg_eval.specs.Report.{Printing, printed, between, listed, object_text, value_text, whole, report}
use Rattle.dg_examples.specs.Documents.{parent_and_child}
use Rattle.dg_examples.specs.Outcomes.{replies, with_value, place, cell_of, menu, index, home_at, cart_at, help_at}
use Rattle.dg_examples.proofs.Words.{evaluates}
use Rattle.dg_examples.proofs.ValueFolds.{values}
use Rattle.dg_examples.proofs.Printing.{whole_held, text_object, text_set, value_line, report_of, before_lines}

pub accepted : IsAccepted parent_and_child
unfolding judges parent_and_child
accepted =
    accepted_by parent_and_child (record {
      names = simp folds refl;
      types = simp folds refl;
      components = refl;
      dependencies = refl;
      bindings = refl;
      sizes = refl;
      session = refl;
      links = refl;
    })

pub given : replies parent_and_child ≡ with_value menu ∷ with_value (value.Held 0 2) ∷ []
unfolding evaluates parent_and_child
given = refl

pub made : content_of parent_and_child 0 2 ≡ gives index
unfolding evaluates parent_and_child
made = refl

pub used_cells : cells parent_and_child ≡ cell_of 0 2 ∷ []
unfolding evaluates parent_and_child
used_cells = refl

-- none of their parts is held
whole_menu : (doc : Doc) (n : ℕ) → whole doc (suc n) menu ≡ Some menu
whole_menu doc n = simp values refl

whole_index : (doc : Doc) (n : ℕ) → whole doc (suc n) index ≡ Some index
whole_index doc n = simp values refl

index_is : whole parent_and_child 129 (value.Held 0 2) ≡ Some index
index_is =
    whole_held parent_and_child 128 0 2 index [] made ∙ whole_index parent_and_child 127

-- the places of a class and of these routes
abbrev ident : Place → ℕ → Place
ident q n =
    record { root = q.root; steps = q.steps ++ step.Elem n ∷ step.Arg 1 ∷ step.New 1 ∷ [] }

abbrev asked_routes : Place
asked_routes = place (root.Ask 1) (step.Arg 1 ∷ step.Arg 1 ∷ [])

abbrev kept_routes : Place
kept_routes = place (root.Cell 0 2) (step.Arg 1 ∷ [])

abbrev first_seen : List Place
first_seen =
    place (root.Ask 1) (step.Arg 1 ∷ step.New 1 ∷ [])
    ∷ ident asked_routes 1 ∷ ident asked_routes 2 ∷ ident asked_routes 3 ∷ []

abbrev all_seen : List Place
all_seen =
    first_seen
    ++ place (root.Cell 0 2) (step.New 1 ∷ [])
    ∷ ident kept_routes 1 ∷ ident kept_routes 2 ∷ []

-- the text of an object without fields
abbrev bare_text : ℕ → Place → Printing
bare_text class p = object_text parent_and_child class p []

bare_is : (class : ℕ) (p : Place)
    → value_text parent_and_child (value.Object class p []) ≡ bare_text class p
bare_is class p = text_object parent_and_child class p []

-- the text of an object whose one field is a set of these
abbrev set_in : ℕ → Place → List Printing → Printing
set_in class p texts =
    object_text parent_and_child class p (between (codes "[") (listed texts) (codes "]") ∷ [])

set_in_is : (class : ℕ) (p : Place) (vs : List Value)
    → value_text parent_and_child (value.Object class p (value.Set vs ∷ []))
    ≡ set_in class p (map (value_text parent_and_child) vs)
set_in_is class p vs =
    text_object parent_and_child class p (value.Set vs ∷ [])
    ∙ ap (λ t. object_text parent_and_child class p (t ∷ [])) (text_set parent_and_child vs)

abbrev menu_ident : Place
menu_ident = place (root.Ask 1) (step.Arg 1 ∷ step.New 1 ∷ [])

abbrev index_ident : Place
index_ident = place (root.Cell 0 2) (step.New 1 ∷ [])

abbrev text_of : Value → Printing
text_of = value_text parent_and_child

menu_printing : text_of menu
    ≡ set_in 9 menu_ident (bare_text 6 (ident asked_routes 1) ∷ bare_text 7 (ident asked_routes 2)
    ∷ bare_text 8 (ident asked_routes 3) ∷ [])
menu_printing =
    set_in_is 9 menu_ident (home_at asked_routes ∷ cart_at asked_routes ∷ help_at asked_routes ∷ [])
    ∙ ap (λ t. set_in 9 menu_ident (t ∷ text_of (cart_at asked_routes)
    ∷ text_of (help_at asked_routes) ∷ [])) (bare_is 6 (ident asked_routes 1))
    ∙ ap (λ t. set_in 9 menu_ident (bare_text 6 (ident asked_routes 1) ∷ t
    ∷ text_of (help_at asked_routes) ∷ [])) (bare_is 7 (ident asked_routes 2))
    ∙ ap (λ t. set_in 9 menu_ident (bare_text 6 (ident asked_routes 1)
    ∷ bare_text 7 (ident asked_routes 2) ∷ t ∷ [])) (bare_is 8 (ident asked_routes 3))

index_printing : text_of index
    ≡ set_in 10 index_ident (bare_text 6 (ident kept_routes 1) ∷ bare_text 7 (ident kept_routes 2)
    ∷ [])
index_printing =
    set_in_is 10 index_ident (home_at kept_routes ∷ cart_at kept_routes ∷ [])
    ∙ ap (λ t. set_in 10 index_ident (t ∷ text_of (cart_at kept_routes) ∷ []))
    (bare_is 6 (ident kept_routes 1))
    ∙ ap (λ t. set_in 10 index_ident (bare_text 6 (ident kept_routes 1) ∷ t ∷ []))
    (bare_is 7 (ident kept_routes 2))

menu_text : text_of menu []
    ≡ printed (codes "Menu#1{routes=[Home#2{},Cart#3{},Help#4{}]}") first_seen
unfolding evaluates parent_and_child
menu_text = ap (λ t. t []) menu_printing

index_text : text_of index first_seen
    ≡ printed (codes "Index#5{routes=[Home#6{},Cart#7{}]}") all_seen
unfolding evaluates parent_and_child
index_text = ap (λ t. t first_seen) index_printing

pub printed_report : report parent_and_child
    ≡ codes "1 Menu#1{routes=[Home#2{},Cart#3{},Help#4{}]}\n"
    ++ (codes "2 Index#5{routes=[Home#6{},Cart#7{}]}\n" ++ codes "cells 1\n")
unfolding evaluates
printed_report =
    report_of parent_and_child _ _ _ given used_cells
    (before_lines parent_and_child 0 (reply.Value menu) (with_value (value.Held 0 2) ∷ []) [] _
    first_seen _ (value_line parent_and_child 1 menu menu [] (codes
    "Menu#1{routes=[Home#2{},Cart#3{},Help#4{}]}") first_seen (whole_menu parent_and_child 128)
    menu_text)
    (before_lines parent_and_child 1 (reply.Value (value.Held 0 2)) [] first_seen _ all_seen []
    (value_line parent_and_child 2 (value.Held 0 2) index first_seen
    (codes "Index#5{routes=[Home#6{},Cart#7{}]}") all_seen index_is index_text) refl))
