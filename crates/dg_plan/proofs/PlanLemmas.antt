-- The slots of entries by the rows of classes, and the line of a slot.
use Rattle.std.proofs.Common.{◌≡◌, ℕ, suc, ◌<◌, List, [], ◌∷◌, ◌++◌, length, map, flat_map, slice_get, Option, Some, append_assoc, ap, ◌∙◌, codes, decimal, filter_map}
use Rattle.std.specs.List.{range_with_len, enumerate_from}
use Rattle.std.specs.Option.{option_map_or}
use Rattle.dg_lex.specs.Bytes.{Bytes, line_end}
use Rattle.dg_decl.specs.declared.component.Class.{Class}
use Rattle.dg_decl.specs.declared.document.Doc.{Doc}
use Rattle.dg_decl.specs.declared.graph.Node.{Node}
use Rattle.dg_decl.specs.Components.{class_count, class_of_number, component_classes}
use Rattle.dg_decl.specs.Graph.{Dependency, deps, nodes, site_of_node}
use Rattle.dg_resolve.proofs.ListLemmas.{at_range}
use Rattle.dg_resolve.proofs.QueryLemmas.{count_is}
use Rattle.dg_slots.specs.Plans.{cell_of, input_of, entries_of_class, entry_slots}
use Rattle.dg_plan.specs.Counted.{texts_from, text_of_need, head_text}
use Rattle.dg_plan.specs.Entries.{slot_of_entry, entries_in}
use Rattle.dg_plan.specs.PlanLines.{input_text, input_texts, cell_text, plan_line, plan_lines}
use Rattle.dg_plan.proofs.ListLemmas.{range_same, joined}

-- ---- entries

class_at : (doc : Doc) (classes : List Class) (c : ℕ) → classes ≡ component_classes doc
    → c < class_count doc → slice_get classes c ≡ Some (class_of_number doc c)
unfolding component_classes
class_at doc classes c e lt =
    ap (λ (cs : List Class). slice_get cs c) e
    ∙ at_range (class_of_number doc) (class_count doc) c lt

pub entries_are : (doc : Doc) (classes : List Class) (ns : List Node)
    → classes ≡ component_classes doc → ns ≡ nodes doc
    → map (entries_in ns classes) (range_with_len 0 (length classes)) ≡ entry_slots doc
unfolding entry_slots
entries_are doc classes ns e here =
    ap (λ (n : ℕ). map (entries_in ns classes) (range_with_len 0 n)) (count_is doc classes e)
    ∙ range_same (entries_in ns classes) (entries_of_class doc) (class_count doc)
    (λ c lt.
    ap (λ (o : Option Class). filter_map (slot_of_entry ns c) (option_map_or (λ k. k.entries) o []))
    (class_at doc classes c e lt)
    ∙ ap (λ (ms : List Node). filter_map (slot_of_entry ms c) ((class_of_number doc c).entries))
    here)

-- ---- lines

needs_are : (doc : Doc) (n : Node)
    → texts_from (text_of_need doc n) 0 (deps doc n) ≡ flat_map (λ t. t) (input_texts doc n)
unfolding texts_from
needs_are doc n =
    joined (λ (p : ℕ × Dependency). input_of doc n p.1)
    (λ (p : ℕ × Dependency). input_text n.kind (suc p.0) p.1) (enumerate_from 0 (deps doc n))

regroup : (o d s t c x l : Bytes)
    → ((o ++ (d ++ (s ++ (t ++ c)))) ++ x) ++ l ≡ o ++ (d ++ (s ++ (t ++ (c ++ (x ++ l)))))
regroup o d s t c x l =
    append_assoc (o ++ (d ++ (s ++ (t ++ c)))) x l
    ∙ append_assoc o (d ++ (s ++ (t ++ c))) (x ++ l)
    ∙ ap (λ (z : Bytes). o ++ z) (append_assoc d (s ++ (t ++ c)) (x ++ l))
    ∙ ap (λ (z : Bytes). o ++ (d ++ z)) (append_assoc s (t ++ c) (x ++ l))
    ∙ ap (λ (z : Bytes). o ++ (d ++ (s ++ z))) (append_assoc t c (x ++ l))

pub line_is : (doc : Doc) (n : Node) (k : ℕ) (ds : List Dependency) (old head more new : Bytes)
    → ds ≡ deps doc n → head ≡ old ++ head_text doc k n (cell_of doc n)
    → more ≡ head ++ texts_from (text_of_need doc n) 0 ds → new ≡ more ++ line_end ∷ []
    → new ≡ old ++ plan_line doc k n
unfolding plan_line
line_is doc n k ds old head more new is first inputs e =
    e ∙ ap (λ (t : Bytes). t ++ line_end ∷ []) inputs
    ∙ ap (λ (xs : List Dependency). (head ++ texts_from (text_of_need doc n) 0 xs)
    ++ line_end ∷ []) is
    ∙ ap (λ (t : Bytes). (head ++ t) ++ line_end ∷ []) (needs_are doc n)
    ∙ ap (λ (t : Bytes). (t ++ flat_map (λ x. x) (input_texts doc n)) ++ line_end ∷ []) first
    ∙ regroup old (decimal k) (codes " ") (site_of_node doc n) (cell_text (cell_of doc n))
    (flat_map (λ x. x) (input_texts doc n)) (line_end ∷ [])

pub lines_are : (doc : Doc) (ns : List Node) → ns ≡ nodes doc
    → texts_from (plan_line doc) 0 ns ≡ plan_lines doc
unfolding texts_from plan_lines
lines_are doc ns e =
    ap (λ (ms : List Node). flat_map (λ p. plan_line doc p.0 p.1) (enumerate_from 0 ms)) e
