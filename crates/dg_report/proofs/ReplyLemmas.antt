-- The line of a reply, from its parts.
use Rattle.std.proofs.Common.{◌≡◌, ℕ, zero, suc, ◌+◌, ◌-◌, List, [], ◌∷◌, ◌++◌, length, map, take, Option, Some, None, option_map, slice_get, codes, decimal, refl, sym, ap, ◌∙◌, ◌≤◌, length-append, arith}
use Rattle.std.specs.Prelude.{IsSome}
use Rattle.std.specs.Option.{option_map_or}
use Rattle.dg_lex.specs.Bytes.{Bytes, line_end}
use Rattle.dg_lex.specs.Lexemes.{quoted}
use Rattle.dg_decl.specs.declared.document.Doc.{Doc}
use Rattle.dg_decl.specs.declared.graph.Node.{Node}
use Rattle.dg_decl.specs.Graph.{node_text, nodes}
use Rattle.dg_slots.specs.declared.plan.Plan.{Plan}
use Rattle.dg_slots.specs.declared.plan.Slot.{Slot}
use Rattle.dg_slots.specs.Plans.{plan_of, slots_of, slot_of}
use Rattle.dg_value.specs.declared.value.Failure.{Failure}
use Rattle.dg_value.specs.declared.value.Reply.{Reply}
use Rattle.dg_value.specs.declared.value.Reply.TheVariants as reply
use Rattle.dg_value.specs.declared.value.Value.{Value}
use Rattle.dg_eval.specs.Meaning.{node_at, enough}
use Rattle.dg_eval.specs.Report.{Printing, Printed, cut, cut_text, print_limit, value_text, whole, failure_text, reply_text, reply_line}
use Rattle.dg_report.specs.Held.{Content, HoldsReply}
use Rattle.dg_report.specs.Output.{Output, followed, taken, with_text, limited, with_cut}
use Rattle.dg_report.specs.Shown.{shown, with_value}
use Rattle.dg_report.proofs.HeldLemmas.{shown_whole}
use Rattle.dg_report.proofs.OutputLemmas.{followed_between, followed_text, two_texts, three_texts}
use Rattle.dg_report.proofs.PlaceLemmas.{cut_behind}
use Rattle.dg_report.proofs.TakenLemmas.{cut_taken}

-- ---- values

cut_followed : (o : Output) (p : Printing) → o.limit ≡ None
    → with_cut (length o.text) (followed (limited o) p) ≡ followed o (cut_text p)
unfolding with_cut taken
cut_followed o p whole =
    let x : Printed = p o.seen in
    let most : ℕ = suc print_limit in
    let room : length o.text + most - length o.text ≡ most = omega arith in
    let text = cut_behind o.text (take (length o.text + most - length o.text) x.text)
    ∙ ap (λ (k : ℕ). o.text ++ cut (take k x.text)) room
    ∙ ap (λ (t : Bytes). o.text ++ t) (cut_taken print_limit x.text) in
    (λ i. record { text = text i; seen = x.seen; before = o.before; limit = None })
    ∙ ap (λ (limit : Option ℕ). record {
      text = taken limit o.text (cut x.text);
      seen = x.seen;
      before = o.before;
      limit = limit;
    }) (sym whole)

pub value_line : (doc : Doc) (content : Content) (v : Value) (old begun made new : Output)
    → HoldsReply doc content (reply.Value v) → old.limit ≡ None → begun ≡ limited old
    → made ≡ with_value doc content enough begun v → new ≡ with_cut (length old.text) made
    → new ≡ followed old (reply_text doc (reply.Value v))
unfolding with_value
value_line doc content v old begun made new holds all begins e cuts =
    by (whole doc (suc enough) v) refl holds.0
  where
    by : (o : Option Value) → whole doc (suc enough) v ≡ o → IsSome o
        → new ≡ followed old (reply_text doc (reply.Value v))
    by None is there = cc
    by (Some w) is there =
        rw is (cuts
        ∙ ap (with_cut (length old.text)) (e
        ∙ ap (λ (o : Output). followed o (shown doc content enough v)) begins
        ∙ ap (followed (limited old)) (shown_whole doc content enough v w is holds.1))
        ∙ cut_followed old (value_text doc w) all)

pub value_longer : (doc : Doc) (content : Content) (times start : ℕ) (v : Value)
    (old begun made : Output) → start ≡ length old.text → begun ≡ limited old
    → made ≡ with_value doc content times begun v → start ≤ length made.text
unfolding with_value taken
value_longer doc content times start v old begun made is begins e =
    let room : ℕ = length old.text + suc print_limit - length old.text in
    let t : Bytes = take room (shown doc content times v old.seen).text in
    let more = length-append old.text t in
    let all : length made.text ≡ length (old.text ++ t) =
    ap (λ (o : Output). length o.text)
    (e ∙ ap (λ (o : Output). followed o (shown doc content times v)) begins) in
    omega (arith, is, more, all)

-- ---- failures

got_map : {A B : Type 0} (f : A → B) (xs : List A) (k : ℕ)
    → slice_get (map f xs) k ≡ option_map f (slice_get xs k)
got_map f [] k = refl
got_map f (x ∷ xs) zero = refl
got_map f (x ∷ xs) (suc k) = got_map f xs k

slot_name : Slot → Bytes
slot_name s = s.name

named : (doc : Doc) (o : Option Node)
    → option_map_or (λ (s : Slot). s.name) (option_map (slot_of doc) o) []
    ≡ option_map_or (node_text doc) o []
named doc None = refl
named doc (Some n) = refl

origin_named : (doc : Doc) (p : Plan) (k : ℕ) → p ≡ plan_of doc
    → option_map_or (λ (s : Slot). s.name) (slice_get p.slots k) []
    ≡ option_map_or (node_text doc) (node_at doc k) []
unfolding plan_of slots_of
origin_named doc p k e =
    ap (λ (q : Plan). option_map_or (λ (s : Slot). s.name) (slice_get q.slots k) []) e
    ∙ ap (λ (o : Option Slot). option_map_or (λ (s : Slot). s.name) o []) (got_map (slot_of doc) (nodes doc) k)
    ∙ named doc (node_at doc k)

pub failure_line : (doc : Doc) (p : Plan) (f : Failure) (old a b c new : Output) → p ≡ plan_of doc
    → a ≡ with_text old (codes "failed ")
    → b ≡ with_text a (option_map_or (λ (s : Slot). s.name) (slice_get p.slots f.origin) [])
    → c ≡ with_text b (codes " ") → new ≡ with_text c (quoted f.message)
    → new ≡ with_text old (failure_text doc f)
failure_line doc p f old a b c new plan ea eb ec en =
    let name : Bytes = option_map_or (λ (s : Slot). s.name) (slice_get p.slots f.origin) [] in
    en ∙ ap (λ (o : Output). with_text o (quoted f.message)) (ec
    ∙ ap (λ (o : Output). with_text o (codes " ")) (eb
    ∙ ap (λ (o : Output). with_text o name) ea))
    ∙ three_texts (with_text old (codes "failed ")) name (codes " ") (quoted f.message)
    ∙ two_texts old (codes "failed ") (name ++ (codes " " ++ quoted f.message))
    ∙ ap (λ (n : Bytes). with_text old (codes "failed " ++ (n ++ (codes " " ++ quoted f.message))))
    (origin_named doc p f.origin plan)

-- ---- replies

pub reply-Failed : (doc : Doc) (f : Failure) (o : Output)
    → followed o (reply_text doc (reply.Failed f)) ≡ with_text o (failure_text doc f)
reply-Failed doc f o = followed_text o (failure_text doc f)

pub reply-Absent : (doc : Doc) (o : Output)
    → followed o (reply_text doc reply.Absent) ≡ with_text o (codes "absent")
reply-Absent doc o = followed_text o (codes "absent")

pub ruleset reply_forms = (reply-Failed, reply-Absent)

pub line_made : (doc : Doc) (number : ℕ) (r : Reply) (old a b c new : Output)
    → a ≡ with_text old (decimal number) → b ≡ with_text a (codes " ")
    → c ≡ followed b (reply_text doc r) → new ≡ with_text c (line_end ∷ [])
    → new ≡ followed old (reply_line doc number r)
unfolding reply_line
line_made doc number r old a b c new ea eb ec en =
    en ∙ ap (λ (o : Output). with_text o (line_end ∷ [])) (ec
    ∙ ap (λ (o : Output). followed o (reply_text doc r)) (eb
    ∙ ap (λ (o : Output). with_text o (codes " ")) ea
    ∙ two_texts old (decimal number) (codes " ")))
    ∙ sym (followed_between old (decimal number ++ codes " ") (reply_text doc r) (line_end ∷ []))
