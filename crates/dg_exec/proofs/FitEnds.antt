-- Where the tree of a producer ends: in the content of a cell, which it asks for and then has.
use Rattle.std.proofs.Common.{◌≡◌, ◌≢◌, ◌≤◌, ℕ, suc, true, false, List, [], ◌∷◌, Contains, Option, Some, None, Ok, Err, refl, sym, ap, subst, ◌∙◌, arith}
use Rattle.std.specs.Option.{option_map_or}
use Rattle.std.proofs.lemmas.Bool.{false≢true}
use Rattle.std.proofs.lemmas.List.Elements.{Contains-append_right}
use Rattle.std.proofs.lemmas.Option.{none-some, same_Some}
use Rattle.dg_decl.specs.declared.document.Doc.{Doc}
use Rattle.dg_decl.specs.declared.binding.BindRef.TheVariants as binding
use Rattle.dg_decl.specs.declared.graph.Node.{Node}
use Rattle.dg_decl.specs.declared.graph.NodeKind.{NodeKind}
use Rattle.dg_decl.specs.declared.graph.NodeKind.TheVariants as node
use Rattle.dg_decl.specs.Graph.{node_of, nodes}
use Rattle.dg_decl.specs.Sizes.{is_entry, is_producer}
use Rattle.dg_decl.proofs.MemberLemmas.{in_front, in_got, out_and_then}
use Rattle.std.proofs.lemmas.Bool.{eq-eqb}
use Rattle.dg_value.specs.declared.place.Place.{Place}
use Rattle.dg_value.specs.declared.value.Value.{Value}
use Rattle.dg_eval.specs.Runs as runs
use Rattle.dg_eval.specs.Runs.{Asked, cell, Run, before, and_then, asking}
use Rattle.dg_eval.specs.World.{class_of_inst}
use Rattle.dg_eval.specs.Bodies.{End, value_end, producer_end}
use Rattle.dg_eval.specs.Meaning.{node_at, node_in, cell_place, content, of_end, member_end, eval_node, eval, content_of}
use Rattle.dg_eval.specs.Asks.{CellName, asked_by}
use Rattle.dg_eval.specs.Laws.{IsPlaceOf}
use Rattle.dg_eval.proofs.AcceptedDepth.{StagesFindNothing, accepted_shallow}
use Rattle.dg_eval.proofs.BodyResults.{each_in}
use Rattle.dg_eval.proofs.GrowthLemmas.{eval_grows_to}
use Rattle.dg_eval.proofs.LawLemmas.{no_none}
use Rattle.dg_eval.proofs.PlaceLemmas.{placing}
use Rattle.dg_eval.proofs.RunGrowth.{stays}
use Rattle.dg_eval.proofs.RunResults.{Allowed, Gives, Each}
use Rattle.dg_eval.proofs.StandLemmas.{all_stand}
use Rattle.dg_eval.proofs.TargetLemmas.{ShallowSlot}
use Rattle.dg_eval.proofs.TotalLemmas.{CallsAreEdges, AskedWithin, Within, Good, Has}
use Rattle.dg_exec.specs.Jobs.{job_of_cell}
use Rattle.dg_exec.specs.Meanings.{Job, ask_job, cell_job, kept_by, cell_at_end, end_of_cell, end_of}
use Rattle.dg_exec.proofs.FitLemmas.{named, IsProducerCell}

-- ---- the content of a cell

abbrev member_node : ℕ → ℕ → Node
member_node class m = node_of class (node.Bound (binding.Member m))

-- a node in an instance of its class
pub in_its_class : (doc : Doc) (i k : ℕ) (n : Node) → node_at doc k ≡ Some n
    → class_of_inst doc i ≡ Some n.class → node_in doc i k ≡ Some n
in_its_class doc i k n is class =
    rw (is, class, eq-eqb n.class n.class refl) refl

pub eval_step : (doc : Doc) (d i k : ℕ) (q : Place) (n : Node) → node_in doc i k ≡ Some n
    → eval doc (suc d) i k q ≡ eval_node doc (eval doc d) d i k n q
unfolding eval
eval_step doc d i k q n e =
    ap (λ (o : Option Node). option_map_or (λ n. eval_node doc (eval doc d) d i k n q) o
    runs.mistyped) e

-- a content is evaluated at a depth of 128
pub content_is : (doc : Doc) (i k : ℕ) → content_of doc i k ≡ content (eval doc 128) i k
unfolding content_of
content_is doc i k = refl

-- what the content of a less deep cell has
pub content_has : (doc : Doc) → StagesFindNothing doc → CallsAreEdges doc → (k i s : ℕ)
    → suc k ≤ 128 → ShallowSlot doc (suc k) s → Has doc (IsPlaceOf doc) k (content_of doc i s)
content_has doc none ok k i s le sh =
    subst (Has doc (IsPlaceOf doc) k) (sym (content_is doc i s))
    (all_stand doc none ok k i s (cell_place i s) le sh ((placing doc none).cell i s))

pub asked_within : {A : Type 0} (R : Allowed) (P : A → Type 0) (x : Run A) → Gives R P x
    → Each R.ask (runs.asks_of x)
asked_within R P None g = absurd g
asked_within R P (Some (Ok r, asked)) g = g.1
asked_within R P (Some (Err f, asked)) g = g

producer_no_entry : (doc : Doc) (class : ℕ) (kind : NodeKind)
    → is_producer doc (node_of class kind) ≡ true → is_entry (node_of class kind) ≡ false
producer_no_entry doc class (node.EntryOf e) h = absurd (false≢true h)
producer_no_entry doc class other h = refl

-- no walk from a producer has more than 128 nodes
pub producer_shallow : (doc : Doc) → StagesFindNothing doc → (c : CellName) → IsProducerCell doc c
    → ShallowSlot doc 128 c.slot
producer_shallow doc none c h = (
  h.node,
  h.is_node,
  accepted_shallow doc none h.node (in_got (nodes doc) c.slot h.node h.is_node)
      (producer_no_entry doc h.node.class h.node.kind h.produces),
)

pub producer_content : (doc : Doc) → StagesFindNothing doc → CallsAreEdges doc → (c : CellName)
    → IsProducerCell doc c → content_of doc c.inst c.slot ≢ None
producer_content doc none ok c h =
    no_none (Within doc (IsPlaceOf doc) 127) (Good doc (IsPlaceOf doc) 127)
    (content_of doc c.inst c.slot)
    (content_has doc none ok 127 c.inst c.slot (omega arith) (producer_shallow doc none c h))

-- ---- where a tree ends

abbrev cell_in : Job → CellName → CellName
cell_in (ask_job number a) d = d
cell_in (cell_job c) d = c

pub same_cell_job : (c d : CellName) → cell_job c ≡ cell_job d → c ≡ d
same_cell_job c d e = ap (λ (j : Job). cell_in j c) e

-- the tree of the producer of a cell ends in the content of another one
pub record EndsIn (doc : Doc) (c e : CellName) : Type 0 where
  pub class : ℕ
  pub member : ℕ
  pub is_node : node_at doc c.slot ≡ Some (member_node class member)
  pub asked : List Asked
  pub ends : member_end doc (eval doc 127) 127 c.inst c.slot (member_node class member)
      (cell_place c.inst c.slot) member
      ≡ Some (Ok (producer_end e.inst e.slot), asked)

at_end : (r : Run End) (e : CellName) → cell_at_end r ≡ Some e
    → (asked : List Asked) × (r ≡ Some (Ok (producer_end e.inst e.slot), asked))
at_end None e h = absurd (none-some e h)
at_end (Some (Ok (value_end v), asked)) e h = absurd (none-some e h)
at_end (Some (Ok (producer_end i k), asked)) e h = (
  asked,
  ap (λ (c : CellName). Some (Ok (producer_end c.inst c.slot), asked))
      (same_Some (named i k) e h),
)
at_end (Some (Err f, asked)) e h = absurd (none-some e h)

ends_by : (doc : Doc) (c e : CellName) (class : ℕ) (kind : NodeKind)
    → node_at doc c.slot ≡ Some (node_of class kind) → end_of_cell doc c ≡ Some e → EndsIn doc c e
ends_by doc c e class (node.Bound (binding.Member m)) is h =
    let f : end_of_cell doc c ≡ cell_at_end (member_end doc (eval doc 127) 127 c.inst c.slot
    (member_node class m) (cell_place c.inst c.slot) m) = rw is refl in
    let g = at_end (member_end doc (eval doc 127) 127 c.inst c.slot (member_node class m)
    (cell_place c.inst c.slot) m) e (sym f ∙ h) in
    record { class = class; member = m; is_node = is; asked = g.0; ends = g.1 }
ends_by doc c e class other is h =
    let f : end_of_cell doc c ≡ None = rw is refl in absurd (none-some e (sym f ∙ h))

pub ends_in : (doc : Doc) (c e : CellName) → end_of_cell doc c ≡ Some e → EndsIn doc c e
ends_in doc c e h =
    let n = out_and_then _ (node_at doc c.slot) e h in
    ends_by doc c e n.0.class n.0.kind n.1 h

-- the job of a cell ends in that of the cell in whose content its tree ends
pub out_end : (doc : Doc) (j : Job) (other : ℕ) → end_of doc j ≡ Some other
    → (c e : CellName) × (j ≡ cell_job c) × EndsIn doc c e × (job_of_cell doc e ≡ Some other)
out_end doc (ask_job number a) other h = absurd (none-some other h)
out_end doc (cell_job c) other h =
    let e = out_and_then (job_of_cell doc) (end_of_cell doc c) other h in
    (c, e.0, refl, ends_in doc c e.0 e.1, e.2)

-- ---- the content of that cell

-- the content is that of the cell in which the tree ends, and this is asked for
ending : (doc : Doc) (c e : CellName) → IsProducerCell doc c → (h : EndsIn doc c e)
    → content_of doc c.inst c.slot
    ≡ before h.asked (asking (cell e.inst e.slot) (content (eval doc 127) e.inst e.slot))
ending doc c e p h =
    let same : p.node ≡ member_node h.class h.member =
    same_Some p.node (member_node h.class h.member) (sym p.is_node ∙ h.is_node) in
    let class : class_of_inst doc c.inst ≡ Some h.class =
    p.class ∙ ap (λ (n : Node). Some n.class) same in
    content_is doc c.inst c.slot
    ∙ (eval_step doc 127 c.inst c.slot (cell_place c.inst c.slot) (member_node h.class h.member)
    (in_its_class doc c.inst c.slot (member_node h.class h.member) h.is_node class)
    ∙ ap (λ (r : Run End). and_then r (of_end (eval doc 127))) h.ends)

after_kept : (asked : List Asked) (x : Asked) (r : Run Value) → r ≢ None
    → kept_by (before asked (asking x r)) ≡ kept_by r
after_kept asked x None some = absurd (some refl)
after_kept asked x (Some (r, more)) some = refl

after_asked : (asked : List Asked) (x : Asked) (r : Run Value) → r ≢ None
    → Contains (runs.asks_of (before asked (asking x r))) x
after_asked asked x None some = absurd (some refl)
after_asked asked x (Some (r, more)) some = Contains-append_right asked (x ∷ []) x (in_front x [])

there : (asked : List Asked) (x : Asked) (r : Run Value) → before asked (asking x r) ≢ None
    → r ≢ None
there asked x r some e = some (ap (λ (u : Run Value). before asked (asking x u)) e)

ending_there : (doc : Doc) → StagesFindNothing doc → CallsAreEdges doc → (c e : CellName)
    → IsProducerCell doc c → EndsIn doc c e → content (eval doc 127) e.inst e.slot ≢ None
ending_there doc none ok c e p h =
    there h.asked (cell e.inst e.slot) (content (eval doc 127) e.inst e.slot)
    (λ so. producer_content doc none ok c p (ending doc c e p h ∙ so))

-- where a tree ends in the content of a cell, what is kept is that content
pub same_content : (doc : Doc) → StagesFindNothing doc → CallsAreEdges doc → (c e : CellName)
    → IsProducerCell doc c → EndsIn doc c e
    → kept_by (content_of doc c.inst c.slot) ≡ kept_by (content_of doc e.inst e.slot)
same_content doc none ok c e p h =
    let some = ending_there doc none ok c e p h in
    let more : content (eval doc 128) e.inst e.slot ≡ content (eval doc 127) e.inst e.slot =
    stays (content (eval doc 127) e.inst e.slot) (content (eval doc 128) e.inst e.slot)
    (eval_grows_to doc 127 128 (omega arith) e.inst e.slot (cell_place e.inst e.slot)) some in
    ap kept_by (ending doc c e p h)
    ∙ (after_kept h.asked (cell e.inst e.slot) (content (eval doc 127) e.inst e.slot) some
    ∙ ap kept_by (sym more ∙ sym (content_is doc e.inst e.slot)))

-- the cell is asked for
pub end_asked : (doc : Doc) → StagesFindNothing doc → CallsAreEdges doc → (c e : CellName)
    → IsProducerCell doc c → EndsIn doc c e
    → Contains (asked_by doc (cell c.inst c.slot)) (cell e.inst e.slot)
unfolding asked_by
end_asked doc none ok c e p h =
    let P : Run Value → Type 0 = λ r. Contains (runs.asks_of r) (cell e.inst e.slot) in
    subst P (sym (ending doc c e p h))
    (after_asked h.asked (cell e.inst e.slot) (content (eval doc 127) e.inst e.slot)
    (ending_there doc none ok c e p h))

-- and is less deep
pub end_shallow : (doc : Doc) → StagesFindNothing doc → CallsAreEdges doc → (k : ℕ)
    → (c e : CellName) → IsProducerCell doc c → EndsIn doc c e → suc k ≤ 128
    → ShallowSlot doc (suc k) c.slot → ShallowSlot doc k e.slot
unfolding asked_by
end_shallow doc none ok k c e p h le sh =
    each_in (AskedWithin doc (IsPlaceOf doc) k) (runs.asks_of (content_of doc c.inst c.slot))
    (cell e.inst e.slot)
    (asked_within (Within doc (IsPlaceOf doc) k) (Good doc (IsPlaceOf doc) k)
    (content_of doc c.inst c.slot) (content_has doc none ok k c.inst c.slot le sh))
    (end_asked doc none ok c e p h)
