-- What the jobs of used cells use directly is used by the asks of the document.
use Rattle.std.proofs.Common.{◌≡◌, ◌≢◌, inl, inr, ℕ, zero, suc, ◌<◌, ◌≤◌, Bool, true, false, cond, List, [], ◌∷◌, length, map, filter_map, flat_map, slice_get, Contains, Option, Some, None, option_to_list, refl, sym, subst, ◌∙◌, arith}
use Rattle.std.specs.List.{enumerate_from}
use Rattle.std.specs.Option.{option_map_or}
use Rattle.std.proofs.lemmas.Option.{none-some, same_Some, slice_get_within}
use Rattle.dg_decl.specs.declared.document.Doc.{Doc}
use Rattle.dg_decl.specs.declared.graph.Node.{Node}
use Rattle.dg_decl.specs.declared.graph.NodeKind.TheVariants as node
use Rattle.dg_decl.specs.Components.{entries_of}
use Rattle.dg_decl.specs.Diagnostics.{IsAccepted}
use Rattle.dg_decl.specs.Graph.{Dependency, deps, node_of}
use Rattle.dg_decl.proofs.MemberLemmas.{none_in, in_front, first_or_rest, the_one, in_map, in_filter_map, out_filter_map, in_flat_map, out_flat_map, out_option_map, out_and_then}
use Rattle.dg_decl.proofs.NodeWalks.{in_rest}
use Rattle.dg_slots.specs.declared.session.Ask.{Ask}
use Rattle.dg_slots.specs.Sessions.{asks_of}
use Rattle.dg_value.specs.declared.place.PlaceRoot.TheVariants as root
use Rattle.dg_value.specs.declared.value.Value.{Value}
use Rattle.dg_value.specs.Places.{at_root}
use Rattle.dg_eval.specs.Runs as runs
use Rattle.dg_eval.specs.Runs.{Asked, cell, Run, mistyped}
use Rattle.dg_eval.specs.World.{class_of_inst}
use Rattle.dg_eval.specs.Meaning.{node_in, cell_place, given, given_one, eval, enough, content_of}
use Rattle.dg_eval.specs.Asks.{CellName, first_run, followed, entry_node, requested, run_of_ask, numbered_asks, asked_by, used, used_by_ask, as_cell, cells_of, cells, enough_used}
use Rattle.dg_eval.specs.Laws.{IsPlaceOf}
use Rattle.dg_eval.proofs.AcceptedDepth.{StagesFindNothing, stages_of_accepted}
use Rattle.dg_eval.proofs.BodyResults.{Any, each_in}
use Rattle.dg_eval.proofs.CallLemmas.{calls_are_edges}
use Rattle.dg_eval.proofs.LawLemmas.{no_none}
use Rattle.dg_eval.proofs.RunResults.{Each}
use Rattle.dg_eval.proofs.TotalLemmas.{CallsAreEdges, Within}
use Rattle.dg_promises.proofs.UseLemmas.{ask_runs, uses_end}
use Rattle.dg_jobs.specs.Faithful.{UsedAfter}
use Rattle.dg_exec.specs.Jobs.{job_of_cell}
use Rattle.dg_exec.specs.Meanings.{Job, ask_job, cell_job, asked_by_job, is_producer_asked, used_without, scoped_used, cell_of_job, used_by_job, meanings_of}
use Rattle.dg_exec.proofs.FitLemmas.{in_each_once, in_numbered, some_at, IsProducerCell, job_place, place_job, job_is_cell, job_is_ask, cell_is, job_producer, out_needed}
use Rattle.dg_exec.proofs.FitEnds.{same_cell_job, in_its_class, content_is, producer_content, EndsIn, out_end, end_asked}
use Rattle.dg_exec.proofs.FitNeeds.{AskNeeds, CellNeeds, out_needs, cell_job_within, is_cell_asked, out_uses, one_cell_of}
use Rattle.dg_exec.proofs.FitAsked.{Asks, first_asks, EachGiven, IsClosed, CellIn, reached_given, reached_asked}

-- ---- what is used by asks

-- a cell or Lazy that an ask uses, through ever so many others
pub record IsUsedByAsk (doc : Doc) (y : Asked) : Type 0 where
  pub ask : ℕ × Ask
  pub among : Contains (numbered_asks doc) ask
  pub first : Asked
  pub asked : Contains (runs.asks_of (run_of_ask doc ask.0 ask.1)) first
  pub depth : ℕ
  pub uses : Contains (used doc depth first) y

used_first : (doc : Doc) (depth : ℕ) (x : Asked) → Contains (used doc (suc depth) x) x
unfolding used
used_first doc depth x = in_front x (flat_map (used doc depth) (asked_by doc x))

used_behind : (doc : Doc) (depth : ℕ) (x z y : Asked) → Contains (asked_by doc x) z
    → Contains (used doc depth z) y → Contains (used doc (suc depth) x) y
unfolding used
used_behind doc depth x z y c d =
    in_rest y x (flat_map (used doc depth) (asked_by doc x))
    (in_flat_map (used doc depth) (asked_by doc x) z y c d)

used_further : (doc : Doc) (depth : ℕ) (x y z : Asked) → Contains (used doc depth x) y
    → Contains (asked_by doc y) z → Contains (used doc (suc depth) x) z
unfolding used
used_further doc zero x y z c d = absurd (none_in y c)
used_further doc (suc depth) x y z c d =
    elim (first_or_rest y x (flat_map (used doc depth) (asked_by doc x)) c) [
      | inl e ↦ (let P : Asked → Type 0 = λ w. Contains (asked_by doc w) z in
          used_behind doc (suc depth) x z z (subst P (sym e) d) (used_first doc depth z))
      | inr r ↦ (let o = out_flat_map (used doc depth) (asked_by doc x) y r in
          used_behind doc (suc depth) x o.0 z o.1 (used_further doc depth o.0 y z o.2 d))
    ]

each_by : {A : Type 0} (P : A → Type 0) (xs : List A) → ((x : A) → Contains xs x → P x) → Each P xs
each_by P [] h = tt
each_by P (x ∷ xs) h = (h x (in_front x xs), each_by P xs (λ y c. h y (in_rest y x xs c)))

pub used_closed : (doc : Doc) → IsClosed doc (IsUsedByAsk doc)
used_closed doc x u =
    each_by (IsUsedByAsk doc) (asked_by doc x) (λ z c. record {
      ask = u.ask;
      among = u.among;
      first = u.first;
      asked = u.asked;
      depth = suc u.depth;
      uses = used_further doc u.depth u.first x z u.uses c;
    })

-- what an ask asks for is used
pub ask_uses : (doc : Doc) (p : ℕ × Ask) → Contains (numbered_asks doc) p
    → Each (IsUsedByAsk doc) (runs.asks_of (run_of_ask doc p.0 p.1))
ask_uses doc p among =
    each_by (IsUsedByAsk doc) (runs.asks_of (run_of_ask doc p.0 p.1)) (λ x c. record {
      ask = p;
      among = among;
      first = x;
      asked = c;
      depth = 1;
      uses = used_first doc 0 x;
    })

-- in an accepted document a cell that is used is one of its cells
pub used_in_cells : (doc : Doc) → IsAccepted doc → (c : CellName) → CellIn (IsUsedByAsk doc) c
    → Contains (cells doc) c
unfolding cells cells_of
used_in_cells doc accepted c u =
    in_each_once (filter_map as_cell (flat_map (used_by_ask doc) (numbered_asks doc))) c
    (in_filter_map as_cell (flat_map (used_by_ask doc) (numbered_asks doc)) (cell c.inst c.slot) c
    (in_flat_map (used_by_ask doc) (numbered_asks doc) u.ask (cell c.inst c.slot) u.among
    (uses_end doc accepted u.ask u.among u.first (cell c.inst c.slot) u.asked u.depth u.uses)) refl)

-- ---- what a job comes to without passing a producer's cell

without_used : (W : Asked → Type 0) (doc : Doc) → IsClosed doc W → (depth : ℕ) (x y : Asked)
    → W x → Contains (used_without doc depth x) y → W y
unfolding used_without
without_used W doc closed zero x y w h = absurd (none_in y h)
without_used W doc closed (suc depth) x y w h = by_test (is_producer_asked doc x) h
    (λ z a c. without_used W doc closed depth z y a c)
  where
    by_test : (b : Bool)
        → Contains (cond b [] (x ∷ flat_map (used_without doc depth) (asked_by doc x))) y
        → ((z : Asked) → W z → Contains (used_without doc depth z) y → W y) → W y
    by_test true h later = absurd (none_in y h)
    by_test false h later =
        elim (first_or_rest y x (flat_map (used_without doc depth) (asked_by doc x)) h) [
          | inl same ↦ subst W same w
          | inr r ↦ (let o = out_flat_map (used_without doc depth) (asked_by doc x) y r in
              later o.0 (each_in W (asked_by doc x) o.0 (closed x w) o.1) o.2)
        ]

scoped_in : (W : Asked → Type 0) (doc : Doc) → IsClosed doc W → (j : Job) (c : CellName)
    → Each W (asked_by_job doc j) → Contains (scoped_used doc j) c → CellIn W c
scoped_in W doc closed j c every h =
    let o = out_filter_map as_cell (flat_map (used_without doc enough_used) (asked_by_job doc j)) c
    h in
    let f = out_flat_map (used_without doc enough_used) (asked_by_job doc j) o.0 o.1 in
    subst W (is_cell_asked o.0 c o.2)
    (without_used W doc closed enough_used f.0 o.0 (each_in W (asked_by_job doc j) f.0 every f.1)
    f.2)

-- ---- the entry of an ask

one_given : (W : Asked → Type 0) (g : ℕ × Dependency → Run Value) (ds : List Dependency)
    → length ds ≤ 1 → Asks W (first_run (map g (enumerate_from 0 ds))) → (p : ℕ × Dependency)
    → Contains (enumerate_from 0 ds) p → Asks W (g p)
one_given W g [] le h p c = absurd (none_in p c)
one_given W g (d ∷ []) le h p c =
    let P : ℕ × Dependency → Type 0 = λ q. Asks W (g q) in subst P (the_one p (0, d) c) h
one_given W g (d ∷ e ∷ ds) le h p c = absurd (omega (arith, le))

at_most_one : {A : Type 0} (o : Option A) → length (option_to_list o) ≤ 1
at_most_one None = omega arith
at_most_one (Some x) = omega arith

entry_needs : (doc : Doc) (class e : ℕ) → length (deps doc (node_of class (node.EntryOf e))) ≤ 1
unfolding deps
entry_needs doc class e = at_most_one _

entry_is : (doc : Doc) (a : Ask) (n : Node) → entry_node doc a ≡ Some n → length (deps doc n) ≤ 1
entry_is doc a n e =
    let class = out_and_then _ (class_of_inst doc a.inst) n e in
    let entry = out_option_map (λ (k : ℕ). node_of class.0 (node.EntryOf k))
    (slice_get (entries_of doc class.0) a.entry) n class.2 in
    let P : Node → Type 0 = λ n. length (deps doc n) ≤ 1 in
    subst P entry.2 (entry_needs doc class.0 entry.0)

-- what an ask's entry depends on is evaluated by the ask
entry_given : (W : Asked → Type 0) (doc : Doc) (number : ℕ) (a : Ask) (n : Node)
    → entry_node doc a ≡ Some n → Asks W (run_of_ask doc number a)
    → EachGiven W doc (eval doc 128) a.inst n (at_root (root.Ask number))
unfolding run_of_ask
entry_given W doc number a n e h m d c =
    let asks = first_asks W (requested doc a (at_root (root.Ask number)))
    (followed doc (at_root (root.Ask number)) 1 a.steps) h in
    let P : Option Node → Type 0 = λ o. Asks W (option_map_or (λ n. first_run (given doc (eval doc
    enough) a.inst n (at_root (root.Ask number)))) o mistyped) in
    one_given W (λ (d : ℕ × Dependency). given_one doc (eval doc 128) a.inst n
    (at_root (root.Ask number)) (suc d.0) d.1) (deps doc n) (entry_is doc a n e) (subst P e asks)
    (m, d) c

-- ---- the jobs of asks

ask_among : (doc : Doc) (job : ℕ) (a : Ask) → slice_get (asks_of doc) job ≡ Some a
    → Contains (numbered_asks doc) (suc job, a)
ask_among doc job a e =
    in_map (λ (p : ℕ × Ask). (suc p.0, p.1)) (enumerate_from 0 (asks_of doc)) (job, a)
    (in_numbered (asks_of doc) job a e)

-- the run of an ask has a result
ask_asks : (doc : Doc) → StagesFindNothing doc → CallsAreEdges doc → (job : ℕ) (a : Ask)
    → slice_get (asks_of doc) job ≡ Some a → Asks (IsUsedByAsk doc) (run_of_ask doc (suc job) a)
ask_asks doc none ok job a e = record {
  some = no_none (Within doc (IsPlaceOf doc) 128) Any (run_of_ask doc (suc job) a)
      (ask_runs doc none ok (suc job) a (ask_among doc job a e));
  each = ask_uses doc (suc job, a) (ask_among doc job a e);
}

-- an ask is no job of a cell
not_both : (doc : Doc) (job : ℕ) (a : Ask) (c : CellName) → slice_get (asks_of doc) job ≡ Some a
    → job_of_cell doc c ≡ Some job → ⊥
not_both doc job a c e f =
    let past : length (asks_of doc) ≤ job = (cell_job_within doc c job f).0 in
    let below : job < length (asks_of doc) = slice_get_within (asks_of doc) job a e in
    omega (arith, past, below)

ask_input_used : (doc : Doc) → StagesFindNothing doc → CallsAreEdges doc → (job other : ℕ)
    → (c : CellName) → AskNeeds doc job other → cell_of_job doc other ≡ Some c
    → CellIn (IsUsedByAsk doc) c
ask_input_used doc none ok job other c h e =
    let o = out_needed doc h.ask.inst h.node other h.needs in
    let same : o.0 ≡ c = same_Some o.0 c (sym (cell_is doc o.0 other o.2) ∙ e) in
    subst (CellIn (IsUsedByAsk doc)) same
    (reached_given (IsUsedByAsk doc) doc (used_closed doc) enough 128 h.ask.inst (omega arith)
    h.node (at_root (root.Ask (suc job))) o.0
    (entry_given (IsUsedByAsk doc) doc (suc job) h.ask h.node h.is_node
    (ask_asks doc none ok job h.ask h.is_ask)) o.1)

-- what an ask uses directly is used
ask_used : (doc : Doc) → StagesFindNothing doc → CallsAreEdges doc → (job : ℕ) (a : Ask)
    → (c : CellName) → slice_get (asks_of doc) job ≡ Some a → Contains (used_by_job doc job) c
    → CellIn (IsUsedByAsk doc) c
ask_used doc none ok job a c e h =
    elim (out_uses doc job (ask_job (suc job) a) c (job_is_ask doc job a e) h) [
      | inl s ↦ scoped_in (IsUsedByAsk doc) doc (used_closed doc) (ask_job (suc job) a) c
          (ask_uses doc (suc job, a) (ask_among doc job a e)) s
      | inr r ↦ elim r [
        | inl o ↦ elim (out_needs doc job o.0 o.1) [
          | inl n ↦ ask_input_used doc none ok job o.0 c n o.2
          | inr n ↦ absurd (not_both doc job a n.cell e (place_job doc n.cell job n.is_cell))
        ]
        | inr o ↦ absurd (none-some o.0 o.1)
      ]
    ]

-- ---- the jobs of cells

-- the content of a cell that is used
cell_asks : (W : Asked → Type 0) (doc : Doc) → IsClosed doc W → (c : CellName)
    → content_of doc c.inst c.slot ≢ None → CellIn W c
    → Asks W (eval doc 128 c.inst c.slot (cell_place c.inst c.slot))
unfolding asked_by
cell_asks W doc closed c some w =
    let P : Run Value → Type 0 = Asks W in
    subst P (content_is doc c.inst c.slot)
    (record { some = some; each = closed (cell c.inst c.slot) w })

cell_input_used : (W : Asked → Type 0) (doc : Doc) → IsClosed doc W → StagesFindNothing doc
    → CallsAreEdges doc → (job other : ℕ) (from c : CellName) → job_of_cell doc from ≡ Some job
    → CellIn W from → CellNeeds doc job other → cell_of_job doc other ≡ Some c → CellIn W c
cell_input_used W doc closed none ok job other from c is w h e =
    let p : job_of_cell doc h.cell ≡ Some job = place_job doc h.cell job h.is_cell in
    let producer : IsProducerCell doc h.cell = job_producer doc h.cell job p in
    let o = out_needed doc h.cell.inst h.node other h.needs in
    let same : o.0 ≡ c = same_Some o.0 c (sym (cell_is doc o.0 other o.2) ∙ e) in
    let there : node_in doc h.cell.inst h.cell.slot ≡ Some h.node =
    in_its_class doc h.cell.inst h.cell.slot producer.node producer.is_node producer.class
    ∙ (sym producer.is_node ∙ h.is_node) in
    subst (CellIn W) same
    (reached_asked W doc closed enough 128 h.cell.inst h.cell.slot (omega arith) h.node
    (cell_place h.cell.inst h.cell.slot) o.0 there
    (cell_asks W doc closed h.cell (producer_content doc none ok h.cell producer)
    (subst (CellIn W) (one_cell_of doc from h.cell job is p) w)) o.1)

-- what the job of a used cell uses directly is used
cell_used : (W : Asked → Type 0) (doc : Doc) → IsClosed doc W → StagesFindNothing doc
    → CallsAreEdges doc → (job : ℕ) (from c : CellName) → job_of_cell doc from ≡ Some job
    → CellIn W from → Contains (used_by_job doc job) c → CellIn W c
unfolding asked_by
cell_used W doc closed none ok job from c is w h =
    let at = job_is_cell doc from job (job_place doc from job is) in
    let every = closed (cell from.inst from.slot) w in
    elim (out_uses doc job (cell_job from) c at h) [
      | inl s ↦ scoped_in W doc closed (cell_job from) c every s
      | inr r ↦ elim r [
        | inl o ↦ elim (out_needs doc job o.0 o.1) [
          | inl n ↦ absurd (not_both doc job n.ask from n.is_ask is)
          | inr n ↦ cell_input_used W doc closed none ok job o.0 from c is w n o.2
        ]
        | inr o ↦ (let d = out_end doc (cell_job from) o.0 o.1 in
            let first : d.0 ≡ from = same_cell_job d.0 from (sym d.2) in
            let P : CellName → Type 0 = λ x. EndsIn doc x d.1 in
            let same : d.1 ≡ c = same_Some d.1 c (sym (cell_is doc d.1 o.0 d.4) ∙ o.2) in
            subst (CellIn W) same (each_in W (asked_by doc (cell from.inst from.slot))
            (cell d.1.inst d.1.slot) every
            (end_asked doc none ok from d.1 (job_producer doc from job is) (subst P first d.3))))
      ]
    ]

-- ---- the least set

used_after : (doc : Doc) → StagesFindNothing doc → CallsAreEdges doc → (steps : ℕ) (c : CellName)
    → UsedAfter (meanings_of doc) steps c → CellIn (IsUsedByAsk doc) c
used_after doc none ok zero c u =
    let a = some_at (asks_of doc) u.0 u.1 in ask_used doc none ok u.0 a.0 c a.1 u.2
used_after doc none ok (suc steps) c u =
    cell_used (IsUsedByAsk doc) doc (used_closed doc) none ok u.1 u.0 c u.3
    (used_after doc none ok steps u.0 u.2) u.4

-- what jobs use, beginning with the asks, are cells of the document
pub used_are_cells : (doc : Doc) → IsAccepted doc → (steps : ℕ) (c : CellName)
    → UsedAfter (meanings_of doc) steps c → Contains (cells doc) c
used_are_cells doc accepted steps c u =
    let none = stages_of_accepted doc accepted in
    used_in_cells doc accepted c (used_after doc none (calls_are_edges doc none) steps c u)
