-- What a job needs and what it uses directly.
use Rattle.std.proofs.Common.{◌≡◌, ◌⊎◌, inl, inr, ℕ, zero, suc, ◌+◌, ◌<◌, ◌≤◌, Bool, true, false, cond, List, [], ◌∷◌, ◌++◌, length, filter_map, flat_map, slice_get, Contains, Option, Some, option_and_then, option_to_list, unwrap_or, refl, sym, ap, subst, ◌∙◌, arith}
use Rattle.std.specs.Option.{option_map_or}
use Rattle.std.proofs.lemmas.Bool.{false≢true, cases_lt}
use Rattle.std.proofs.lemmas.List.Elements.{Contains-append_left, Contains-append_right, Contains-append_cases}
use Rattle.std.proofs.lemmas.Option.{none-some, same_Some, slice_get_within, unwrap_or-slice_get}
use Rattle.dg_decl.specs.declared.document.Doc.{Doc}
use Rattle.dg_decl.specs.declared.graph.Node.{Node}
use Rattle.dg_decl.specs.Sizes.{is_producer}
use Rattle.dg_decl.proofs.MemberLemmas.{none_in, first_or_rest, in_filter_map, out_filter_map, out_flat_map, out_list_of, in_option, out_option, out_and_then}
use Rattle.dg_slots.specs.declared.session.Ask.{Ask}
use Rattle.dg_slots.specs.Sessions.{asks_of}
use Rattle.dg_value.specs.declared.value.Reply.TheVariants as reply
use Rattle.dg_eval.specs.Runs.{Asked, cell, lazy}
use Rattle.dg_eval.specs.Meaning.{node_at}
use Rattle.dg_eval.specs.Asks.{CellName, entry_node, asked_by, as_cell, enough_used}
use Rattle.dg_jobs.specs.Faithful.{GoesOn}
use Rattle.dg_jobs.specs.Jobs.{Needs}
use Rattle.dg_exec.specs.declared.result.JobResult.TheVariants as result
use Rattle.dg_exec.specs.Jobs.{is_producer_at, producer_cells, job_of_cell, needed, inputs_of_jobs}
use Rattle.dg_exec.specs.Meanings.{Job, ask_job, cell_job, job_at, end_of, asked_by_job, is_producer_asked, used_without, scoped_used, cell_of_job, used_by, used_by_job, result_of, made, meanings_of}
use Rattle.dg_exec.proofs.FitLemmas.{named, IsProducerCell, IsJobOf, job_place, job_is_cell, job_is_ask, job_cases, cell_is, job_is, job_producer, inputs_count, ask_inputs, cell_inputs, no_inputs, out_needed}
use Rattle.dg_exec.proofs.FitEnds.{out_end}

-- ---- the jobs that a job needs

-- an ask needs the job, or a cell does
pub record AskNeeds (doc : Doc) (job other : ℕ) : Type 0 where
  pub ask : Ask
  pub is_ask : slice_get (asks_of doc) job ≡ Some ask
  pub node : Node
  pub is_node : entry_node doc ask ≡ Some node
  pub needs : Contains (needed doc ask.inst node) other

pub record CellNeeds (doc : Doc) (job other : ℕ) : Type 0 where
  pub cell : CellName
  pub is_cell : IsJobOf doc cell job
  pub node : Node
  pub is_node : node_at doc cell.slot ≡ Some node
  pub needs : Contains (needed doc cell.inst node) other

pub within_inputs : (doc : Doc) (job : ℕ) → job < length (inputs_of_jobs doc)
    → job < length (asks_of doc) + length (producer_cells doc)
within_inputs doc job lt =
    let count = inputs_count doc in
    let P : ℕ → Type 0 = λ n. job < n in subst P count lt

pub inputs_within : (doc : Doc) (job : ℕ)
    → job < length (asks_of doc) + length (producer_cells doc) → job < length (inputs_of_jobs doc)
inputs_within doc job lt =
    let count = inputs_count doc in
    let P : ℕ → Type 0 = λ n. job < n in subst P (sym count) lt

ask_needs : (doc : Doc) (job other : ℕ) (a : Ask) → slice_get (asks_of doc) job ≡ Some a
    → Needs (inputs_of_jobs doc) job other → AskNeeds doc job other
ask_needs doc job other a e h =
    let P : List ℕ → Type 0 = λ xs. Contains xs other in
    let o = out_list_of (needed doc a.inst) (entry_node doc a) other
    (subst P (ask_inputs doc job a e) h) in
    record { ask = a; is_ask = e; node = o.0; is_node = o.1; needs = o.2 }

cell_needs : (doc : Doc) (job other : ℕ) (c : CellName) → IsJobOf doc c job
    → Needs (inputs_of_jobs doc) job other → CellNeeds doc job other
cell_needs doc job other c e h =
    let P : List ℕ → Type 0 = λ xs. Contains xs other in
    let o = out_list_of (needed doc c.inst) (node_at doc c.slot) other
    (subst P (cell_inputs doc job c e) h) in
    record { cell = c; is_cell = e; node = o.0; is_node = o.1; needs = o.2 }

pub out_needs : (doc : Doc) (job other : ℕ) → Needs (inputs_of_jobs doc) job other
    → AskNeeds doc job other ⊎ CellNeeds doc job other
out_needs doc job other h =
    elim (cases_lt job (length (inputs_of_jobs doc))) [
      | inl lt ↦ elim (job_cases doc job (within_inputs doc job lt)) [
        | inl a ↦ inl (ask_needs doc job other a.0 a.1 h)
        | inr c ↦ inr (cell_needs doc job other c.0 c.1 h)
      ]
      | inr past ↦ (let P : List ℕ → Type 0 = λ xs. Contains xs other in
          absurd (none_in other (subst P (no_inputs doc job past) h)))
    ]

-- what is needed is the job of a cell
pub needs_cell : (doc : Doc) (job other : ℕ) → Needs (inputs_of_jobs doc) job other
    → (c : CellName) × (job_of_cell doc c ≡ Some other)
needs_cell doc job other h =
    elim (out_needs doc job other h) [
      | inl a ↦ (let o = out_needed doc a.ask.inst a.node other a.needs in (o.0, o.2))
      | inr c ↦ (let o = out_needed doc c.cell.inst c.node other c.needs in (o.0, o.2))
    ]

-- ---- the jobs by number

pub cell_job_within : (doc : Doc) (c : CellName) (job : ℕ) → job_of_cell doc c ≡ Some job
    → (length (asks_of doc) ≤ job) × (job < length (inputs_of_jobs doc))
cell_job_within doc c job e =
    let h = job_place doc c job e in
    let lt : h.place < length (producer_cells doc) =
    slice_get_within (producer_cells doc) h.place c h.is_cell in
    (omega (arith, h.number), inputs_within doc job (omega (arith, lt, h.number)))

pub ask_within : (doc : Doc) (job : ℕ) → job < length (asks_of doc)
    → job < length (inputs_of_jobs doc)
ask_within doc job lt = inputs_within doc job (omega (arith, lt))

-- a number of a job has one
pub has_job : (doc : Doc) (job : ℕ) → job < length (inputs_of_jobs doc)
    → (j : Job) × (job_at doc job ≡ Some j)
has_job doc job lt =
    elim (job_cases doc job (within_inputs doc job lt)) [
      | inl a ↦ (ask_job (suc job) a.0, job_is_ask doc job a.0 a.1)
      | inr c ↦ (cell_job c.0, job_is_cell doc c.0 job c.1)
    ]

-- ---- what a job uses directly

pub uses_are : (doc : Doc) (job : ℕ) (j : Job) → job_at doc job ≡ Some j
    → used_by_job doc job ≡ used_by doc job j
uses_are doc job j e = ap (λ (o : Option Job). option_map_or (used_by doc job) o []) e

-- the three parts of what a job uses
abbrev pub inputs_used : Doc → ℕ → List CellName
inputs_used doc job =
    filter_map (cell_of_job doc) (unwrap_or (slice_get (inputs_of_jobs doc) job) [])

abbrev pub end_used : Doc → Job → List CellName
end_used doc j = filter_map (cell_of_job doc) (option_to_list (end_of doc j))

pub uses_input : (doc : Doc) (job other : ℕ) (c : CellName) → job < length (inputs_of_jobs doc)
    → Needs (inputs_of_jobs doc) job other → job_of_cell doc c ≡ Some other
    → Contains (used_by_job doc job) c
uses_input doc job other c lt h e =
    let j = has_job doc job lt in
    let P : List CellName → Type 0 = λ cs. Contains cs c in
    let Q : List ℕ → Type 0 = λ xs. Contains xs other in
    subst P (sym (uses_are doc job j.0 j.1))
    (Contains-append_right (scoped_used doc j.0) (inputs_used doc job ++ end_used doc j.0) c
    (Contains-append_left (inputs_used doc job) (end_used doc j.0) c
    (in_filter_map (cell_of_job doc) (unwrap_or (slice_get (inputs_of_jobs doc) job) []) other c
    (subst Q (sym (unwrap_or-slice_get (inputs_of_jobs doc) job [])) h) (cell_is doc c other e))))

pub uses_end : (doc : Doc) (job other : ℕ) (j : Job) (c : CellName) → job_at doc job ≡ Some j
    → end_of doc j ≡ Some other → job_of_cell doc c ≡ Some other
    → Contains (used_by_job doc job) c
uses_end doc job other j c at h e =
    let P : List CellName → Type 0 = λ cs. Contains cs c in
    subst P (sym (uses_are doc job j at))
    (Contains-append_right (scoped_used doc j) (inputs_used doc job ++ end_used doc j) c
    (Contains-append_right (inputs_used doc job) (end_used doc j) c
    (in_filter_map (cell_of_job doc) (option_to_list (end_of doc j)) other c
    (in_option (end_of doc j) other h) (cell_is doc c other e))))

pub used_of : (doc : Doc) (job other : ℕ) → job < length (inputs_of_jobs doc)
    → GoesOn (meanings_of doc) job other
    → (c : CellName) × Contains (used_by_job doc job) c × (job_of_cell doc c ≡ Some other)
used_of doc job other lt goes =
    elim goes [
      | inl h ↦ (let c = needs_cell doc job other h in
          (c.0, uses_input doc job other c.0 lt h c.1, c.1))
      | inr h ↦ (let j = out_and_then (end_of doc) (job_at doc job) other h in
          let e = out_end doc j.0 other j.2 in
          (e.1, uses_end doc job other j.0 e.1 j.1 j.2 e.4, e.4))
    ]

-- ---- and nothing else

no_producer : (doc : Doc) (depth : ℕ) (x y : Asked) → Contains (used_without doc depth x) y
    → is_producer_asked doc y ≡ false
unfolding used_without
no_producer doc zero x y h = absurd (none_in y h)
no_producer doc (suc depth) x y h = by_test (is_producer_asked doc x) refl h
    (λ z c. no_producer doc depth z y c)
  where
    by_test : (b : Bool) → is_producer_asked doc x ≡ b
        → Contains (cond b [] (x ∷ flat_map (used_without doc depth) (asked_by doc x))) y
        → ((z : Asked) → Contains (used_without doc depth z) y → is_producer_asked doc y ≡ false)
        → is_producer_asked doc y ≡ false
    by_test true e h later = absurd (none_in y h)
    by_test false e h later =
        elim (first_or_rest y x (flat_map (used_without doc depth) (asked_by doc x)) h) [
          | inl same ↦ ap (is_producer_asked doc) (sym same) ∙ e
          | inr r ↦ (let o = out_flat_map (used_without doc depth) (asked_by doc x) y r in
              later o.0 o.2)
        ]

pub is_cell_asked : (x : Asked) (c : CellName) → as_cell x ≡ Some c → x ≡ cell c.inst c.slot
is_cell_asked (cell i k) c e =
    ap (λ (d : CellName). cell d.inst d.slot) (same_Some (named i k) c e)
is_cell_asked (lazy i k p) c e = absurd (none-some c e)

-- a cell that a job comes to without passing a producer's is no producer's
pub scoped_no_producer : (doc : Doc) (j : Job) (c : CellName) → Contains (scoped_used doc j) c
    → IsProducerCell doc c → ⊥
scoped_no_producer doc j c h p =
    let o = out_filter_map as_cell (flat_map (used_without doc enough_used) (asked_by_job doc j)) c
    h in
    let f = out_flat_map (used_without doc enough_used) (asked_by_job doc j) o.0 o.1 in
    let e : o.0 ≡ cell c.inst c.slot = is_cell_asked o.0 c o.2 in
    let none : is_producer_at doc c.slot ≡ false =
    sym (ap (is_producer_asked doc) e) ∙ no_producer doc enough_used f.0 o.0 f.2 in
    let is : is_producer_at doc c.slot ≡ true =
    ap (λ (o : Option Node). option_map_or (is_producer doc) o false) p.is_node ∙ p.produces in
    false≢true (sym none ∙ is)

-- what a job uses directly: a cell that it comes to, that of an input, or that in which it ends
pub out_uses : (doc : Doc) (job : ℕ) (j : Job) (c : CellName) → job_at doc job ≡ Some j
    → Contains (used_by_job doc job) c
    → Contains (scoped_used doc j) c
    ⊎ (((other : ℕ) × Needs (inputs_of_jobs doc) job other × (cell_of_job doc other ≡ Some c))
    ⊎ ((other : ℕ) × (end_of doc j ≡ Some other) × (cell_of_job doc other ≡ Some c)))
out_uses doc job j c at h =
    let P : List CellName → Type 0 = λ cs. Contains cs c in
    let Q : List ℕ → ℕ → Type 0 = λ xs other. Contains xs other in
    elim (Contains-append_cases (scoped_used doc j) (inputs_used doc job ++ end_used doc j) c (subst
    P (uses_are doc job j at) h)) [
      | inl a ↦ inl a
      | inr r ↦ elim (Contains-append_cases (inputs_used doc job) (end_used doc j) c r) [
        | inl a ↦ (let o = out_filter_map (cell_of_job doc) (unwrap_or (slice_get (inputs_of_jobs
            doc) job) []) c a in
            let R : List ℕ → Type 0 = λ xs. Contains xs o.0 in
            inr (inl (o.0, subst R (unwrap_or-slice_get (inputs_of_jobs doc) job []) o.1, o.2)))
        | inr a ↦ (let o = out_filter_map (cell_of_job doc) (option_to_list (end_of doc j)) c a in
            inr (inr (o.0, out_option (end_of doc j) o.0 o.1, o.2)))
      ]
    ]

-- the job of the cell of a job
pub same_job : (doc : Doc) (c : CellName) (job other : ℕ) → job < length (inputs_of_jobs doc)
    → cell_of_job doc job ≡ Some c → job_of_cell doc c ≡ Some other → job ≡ other
same_job doc c job other lt e f =
    same_Some job other (sym (job_is doc c job (within_inputs doc job lt) e) ∙ f)

pub only_used_of : (doc : Doc) (job other : ℕ) (c : CellName) → job < length (inputs_of_jobs doc)
    → Contains (used_by_job doc job) c → job_of_cell doc c ≡ Some other
    → GoesOn (meanings_of doc) job other
only_used_of doc job other c lt h e =
    let j = has_job doc job lt in
    let M : ℕ → Type 0 = GoesOn (meanings_of doc) job in
    elim (out_uses doc job j.0 c j.1 h) [
      | inl a ↦ absurd (scoped_no_producer doc j.0 c a (job_producer doc c other e))
      | inr r ↦ elim r [
        | inl a ↦ (let d = needs_cell doc job a.0 a.1 in
            subst M (same_job doc c a.0 other (cell_job_within doc d.0 a.0 d.1).1 a.2 e) (inl a.1))
        | inr a ↦ (let d = out_end doc j.0 a.0 a.1 in
            subst M (same_job doc c a.0 other (cell_job_within doc d.1 a.0 d.4).1 a.2 e)
            (inr (ap (option_and_then (end_of doc)) j.1 ∙ a.1)))
      ]
    ]

-- ---- what the job of a cell means

pub content_of_job : (doc : Doc) (c : CellName) (job : ℕ) → job_of_cell doc c ≡ Some job
    → (meanings_of doc).meaning job ≡ made doc c
content_of_job doc c job e =
    ap (λ (o : Option Job). option_map_or (result_of doc) o (result.Reply reply.Absent))
    (job_is_cell doc c job (job_place doc c job e))

pub one_cell_of : (doc : Doc) (c d : CellName) (job : ℕ) → job_of_cell doc c ≡ Some job
    → job_of_cell doc d ≡ Some job → c ≡ d
one_cell_of doc c d job e f = same_Some c d (sym (cell_is doc c job e) ∙ cell_is doc d job f)
