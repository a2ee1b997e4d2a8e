-- No walk of inputs and ends returns: what a job needs and where it ends is less deep.
use Rattle.std.proofs.Common.{◌≡◌, inl, inr, ℕ, zero, suc, ◌+◌, ◌<◌, ◌≤◌, length, Some, sym, ap, subst, ◌∙◌, arith}
use Rattle.std.proofs.lemmas.Option.{same_Some, slice_get_within}
use Rattle.dg_decl.specs.declared.document.Doc.{Doc}
use Rattle.dg_decl.proofs.MemberLemmas.{out_and_then}
use Rattle.dg_slots.specs.Sessions.{asks_of}
use Rattle.dg_eval.specs.Meaning.{enough}
use Rattle.dg_eval.specs.Asks.{CellName}
use Rattle.dg_eval.proofs.AcceptedDepth.{StagesFindNothing}
use Rattle.dg_eval.proofs.TargetLemmas.{ShallowSlot, none_shallow}
use Rattle.dg_eval.proofs.TotalLemmas.{CallsAreEdges}
use Rattle.dg_jobs.specs.Faithful.{GoesOn, MeaningWalk}
use Rattle.dg_exec.specs.Jobs.{job_of_cell}
use Rattle.dg_exec.specs.Meanings.{cell_job, job_at, end_of, meanings_of}
use Rattle.dg_exec.proofs.FitLemmas.{job_place, place_job, job_is_cell, job_producer, out_needed}
use Rattle.dg_exec.proofs.FitWalks.{node_shallow_at, reached_shallow}
use Rattle.dg_exec.proofs.FitEnds.{same_cell_job, producer_shallow, EndsIn, out_end, end_shallow}
use Rattle.dg_exec.proofs.FitNeeds.{AskNeeds, CellNeeds, out_needs, needs_cell, cell_job_within, one_cell_of}

-- what a job goes on to is the job of a cell
pub goes_to_cell : (doc : Doc) (job other : ℕ) → GoesOn (meanings_of doc) job other
    → (c : CellName) × (job_of_cell doc c ≡ Some other)
goes_to_cell doc job other goes =
    elim goes [
      | inl h ↦ needs_cell doc job other h
      | inr h ↦ (let j = out_and_then (end_of doc) (job_at doc job) other h in
          let e = out_end doc j.0 other j.2 in (e.1, e.4))
    ]

no_ask : (doc : Doc) (c : CellName) (job other : ℕ) → job_of_cell doc c ≡ Some job
    → AskNeeds doc job other → ⊥
no_ask doc c job other e a =
    let past : length (asks_of doc) ≤ job = (cell_job_within doc c job e).0 in
    let below : job < length (asks_of doc) = slice_get_within (asks_of doc) job a.ask a.is_ask in
    omega (arith, past, below)

needed_down : (doc : Doc) (k : ℕ) (c d : CellName) (job other : ℕ) → job_of_cell doc c ≡ Some job
    → job_of_cell doc d ≡ Some other → CellNeeds doc job other → ShallowSlot doc (suc k) c.slot
    → ShallowSlot doc k d.slot
needed_down doc k c d job other e f h sh =
    let same : h.cell ≡ c = one_cell_of doc h.cell c job (place_job doc h.cell job h.is_cell) e in
    let P : CellName → Type 0 = λ x. ShallowSlot doc (suc k) x.slot in
    let Q : CellName → Type 0 = λ x. ShallowSlot doc k x.slot in
    let o = out_needed doc h.cell.inst h.node other h.needs in
    subst Q (one_cell_of doc o.0 d other o.2 f)
    (reached_shallow doc enough k h.cell.inst h.node o.0
    (node_shallow_at doc (suc k) h.cell.slot h.node (subst P (sym same) sh) h.is_node) o.1)

end_down : (doc : Doc) → StagesFindNothing doc → CallsAreEdges doc → (k : ℕ) (c d : CellName)
    → (job other : ℕ) → job_of_cell doc c ≡ Some job → job_of_cell doc d ≡ Some other
    → (meanings_of doc).ends_in job ≡ Some other → suc k ≤ 128 → ShallowSlot doc (suc k) c.slot
    → ShallowSlot doc k d.slot
end_down doc none ok k c d job other e f h le sh =
    let j = out_and_then (end_of doc) (job_at doc job) other h in
    let o = out_end doc j.0 other j.2 in
    let is : j.0 ≡ cell_job c =
    same_Some j.0 (cell_job c) (sym j.1 ∙ job_is_cell doc c job (job_place doc c job e)) in
    let same : o.0 ≡ c = same_cell_job o.0 c (sym o.2 ∙ is) in
    let P : CellName → Type 0 = λ x. EndsIn doc x o.1 in
    let Q : CellName → Type 0 = λ x. ShallowSlot doc k x.slot in
    subst Q (one_cell_of doc o.1 d other o.4 f)
    (end_shallow doc none ok k c o.1 (job_producer doc c job e) (subst P same o.3) le sh)

-- what the job of a cell goes on to is less deep
goes_down : (doc : Doc) → StagesFindNothing doc → CallsAreEdges doc → (k : ℕ) (c d : CellName)
    → (job other : ℕ) → job_of_cell doc c ≡ Some job → job_of_cell doc d ≡ Some other
    → GoesOn (meanings_of doc) job other → suc k ≤ 128 → ShallowSlot doc (suc k) c.slot
    → ShallowSlot doc k d.slot
goes_down doc none ok k c d job other e f goes le sh =
    elim goes [
      | inl h ↦ elim (out_needs doc job other h) [
        | inl a ↦ absurd (no_ask doc c job other e a)
        | inr n ↦ needed_down doc k c d job other e f n sh
      ]
      | inr h ↦ end_down doc none ok k c d job other e f h le sh
    ]

-- where a walk from the job of a cell leads, it is less deep by the steps of the walk
record Falls (doc : Doc) (k steps : ℕ) (d : CellName) : Type 0 where
  depth : ℕ
  less : depth + steps ≤ k
  shallow : ShallowSlot doc depth d.slot

falls : (doc : Doc) → StagesFindNothing doc → CallsAreEdges doc → (k steps : ℕ) (c d : CellName)
    → (job other : ℕ) → job_of_cell doc c ≡ Some job → job_of_cell doc d ≡ Some other → k ≤ 128
    → ShallowSlot doc k c.slot → MeaningWalk (meanings_of doc) steps job other
    → Falls doc k steps d
falls doc none ok k zero c d job other e f le sh w =
    let same : c ≡ d = one_cell_of doc c d other (e ∙ ap Some w) f in
    let P : CellName → Type 0 = λ x. ShallowSlot doc k x.slot in
    record { depth = k; less = omega arith; shallow = subst P same sh }
falls doc none ok zero (suc steps) c d job other e f le sh w =
    absurd (none_shallow doc c.slot sh)
falls doc none ok (suc k) (suc steps) c d job other e f le sh w =
    let n = goes_to_cell doc job w.0 w.1 in
    let r = falls doc none ok k steps n.0 d w.0 other n.1 f (omega (arith, le))
    (goes_down doc none ok k c n.0 job w.0 e n.1 w.1 le sh) w.2 in
    let less : r.depth + steps ≤ k = r.less in
    record { depth = r.depth; less = omega (arith, less); shallow = r.shallow }

-- so none returns
never : (doc : Doc) → StagesFindNothing doc → CallsAreEdges doc → (most k steps : ℕ) (c : CellName)
    → (job : ℕ) → job_of_cell doc c ≡ Some job → k ≤ most → k ≤ 128 → ShallowSlot doc k c.slot
    → MeaningWalk (meanings_of doc) (suc steps) job job → ⊥
never doc none ok zero k steps c job e le few sh w =
    let none_left : k ≡ 0 = omega (arith, le) in
    let P : ℕ → Type 0 = λ k. ShallowSlot doc k c.slot in
    none_shallow doc c.slot (subst P none_left sh)
never doc none ok (suc most) k steps c job e le few sh w =
    let r = falls doc none ok k (suc steps) c c job job e e few sh w in
    let less : r.depth + suc steps ≤ k = r.less in
    never doc none ok most r.depth steps c job e (omega (arith, less, le))
    (omega (arith, less, few)) r.shallow w

-- the last step of a walk leads to the job of a cell
walk_to_cell : (doc : Doc) (steps job other : ℕ)
    → MeaningWalk (meanings_of doc) (suc steps) job other
    → (c : CellName) × (job_of_cell doc c ≡ Some other)
walk_to_cell doc zero job other w =
    let c = goes_to_cell doc job w.0 w.1 in (c.0, c.1 ∙ ap Some w.2)
walk_to_cell doc (suc steps) job other w = walk_to_cell doc steps w.0 other w.2

pub no_return_of : (doc : Doc) → StagesFindNothing doc → CallsAreEdges doc → (job steps : ℕ)
    → MeaningWalk (meanings_of doc) (suc steps) job job → ⊥
no_return_of doc none ok job steps w =
    let c = walk_to_cell doc steps job job w in
    never doc none ok 128 128 steps c.0 job c.1 (omega arith) (omega arith)
    (producer_shallow doc none c.0 (job_producer doc c.0 job c.1)) w
