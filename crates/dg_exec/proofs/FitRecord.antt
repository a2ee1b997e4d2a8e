-- The jobs of an accepted document fit together, where its cells are used.
use Rattle.std.proofs.Common.{◌≡◌, ℕ, ◌+◌, ◌<◌, length, Contains, Some, sym, ap, ◌∙◌, arith}
use Rattle.dg_decl.specs.declared.document.Doc.{Doc}
use Rattle.dg_decl.specs.Diagnostics.{IsAccepted}
use Rattle.dg_decl.proofs.MemberLemmas.{out_and_then}
use Rattle.dg_slots.specs.Sessions.{asks_of}
use Rattle.dg_eval.specs.Asks.{CellName, cells}
use Rattle.dg_eval.proofs.AcceptedDepth.{StagesFindNothing, stages_of_accepted}
use Rattle.dg_eval.proofs.CallLemmas.{calls_are_edges}
use Rattle.dg_eval.proofs.TotalLemmas.{CallsAreEdges}
use Rattle.dg_jobs.specs.Faithful.{IsUsed}
use Rattle.dg_exec.specs.declared.result.JobResult.TheVariants as result
use Rattle.dg_exec.specs.Jobs.{producer_cells, job_of_cell, inputs_of_jobs}
use Rattle.dg_exec.specs.Meanings.{job_at, end_of, meanings_of, JobsFitTogether}
use Rattle.dg_exec.proofs.FitLemmas.{inputs_count, cell_at, job_is, job_producer}
use Rattle.dg_exec.proofs.FitEnds.{out_end, same_content}
use Rattle.dg_exec.proofs.FitNeeds.{within_inputs, needs_cell, cell_job_within, used_of, only_used_of, content_of_job, one_cell_of}
use Rattle.dg_exec.proofs.FitReturns.{no_return_of}
use Rattle.dg_exec.proofs.FitLeast.{used_are_cells}

-- the cells of an accepted document are used
abbrev pub CellsAreUsed : Type 0
CellsAreUsed =
    (doc : Doc) → IsAccepted doc → (c : CellName) → Contains (cells doc) c
    → IsUsed (meanings_of doc) c

-- a job that ends in the content of another's cell means what that one does
same_meaning_of : (doc : Doc) → StagesFindNothing doc → CallsAreEdges doc → (job other : ℕ)
    → job < length (inputs_of_jobs doc) → (meanings_of doc).ends_in job ≡ Some other
    → (meanings_of doc).meaning job ≡ (meanings_of doc).meaning other
same_meaning_of doc none ok job other lt h =
    let j = out_and_then (end_of doc) (job_at doc job) other h in
    let o = out_end doc j.0 other j.2 in
    let is : job_of_cell doc o.0 ≡ Some job =
    job_is doc o.0 job (within_inputs doc job lt) (cell_at doc job o.0 (j.1 ∙ ap Some o.2)) in
    content_of_job doc o.0 job is
    ∙ (ap result.Content (same_content doc none ok o.0 o.1 (job_producer doc o.0 job is) o.3)
    ∙ sym (content_of_job doc o.1 other o.4))

pub fit_by : CellsAreUsed → JobsFitTogether
fit_by cells_are_used doc accepted =
    let none = stages_of_accepted doc accepted in
    let ok = calls_are_edges doc none in
    record {
      asks = (let count : length (inputs_of_jobs doc) ≡ length (asks_of doc)
          + length (producer_cells doc) = inputs_count doc in
          omega (arith, count));
      in_range = λ job other h. (let c = needs_cell doc job other h in
          (cell_job_within doc c.0 other c.1).1);
      no_return = no_return_of doc none ok;
      same_meaning = same_meaning_of doc none ok;
      used = used_of doc;
      only_used = only_used_of doc;
      content = λ c job e. (let w = cell_job_within doc c job e in
          (w.0, w.1, content_of_job doc c job e));
      one_cell = one_cell_of doc;
      least = λ c. (cells_are_used doc accepted c, λ u. used_are_cells doc accepted u.0 c u.1);
    }
