-- What the jobs of a document mean, and which cells they use.
use Rattle.std.specs.Prelude.{ℕ, zero, suc, ◌-◌, nat_lt, if◌then◌else◌, Bool, false, List, [], ◌∷◌, ◌++◌, length, Option, Some, None, unwrap_or, option_map, option_and_then, option_to_list, slice_get, Ok}
use Rattle.std.specs.List.{filter_map, flat_map}
use Rattle.std.specs.Option.{option_map_or}
use Rattle.dg_decl.specs.declared.document.Doc.{Doc}
use Rattle.dg_decl.specs.declared.binding.BindRef.TheVariants as binding
use Rattle.dg_decl.specs.declared.graph.Node.{Node}
use Rattle.dg_decl.specs.declared.graph.NodeKind.{NodeKind}
use Rattle.dg_decl.specs.declared.graph.NodeKind.TheVariants as node
use Rattle.dg_decl.specs.Diagnostics.{IsAccepted}
use Rattle.dg_jobs.specs.Faithful.{FitTogether}
use Rattle.dg_jobs.specs.Machine.{Meanings}
use Rattle.dg_slots.specs.declared.session.Ask.{Ask}
use Rattle.dg_slots.specs.Sessions.{asks_of}
use Rattle.dg_value.specs.declared.value.Kept.{Kept}
use Rattle.dg_value.specs.declared.value.Kept.TheVariants as kept
use Rattle.dg_value.specs.declared.value.Reply.TheVariants as reply
use Rattle.dg_value.specs.declared.value.Value.{Value}
use Rattle.dg_eval.specs.Bodies.{End, producer_end}
use Rattle.dg_eval.specs.Meaning.{node_at, cell_place, member_end, eval, content_of}
use Rattle.dg_eval.specs.Runs.{Asked, cell, lazy, Run, asks_of as asks_of_run, as_kept}
use Rattle.dg_eval.specs.Asks.{CellName, run_of_ask, answer_to, asked_by, as_cell, enough_used, cells}
use Rattle.dg_exec.specs.declared.result.JobResult.{JobResult}
use Rattle.dg_exec.specs.declared.result.JobResult.TheVariants as result
use Rattle.dg_exec.specs.Jobs.{producer_cells, job_of_cell, is_producer_at, inputs_of_jobs}

-- ---- jobs by number

-- what a job is: an ask with its number from 1, or the cell of a producer
pub data Job : Type 0 where
  ask_job : ℕ → Ask → Job
  cell_job : CellName → Job

-- the job of this number
abbrev pub job_at : Doc → ℕ → Option Job
job_at doc job =
    if nat_lt job (length (asks_of doc))
    then option_map (ask_job (suc job)) (slice_get (asks_of doc) job)
    else option_map cell_job (slice_get (producer_cells doc) (job - length (asks_of doc)))

-- ---- what a job gives

-- what an evaluation keeps; in an accepted document there is a result
abbrev pub kept_by : Run Value → Kept
kept_by None = kept.Failed (record { origin = 0; message = [] })
kept_by (Some (r, asked)) = as_kept r

-- what the cell of a producer comes to
abbrev pub made : Doc → CellName → JobResult
made doc c = result.Content (kept_by (content_of doc c.inst c.slot))

-- an ask gives its reply, and the job of a cell the content of the cell
abbrev pub result_of : Doc → Job → JobResult
result_of doc (ask_job number a) = result.Reply (unwrap_or (answer_to doc number a) reply.Absent)
result_of doc (cell_job c) = made doc c

-- ---- where the tree of a producer ends

abbrev pub cell_at_end : Run End → Option CellName
cell_at_end (Some (Ok (producer_end i k), asked)) = Some (record { inst = i; slot = k })
cell_at_end other = None

-- the cell of a producer in whose content the tree of this cell's producer ends
abbrev pub end_of_cell : Doc → CellName → Option CellName
end_of_cell doc c = option_and_then (λ n. of_kind n n.kind) (node_at doc c.slot)
  where
    of_kind : Node → NodeKind → Option CellName
    of_kind n (node.Bound (binding.Member m)) =
        cell_at_end
        (member_end doc (eval doc 127) 127 c.inst c.slot n (cell_place c.inst c.slot) m)
    of_kind n other = None

abbrev pub end_of : Doc → Job → Option ℕ
end_of doc (ask_job number a) = None
end_of doc (cell_job c) = option_and_then (job_of_cell doc) (end_of_cell doc c)

-- ---- which cells a job uses

-- what the evaluation of a job asks for first-hand
abbrev pub asked_by_job : Doc → Job → List Asked
asked_by_job doc (ask_job number a) = asks_of_run (run_of_ask doc number a)
asked_by_job doc (cell_job c) = asked_by doc (cell c.inst c.slot)

abbrev pub is_producer_asked : Doc → Asked → Bool
is_producer_asked doc (cell i k) = is_producer_at doc k
is_producer_asked doc (lazy i k p) = false

-- a cell or Lazy, what it asks for, and so on, through so many, none of which is the cell of a
-- producer
unfoldable pub used_without : Doc → ℕ → Asked → List Asked
used_without doc zero x = []
used_without doc (suc depth) x =
    if is_producer_asked doc x then []
    else x ∷ flat_map (used_without doc depth) (asked_by doc x)

-- the scoped cells that a job comes to without passing through the cell of a producer
abbrev pub scoped_used : Doc → Job → List CellName
scoped_used doc j =
    filter_map as_cell (flat_map (used_without doc enough_used) (asked_by_job doc j))

-- the cell of a job that isn't an ask
abbrev pub cell_of_job : Doc → ℕ → Option CellName
cell_of_job doc job = option_and_then of_job (job_at doc job)
  where
    of_job : Job → Option CellName
    of_job (ask_job number a) = None
    of_job (cell_job c) = Some c

-- The cells that a job uses without passing through the cell of a producer: the scoped ones that it
-- comes to, those of its inputs, and the one in whose content it ends. The cell of another producer
-- that a job only looks at, in a value that it was given, isn't one of them: whoever gave the value
-- uses it.
abbrev pub used_by : Doc → ℕ → Job → List CellName
used_by doc job j =
    scoped_used doc j ++ (filter_map (cell_of_job doc)
    (unwrap_or (slice_get (inputs_of_jobs doc) job) [])
    ++ filter_map (cell_of_job doc) (option_to_list (end_of doc j)))

-- the same of a job by its number
abbrev pub used_by_job : Doc → ℕ → List CellName
used_by_job doc job = option_map_or (used_by doc job) (job_at doc job) []

-- ---- the jobs of a document

-- the jobs of a document with what they mean
abbrev pub meanings_of : Doc → Meanings JobResult CellName
meanings_of doc = record {
  inputs = inputs_of_jobs doc;
  asks = length (asks_of doc);
  meaning = λ job. option_map_or (result_of doc) (job_at doc job) (result.Reply reply.Absent);
  ends_in = λ job. option_and_then (end_of doc) (job_at doc job);
  uses = used_by_job doc;
  job_of = job_of_cell doc;
  content = made doc;
  cells = cells doc;
}

-- in an accepted document the jobs fit together, as the laws of the core want
abbrev pub JobsFitTogether : Type 0
JobsFitTogether = (doc : Doc) → IsAccepted doc → FitTogether (meanings_of doc)
