-- The jobs of a document: its asks, and the cells of its producers; and which jobs each one needs.
use Rattle.std.specs.Prelude.{ℕ, zero, suc, ◌+◌, nat_eq, Bool, false, ◌&&◌, if◌then◌else◌, List, [], ◌∷◌, ◌++◌, length, map, Option, Some, None, option_map}
use Rattle.std.specs.List.{position, enumerate_from, filter_map, flat_map}
use Rattle.std.specs.Option.{option_map_or}
use Rattle.dg_decl.specs.declared.document.Doc.{Doc}
use Rattle.dg_decl.specs.declared.graph.Node.{Node}
use Rattle.dg_decl.specs.Graph.{Dependency, deps, nodes}
use Rattle.dg_decl.specs.Sizes.{is_producer}
use Rattle.dg_slots.specs.declared.session.Ask.{Ask}
use Rattle.dg_slots.specs.declared.session.Inst.{Inst}
use Rattle.dg_slots.specs.Sessions.{insts_of, asks_of}
use Rattle.dg_eval.specs.Meaning.{node_at, Target, target_of, enough}
use Rattle.dg_eval.specs.Asks.{CellName, same_cell, each_once, entry_node}
use Rattle.dg_exec.specs.Modes.{is_direct}

-- ---- the cells of producers

-- a node is a `produces` line of this class
abbrev pub is_producer_of : Doc → ℕ → Node → Bool
is_producer_of doc class n = nat_eq n.class class && is_producer doc n

-- the cell of a slot in an instance, where the slot is a producer of its class
abbrev pub producer_cell : Doc → ℕ × Inst → ℕ × Node → Option CellName
producer_cell doc i k =
    if is_producer_of doc i.1.class k.1 then Some (record { inst = i.0; slot = k.0 }) else None

-- the cells of all producers, in order of instance and slot
unfoldable pub producer_cells : Doc → List CellName
producer_cells doc =
    flat_map (λ i. filter_map (producer_cell doc i) (enumerate_from 0 (nodes doc)))
    (enumerate_from 0 (insts_of doc))

-- The number of the job that makes the content of a cell, where it is a producer's. The jobs of the
-- asks come first, in order.
unfoldable pub job_of_cell : Doc → CellName → Option ℕ
job_of_cell doc c =
    option_map (λ p. length (asks_of doc) + p) (position (same_cell c) (producer_cells doc))

-- ---- walks to producers

-- a slot is a producer
abbrev pub is_producer_at : Doc → ℕ → Bool
is_producer_at doc k = option_map_or (is_producer doc) (node_at doc k) false

-- a walk ends at a producer, and goes on behind any other slot
abbrev pub led_to : Doc → (ℕ → Node → List CellName) → Target → List CellName
led_to doc goes_on t =
    if is_producer_at doc t.slot then record { inst = t.inst; slot = t.slot } ∷ []
    else option_map_or (goes_on t.inst) (node_at doc t.slot) []

-- a walk follows the direct edges: requests for an instance, or for what became of a producer
abbrev pub reached_by : Doc → (ℕ → Node → List CellName) → ℕ → Node → Dependency → List CellName
reached_by doc goes_on i n d =
    if is_direct d.mode then option_map_or (led_to doc goes_on) (target_of doc i n d) [] else []

-- The cells of the producers that walks of direct edges come to first, from a node in an instance,
-- through at least one edge and at most so many. They stand in the order of the walks in declared
-- order, depth first, and once for each walk.
unfoldable pub reached : Doc → ℕ → ℕ → Node → List CellName
reached doc zero i n = []
reached doc (suc edges) i n = flat_map (reached_by doc (reached doc edges) i n) (deps doc n)

-- ---- the jobs that a job needs

-- the jobs of the producers that a node in an instance needs, each once
abbrev pub needed : Doc → ℕ → Node → List ℕ
needed doc i n = filter_map (job_of_cell doc) (each_once (reached doc enough i n))

-- an ask needs what its entry point does
abbrev pub needed_by_ask : Doc → Ask → List ℕ
needed_by_ask doc a = option_map_or (needed doc a.inst) (entry_node doc a) []

abbrev pub needed_by_cell : Doc → CellName → List ℕ
needed_by_cell doc c = option_map_or (needed doc c.inst) (node_at doc c.slot) []

-- for each job the jobs that it needs: its inputs
unfoldable pub inputs_of_jobs : Doc → List (List ℕ)
inputs_of_jobs doc =
    map (needed_by_ask doc) (asks_of doc) ++ map (needed_by_cell doc) (producer_cells doc)
