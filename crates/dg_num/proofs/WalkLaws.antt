use Rattle.std.proofs.Common.{◌≡◌, ◌+◌, ◌-◌, ◌<◌, ◌≤◌, ◌⊎◌, ℕ, zero, suc, List, sym, ap, subst}
use Rattle.std.proofs.Common.{refl, ⊎_elim, arith}
use Rattle.dg_num.specs.declared.graph.Graph.{Graph}
use Rattle.dg_num.specs.Graph.{successors, HasEdge}
use Rattle.dg_num.specs.Walks.{Walk, Leads, IsReached, IsOnCycle, IsRank}

-- what edges keep walks keep
pub kept_along : (graph : Graph) (P : ℕ → Type 0) → ((a b : ℕ) → P a → HasEdge graph a b → P b)
    → (edges a b : ℕ) → Walk (successors graph) edges a b → P a → P b
kept_along graph P step zero a b walk here = subst P walk here
kept_along graph P step (suc edges) a b walk here =
    kept_along graph P step edges walk.0 b walk.2 (step a walk.0 here walk.1)

-- one edge more at the end
pub Walk-push : (graph : Graph) (edges a b c : ℕ) → Walk (successors graph) edges a b
    → HasEdge graph b c → Walk (successors graph) (suc edges) a c
Walk-push graph zero a b c walk edge = let P : ℕ
    → Type 0 = λ x. HasEdge graph x c in (c, subst P (sym walk) edge, refl)
Walk-push graph (suc edges) a b c walk edge =
    (walk.0, walk.1, Walk-push graph edges walk.0 b c walk.2 edge)

-- what is reached leads on to what is reached
pub IsReached-edge : (graph : Graph) (from : List ℕ) (a b : ℕ) → IsReached (successors graph) from a
    → HasEdge graph a b → IsReached (successors graph) from b
IsReached-edge graph from a b reached edge = (
  reached.0,
  reached.1,
  (
    suc reached.2.0,
    Walk-push graph reached.2.0 reached.0 a b reached.2.1 edge,
  ),
)

-- each edge from a node with a number leads to a lower one that isn't 0, and to the next lower one
-- if any is
abbrev pub Ranked : Graph → (ℕ → ℕ) → Type 0
Ranked graph rank = (node : ℕ) → 1 ≤ rank node
    → ((after : ℕ) → HasEdge graph node after → (1 ≤ rank after) × (rank after < rank node))
    × ((rank node ≡ 1) ⊎ ((after : ℕ) × HasEdge graph node after × (rank node ≡ rank after + 1)))

-- a walk goes down by one at least with each edge
pub Ranked-walk : (graph : Graph) (rank : ℕ → ℕ) → Ranked graph rank → (edges a b : ℕ)
    → Walk (successors graph) edges a b → 1 ≤ rank a → (edges + rank b ≤ rank a) × (1 ≤ rank b)
Ranked-walk graph rank ranked zero a b walk here =
    (omega (arith, ap rank walk), omega (arith, ap rank walk))
Ranked-walk graph rank ranked (suc edges) a b walk here =
    let down = (ranked a here).0 walk.0 walk.1 in
    let rest = Ranked-walk graph rank ranked edges walk.0 b walk.2 down.0 in
    (omega (arith, down.1, rest.0), rest.1)

-- some walk goes down by one with each edge, to the end
pub Ranked-longest : (graph : Graph) (rank : ℕ → ℕ) → Ranked graph rank → (edges a : ℕ)
    → rank a ≡ edges + 1 → (b : ℕ) × Walk (successors graph) edges a b
Ranked-longest graph rank ranked zero a is = (a, refl)
Ranked-longest graph rank ranked (suc edges) a is =
    ⊎_elim
    (λ (one : rank a ≡ 1). absurd (omega (arith, one, is)))
    (λ (down : (after : ℕ) × HasEdge graph a after × (rank a ≡ rank after + 1)).
    let rest = Ranked-longest graph rank ranked edges down.0 (omega (arith, down.2, is)) in
    (rest.0, (down.0, down.1, rest.1)))
    (ranked a (omega (arith, is))).1

pub IsRank-from_ranked : (graph : Graph) (rank : ℕ → ℕ) → Ranked graph rank → (node : ℕ)
    → 1 ≤ rank node → IsRank (successors graph) node (rank node)
IsRank-from_ranked graph rank ranked node here =
    let is : rank node ≡ (rank node - 1) + 1 = omega arith in
    let walk = Ranked-longest graph rank ranked (rank node - 1) node is in
    record {
      walk = (rank node - 1, walk.0, walk.1, is);
      longest = λ edges last w. let down = Ranked-walk graph rank ranked edges node last w here in
          omega (arith, down.0, down.1);
    }

pub Walk-append : (graph : Graph) (m n a b c : ℕ) → Walk (successors graph) m a b
    → Walk (successors graph) n b c → (k : ℕ) × (k ≡ m + n) × Walk (successors graph) k a c
Walk-append graph zero n a b c first second = (
  n,
  omega arith,
  let P : ℕ → Type 0 = λ x. Walk (successors graph) n x c in
      subst P (sym first) second,
)
Walk-append graph (suc m) n a b c first second = let rest =
    Walk-append graph m n first.0 b c first.2 second in
    (suc rest.0, omega (arith, rest.1), (first.0, first.1, rest.2))

-- a cycle can be walked any number of times
pub rounds : (graph : Graph) (node : ℕ) → IsOnCycle (successors graph) node → (times : ℕ)
    → (edges : ℕ) × (times ≤ edges) × Walk (successors graph) edges node node
rounds graph node cycle zero = (0, omega arith, refl)
rounds graph node cycle (suc times) =
    let before = rounds graph node cycle times in
    let all = Walk-append graph cycle.0 before.0 node node node cycle.2 before.2 in
    (all.0, omega (arith, all.1, cycle.1, before.1), all.2)

-- a node with a rank lies on no cycle
pub off_cycle_from_rank : (graph : Graph) (node rank : ℕ) → IsRank (successors graph) node rank
    → IsOnCycle (successors graph) node → ⊥
off_cycle_from_rank graph node rank r cycle = let long = rounds graph node cycle rank in
    omega (arith, r.longest long.0 node long.2, long.1)

-- a walk in the graph with its edges turned round
pub Walk-reversed : (graph turned : Graph) → ((a b : ℕ) → HasEdge graph a b → HasEdge turned b a)
    → (edges a b : ℕ) → Walk (successors graph) edges a b → Walk (successors turned) edges b a
Walk-reversed graph turned turn zero a b walk = sym walk
Walk-reversed graph turned turn (suc edges) a b walk =
    Walk-push turned edges b walk.0 a (Walk-reversed graph turned turn edges walk.0 b walk.2)
    (turn a walk.0 walk.1)

pub IsOnCycle-reversed : (graph turned : Graph)
    → ((a b : ℕ) → HasEdge graph a b → HasEdge turned b a) → (node : ℕ)
    → IsOnCycle (successors graph) node → IsOnCycle (successors turned) node
IsOnCycle-reversed graph turned turn node cycle =
    (cycle.0, cycle.1, Walk-reversed graph turned turn cycle.0 node node cycle.2)

-- a node lies on a cycle exactly if a walk returns to it from one that follows it
pub IsOnCycle-from_leads : (graph : Graph) (node after : ℕ) → HasEdge graph node after
    → Leads (successors graph) after node → IsOnCycle (successors graph) node
IsOnCycle-from_leads graph node after edge leads =
    (suc leads.0, omega arith, (after, edge, leads.1))

pub first_on_cycle : (graph : Graph) (node : ℕ) → IsOnCycle (successors graph) node
    → (after : ℕ) × HasEdge graph node after × Leads (successors graph) after node
first_on_cycle graph node (zero, le, walk) = absurd (omega arith)
first_on_cycle graph node (suc edges, le, walk) = (walk.0, walk.1, (edges, walk.2))

pub Leads-trans : (graph : Graph) (a b c : ℕ) → Leads (successors graph) a b
    → Leads (successors graph) b c → Leads (successors graph) a c
Leads-trans graph a b c first second = let all =
    Walk-append graph first.0 second.0 a b c first.1 second.1 in (all.0, all.2)

pub Leads-edge : (graph : Graph) (a b : ℕ) → HasEdge graph a b → Leads (successors graph) a b
Leads-edge graph a b edge = (1, (b, edge, refl))
