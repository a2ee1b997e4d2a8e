use Rattle.std.proofs.Common.{◌≡◌, ◌==◌, ◌+◌, ◌<◌, ◌≤◌, ◌⊎◌, ◌++◌, ◌∷◌, [], ℕ, false, eqb, List}
use Rattle.std.proofs.Common.{length, get_or, set, take, replicate, All, Contains, count_by, refl}
use Rattle.std.proofs.Common.{sym, ap, ◌∙◌, subst, inl, inr, ⊎_elim, arith}
use Rattle.std.proofs.lemmas.Bool.{cases_eq, cases_lt, eq-eqb, eqb-true, eqb-false}
use Rattle.std.proofs.lemmas.List.{get_or_past, get_or-replicate, get_or-set_same, get_or-set_other}
use Rattle.std.proofs.lemmas.List.{length-replicate, length-set}
use Rattle.std.proofs.lemmas.List.Elements.{All-push, All-weaker, All-contains, Contains-push}
use Rattle.std.proofs.lemmas.List.Sums.{count_by-le-length}
use Rattle.dg_num.specs.declared.graph.Graph.{Graph}
use Rattle.dg_num.specs.Counts.{count_of, one_at_zero, IsReversed}
use Rattle.dg_num.specs.Graph.{node_count, successors, HasEdge}
use Rattle.dg_num.proofs.Counts.{count_of-push_same, count_of-push_other, count_of_more_same}
use Rattle.dg_num.proofs.Counts.{count_of_more_other, count_of-take-le, contained_from_count_by}
use Rattle.dg_num.proofs.Counts.{count_by_all, count_by-zero-set, count_by-zero-list}
use Rattle.dg_num.proofs.Counts.{fails_from_none, one_at_zero_of_zero, one_at_zero_of_more}
use Rattle.dg_num.proofs.Counts.{one_at_zero-le, zero_from_one, more_from_none}
use Rattle.dg_num.proofs.WalkLaws.{Ranked}

-- the numbers below `i` whose count is 0
pub record Listed (counts nodes : List ℕ) (i : ℕ) : Type 0 where
  pub within : All (λ node. node < i) nodes
  pub exact : (node : ℕ) → node < i → count_of nodes node ≡ one_at_zero (get_or counts node 0)
  pub ahead : (node : ℕ) → i ≤ node → count_of nodes node ≡ 0

pub Listed-push : (counts nodes nodes' : List ℕ) (i : ℕ) → Listed counts nodes i
    → get_or counts i 0 ≡ 0 → nodes' ≡ nodes ++ i ∷ [] → Listed counts nodes' (i + 1)
Listed-push counts nodes nodes' i l zero is =
    let P : List ℕ → Type 0 = λ xs. Listed counts xs (i + 1) in
    let made : P (nodes ++ i ∷ []) = record {
      within = All-push (λ node. node < i + 1) nodes i
          (All-weaker (λ node. node < i) (λ node. node < i + 1)
          (λ node h. omega arith) nodes l.within) (omega arith);
      exact = λ node lt. ⊎_elim (λ (e : i ≡ node). let P : ℕ
          → Type 0 = λ x. count_of (nodes ++ i ∷ []) x ≡ one_at_zero (get_or counts x 0) in
          subst P e (omega (
            arith,
            count_of-push_same nodes i i refl,
            l.ahead i (omega arith),
            one_at_zero_of_zero (get_or counts i 0) zero,
          )))
          (λ (ne : i ≡ node → ⊥). count_of-push_other nodes i node ne
          ∙ l.exact node (before i node lt ne)) (cases_eq i node);
      ahead = λ node le. count_of-push_other nodes i node (λ e. absurd (omega arith))
          ∙ l.ahead node (omega arith);
    } in
    subst P (sym is) made
  where
    before : (i node : ℕ) → node < i + 1 → (i ≡ node → ⊥) → node < i
    before i node lt ne = ⊎_elim (λ (h : node < i). h) (λ (h : i ≤ node). absurd (ne (omega arith)))
        (cases_lt node i)

pub Listed-skip : (counts nodes nodes' : List ℕ) (i : ℕ) → Listed counts nodes i
    → 1 ≤ get_or counts i 0 → nodes' ≡ nodes → Listed counts nodes' (i + 1)
Listed-skip counts nodes nodes' i l more is =
    let P : List ℕ → Type 0 = λ xs. Listed counts xs (i + 1) in
    let made : P nodes = record {
      within = All-weaker (λ node. node < i) (λ node. node < i + 1)
          (λ node h. omega arith) nodes l.within;
      exact = λ node lt. ⊎_elim (λ (h : node < i). l.exact node h)
          (λ (h : i ≤ node). let e : i ≡ node = omega arith in let P : ℕ
          → Type 0 = λ x. count_of nodes x ≡ one_at_zero (get_or counts x 0) in
          subst P e (l.ahead i (omega arith) ∙ sym (one_at_zero_of_more (get_or counts i 0) more)))
          (cases_lt node i);
      ahead = λ node le. l.ahead node (omega arith);
    } in
    subst P (sym is) made

-- the first `i` places of the row have been taken from the counts
pub record Releasing (missing₀ ready₀ row missing ready : List ℕ) (i : ℕ) : Type 0 where
  pub len : length missing ≡ length missing₀
  pub within : All (λ node. node < length missing₀) ready
  pub less : (node : ℕ) → node < length missing₀
      → get_or missing node 0 + count_of (take i row) node ≡ get_or missing₀ node 0
  pub listed : (node : ℕ) → node < length missing₀
      → count_of ready node + one_at_zero (get_or missing₀ node 0) ≡ count_of ready₀ node
      + one_at_zero (get_or missing node 0)

pub Releasing-enough : (missing₀ ready₀ row missing ready : List ℕ) (i at : ℕ)
    → Releasing missing₀ ready₀ row missing ready i → i < length row → get_or row i 0 ≡ at
    → at < length missing₀ → count_of row at ≤ get_or missing₀ at 0 → 1 ≤ get_or missing at 0
Releasing-enough missing₀ ready₀ row missing ready i at r lt is in-counts enough =
    omega (
      arith,
      r.less at in-counts,
      count_of_more_same row i at lt is,
      count_of-take-le row (i + 1) at,
    )

less_more : (missing₀ ready₀ row missing ready : List ℕ) (i at left : ℕ)
    → Releasing missing₀ ready₀ row missing ready i → i < length row → get_or row i 0 ≡ at
    → at < length missing₀ → left + 1 ≡ get_or missing at 0 → (node : ℕ) → node < length missing₀
    → get_or (set missing at left) node 0 + count_of (take (i + 1) row) node
    ≡ get_or missing₀ node 0
less_more missing₀ ready₀ row missing ready i at left r lt is in-counts one node h =
    ⊎_elim
    (λ (e : at ≡ node). let P : ℕ → Type 0 =
    λ x. get_or (set missing at left) x 0 + count_of (take (i + 1) row) x
    ≡ get_or missing₀ x 0 in subst P e (omega (
      arith,
      r.less at in-counts,
      get_or-set_same missing at left 0 (omega (arith, r.len)),
      count_of_more_same row i at lt is,
    )))
    (λ (ne : at ≡ node → ⊥). omega (
      arith,
      r.less node h,
      get_or-set_other missing at node left 0 (λ e. ne (sym e)),
      count_of_more_other row i node lt (λ e. ne (sym is ∙ e)),
    ))
    (cases_eq at node)

pub Releasing-push : (missing₀ ready₀ row missing ready missing' ready' : List ℕ) (i at left : ℕ)
    → Releasing missing₀ ready₀ row missing ready i → i < length row → get_or row i 0 ≡ at
    → at < length missing₀ → left + 1 ≡ get_or missing at 0 → left ≡ 0
    → missing' ≡ set missing at left → ready' ≡ ready ++ at ∷ []
    → Releasing missing₀ ready₀ row missing' ready' (i + 1)
Releasing-push missing₀ ready₀ row missing ready missing' ready' i at left r lt is in-counts one
    none missing-is ready-is =
    let P : List ℕ → List ℕ → Type 0 = λ ms rs. Releasing missing₀ ready₀ row ms rs (i + 1) in
    let same = get_or-set_same missing at left 0 (omega (arith, r.len)) in
    let made : P (set missing at left) (ready ++ at ∷ []) = record {
      len = length-set missing at left ∙ r.len;
      within = All-push (λ node. node < length missing₀) ready at r.within in-counts;
      less = less_more missing₀ ready₀ row missing ready i at left r lt is in-counts one;
      listed = λ node h. ⊎_elim (λ (e : at ≡ node). let P : ℕ
          → Type 0 = λ x. count_of (ready ++ at ∷ []) x + one_at_zero (get_or missing₀ x 0)
          ≡ count_of ready₀ x + one_at_zero (get_or (set missing at left) x 0) in
          subst P e (omega (
            arith,
            r.listed at in-counts,
            count_of-push_same ready at at refl,
            one_at_zero_of_zero (get_or (set missing at left) at 0) (same ∙ none),
            one_at_zero_of_more (get_or missing at 0) (omega arith),
          )))
          (λ (ne : at ≡ node → ⊥). omega (
            arith,
            r.listed node h,
            count_of-push_other ready at node ne,
            ap one_at_zero (get_or-set_other missing at node left 0 (λ e. ne (sym e))),
          ))
          (cases_eq at node);
    } in
    subst (λ ms. P ms ready') (sym missing-is) (subst (λ rs. P (set missing at left) rs)
    (sym ready-is) made)

pub Releasing-skip : (missing₀ ready₀ row missing ready missing' ready' : List ℕ) (i at left : ℕ)
    → Releasing missing₀ ready₀ row missing ready i → i < length row → get_or row i 0 ≡ at
    → at < length missing₀ → left + 1 ≡ get_or missing at 0 → 1 ≤ left
    → missing' ≡ set missing at left → ready' ≡ ready
    → Releasing missing₀ ready₀ row missing' ready' (i + 1)
Releasing-skip missing₀ ready₀ row missing ready missing' ready' i at left r lt is in-counts one
    more missing-is ready-is =
    let P : List ℕ → List ℕ → Type 0 = λ ms rs. Releasing missing₀ ready₀ row ms rs (i + 1) in
    let same = get_or-set_same missing at left 0 (omega (arith, r.len)) in
    let made : P (set missing at left) ready = record {
      len = length-set missing at left ∙ r.len;
      within = r.within;
      less = less_more missing₀ ready₀ row missing ready i at left r lt is in-counts one;
      listed = λ node h. ⊎_elim (λ (e : at ≡ node). let P : ℕ
          → Type 0 = λ x. count_of ready x + one_at_zero (get_or missing₀ x 0) ≡ count_of ready₀ x
          + one_at_zero (get_or (set missing at left) x 0) in
          subst P e (omega (
            arith,
            r.listed at in-counts,
            one_at_zero_of_more (get_or (set missing at left) at 0) (omega (arith, same)),
            one_at_zero_of_more (get_or missing at 0) (omega arith),
          )))
          (λ (ne : at ≡ node → ⊥). omega (
            arith,
            r.listed node h,
            ap one_at_zero (get_or-set_other missing at node left 0 (λ e. ne (sym e))),
          ))
          (cases_eq at node);
    } in
    subst (λ ms. P ms ready') (sym missing-is) (subst (λ rs. P (set missing at left) rs)
    (sym ready-is) made)

-- nodes get ranks once all that follow them have one
pub record Peeling (graph : Graph) (ranks missing ready : List ℕ) : Type 0 where
  pub for_ranks : length ranks ≡ node_count graph
  pub for_missing : length missing ≡ node_count graph
  pub within : All (λ node. node < node_count graph) ready
  pub counted : (node : ℕ) → node < node_count graph
      → get_or missing node 0 ≡ count_by (λ after. get_or ranks after 0 == 0)
      (successors graph node)
  pub listed : (node : ℕ) → node < node_count graph
      → count_of ready node + 1 ≡ one_at_zero (get_or missing node 0)
      + one_at_zero (get_or ranks node 0)
  pub ranked : Ranked graph (λ node. get_or ranks node 0)
  pub bound : (node : ℕ) → get_or ranks node 0 + count_by (λ rank. rank == 0) ranks
      ≤ node_count graph

pub Peeling-start : (graph : Graph) (ranks missing ready : List ℕ) (n : ℕ) → n ≡ node_count graph
    → ranks ≡ replicate n 0 → length missing ≡ node_count graph
    → ((node : ℕ) → get_or missing node 0 ≡ length (successors graph node))
    → All (λ x. x < length missing) ready
    → ((node : ℕ) → node < length missing
    → count_of ready node ≡ one_at_zero (get_or missing node 0)) → Peeling graph ranks missing ready
Peeling-start graph ranks missing ready n n-is ranks-is len counts within listed =
    let zero_at : (x : ℕ) → get_or ranks x 0 ≡ 0 =
    λ x. ap (λ xs. get_or xs x 0) ranks-is ∙ ⊎_elim
    (λ (lt : x < n). get_or-replicate n x 0 0 lt)
    (λ (past : n ≤ x). get_or_past (replicate n 0) x 0
    (omega (arith, length-replicate {A = ℕ} n 0))) (cases_lt x n) in
    let n-ranks : length ranks ≡ node_count graph =
    ap length ranks-is ∙ length-replicate {A = ℕ} n 0 ∙ n-is in
    record {
      for_ranks = n-ranks;
      for_missing = len;
      within = All-weaker (λ x. x < length missing) (λ x. x < node_count graph)
          (λ x h. omega (arith, h, len)) ready within;
      counted = λ node h. counts node ∙ sym (count_by_all (λ after. eqb (get_or ranks after 0) 0)
          (λ x. eq-eqb (get_or ranks x 0) 0 (zero_at x)) (successors graph node));
      listed = λ node h. omega (
        arith,
        listed node (omega (arith, h, len)),
        one_at_zero_of_zero (get_or ranks node 0) (zero_at node),
      );
      ranked = λ node h. absurd (omega (arith, h, zero_at node));
      bound = λ node. omega (
        arith,
        zero_at node,
        count_by-le-length (λ rank. eqb rank 0) ranks,
        n-ranks,
      );
    }

-- what is taken from the list has no rank, and all that follow it have one
pub record Popped (graph : Graph) (ranks : List ℕ) (node : ℕ) : Type 0 where
  pub is_node : node < node_count graph
  pub unranked : get_or ranks node 0 ≡ 0
  pub follow : (after : ℕ) → HasEdge graph node after → 1 ≤ get_or ranks after 0
  pub left : 1 ≤ count_by (λ rank. rank == 0) ranks

pub Peeling-popped : (graph : Graph) (ranks missing ready rest : List ℕ) (node : ℕ)
    → Peeling graph ranks missing ready → ready ≡ rest ++ node ∷ [] → Popped graph ranks node
Peeling-popped graph ranks missing ready rest node p is =
    let has : Contains ready node = let P : List ℕ
    → Type 0 = λ xs. Contains xs node in subst P (sym is) (Contains-push rest node) in
    let is_node = All-contains (λ x. x < node_count graph) ready node p.within has in
    let counts = ap (λ xs. count_of xs node) is in
    let listed = p.listed node is_node in
    let unranked : get_or ranks node 0 ≡ 0 =
    zero_from_one (get_or ranks node 0) (omega (
      arith,
      counts,
      count_of-push_same rest node node refl,
      listed,
      one_at_zero-le (get_or missing node 0),
    )) in
    let none : get_or missing node 0 ≡ 0 =
    zero_from_one (get_or missing node 0) (omega (
      arith,
      counts,
      count_of-push_same rest node node refl,
      listed,
      one_at_zero-le (get_or ranks node 0),
    )) in
    record {
      is_node = is_node;
      unranked = unranked;
      follow = λ after edge. more (get_or ranks after 0)
          (fails_from_none (λ x. eqb (get_or ranks x 0) 0) (successors graph node)
          (sym (p.counted node is_node) ∙ none) after edge);
      left = omega (
        arith,
        count_by-zero-list ranks node 1 (omega (arith, p.for_ranks)) unranked
            (omega arith),
      );
    }
  where
    more : (n : ℕ) → eqb n 0 ≡ false → 1 ≤ n
    more n fails = ⊎_elim (λ (h : n < 1). absurd (eqb-false n 0 fails (omega arith)))
        (λ (h : 1 ≤ n). h) (cases_lt n 1)

-- each edge that leads to the node is still counted
pub Peeling-enough : (graph turned : Graph) (ranks missing ready : List ℕ) (node : ℕ)
    → Peeling graph ranks missing ready → IsReversed graph turned → Popped graph ranks node
    → (before : ℕ) → before < node_count graph
    → count_of (successors turned node) before ≤ get_or missing before 0
Peeling-enough graph turned ranks missing ready node p r popped before lt =
    omega (
      arith,
      p.counted before lt,
      r.same_edges node before,
      count_by-zero-set ranks node 1 (omega (arith, popped.is_node, p.for_ranks)) popped.unranked
          (omega arith) (successors graph before),
    )

ranked_more : (graph : Graph) (ranks : List ℕ) (node rank : ℕ)
    → Ranked graph (λ x. get_or ranks x 0) → Popped graph ranks node → node < length ranks
    → All (λ after. get_or ranks after 0 < rank) (successors graph node)
    → (rank ≡ 1) ⊎ ((after : ℕ) × Contains (successors graph node) after
    × (rank ≡ get_or ranks after 0 + 1)) → Ranked graph (λ x. get_or (set ranks node rank) x 0)
ranked_more graph ranks node rank ranked popped lt above reached =
    let kept : (x : ℕ) → 1 ≤ get_or ranks x 0
    → get_or (set ranks node rank) x 0 ≡ get_or ranks x 0 =
    λ x h. get_or-set_other ranks node x rank 0
    (λ (e : x ≡ node). absurd (omega (arith, popped.unranked, ap (λ y. get_or ranks y 0) e))) in
    let here : get_or (set ranks node rank) node 0 ≡ rank = get_or-set_same ranks node rank 0 lt in
    λ x h.
    ⊎_elim
    (λ (e : node ≡ x).
    let P : ℕ → Type 0 = λ x. ((after : ℕ) → HasEdge graph x after
    → (1 ≤ get_or (set ranks node rank) after 0)
    × (get_or (set ranks node rank) after 0 < get_or (set ranks node rank) x 0))
    × ((get_or (set ranks node rank) x 0 ≡ 1) ⊎ ((after : ℕ) × HasEdge graph x after
    × (get_or (set ranks node rank) x 0 ≡ get_or (set ranks node rank) after 0 + 1))) in
    let made : P node = (
      λ after edge. let follow = popped.follow after edge in (
        omega (arith, kept after follow, follow),
        omega (
          arith,
          kept after follow,
          here,
          All-contains (λ y. get_or ranks y 0 < rank) (successors graph node) after above edge,
        ),
      ),
      ⊎_elim
          (λ (one : rank ≡ 1). inl (here ∙ one))
          (λ (more : (after : ℕ) × Contains (successors graph node) after
          × (rank ≡ get_or ranks after 0 + 1)). inr (
            more.0,
            more.1,
            omega (
              arith,
              here,
              more.2,
              kept more.0 (popped.follow more.0 more.1),
            ),
          ))
          reached,
    ) in
    subst P e made)
    (λ (ne : node ≡ x → ⊥).
    let same = get_or-set_other ranks node x rank 0 (λ e. ne (sym e)) in
    let old = ranked x (omega (arith, same, h)) in (
      λ after edge. let down = old.0 after edge in (
        omega (arith, kept after down.0, down.0),
        omega (arith, kept after down.0, same, down.1),
      ),
      ⊎_elim
          (λ (one : get_or ranks x 0 ≡ 1). inl (same ∙ one))
          (λ (more : (after : ℕ) × HasEdge graph x after
          × (get_or ranks x 0 ≡ get_or ranks after 0 + 1)). inr
          (more.0, more.1, omega (arith, same, more.2, kept more.0 (old.0 more.0 more.1).0)))
          old.1,
    ))
    (cases_eq node x)

pub Peeling-step : (graph turned : Graph) (ranks missing ready rest missing' ready' ranks' : List ℕ)
    (node rank : ℕ) → Peeling graph ranks missing ready → IsReversed graph turned
    → ready ≡ rest ++ node ∷ [] → All (λ after. get_or ranks after 0 < rank) (successors graph node)
    → (rank ≡ 1) ⊎ ((after : ℕ) × Contains (successors graph node) after
    × (rank ≡ get_or ranks after 0 + 1)) → ranks' ≡ set ranks node rank
    → length missing' ≡ length missing → All (λ x. x < length missing) ready'
    → ((x : ℕ) → x < length missing → get_or missing' x 0 + count_of (successors turned node) x
    ≡ get_or missing x 0) → ((x : ℕ) → x < length missing
    → count_of ready' x + one_at_zero (get_or missing x 0) ≡ count_of rest x
    + one_at_zero (get_or missing' x 0)) → Peeling graph ranks' missing' ready'
Peeling-step graph turned ranks missing ready rest missing' ready' ranks' node rank p r is above
    reached ranks-is len within less listed =
    let popped = Peeling-popped graph ranks missing ready rest node p is in
    let lt : node < length ranks = omega (arith, popped.is_node, p.for_ranks) in
    let unranked = popped.unranked in
    let positive : 1 ≤ rank = ⊎_elim (λ (one : rank ≡ 1). omega arith)
    (λ (more : (after : ℕ) × Contains (successors graph node) after
    × (rank ≡ get_or ranks after 0 + 1)). omega (arith, more.2)) reached in
    let here = get_or-set_same ranks node rank 0 lt in
    let fewer = count_by-zero-list ranks node rank lt unranked positive in
    let P : List ℕ → Type 0 = λ rs. Peeling graph rs missing' ready' in
    let made : P (set ranks node rank) = record {
      for_ranks = length-set ranks node rank ∙ p.for_ranks;
      for_missing = len ∙ p.for_missing;
      within = All-weaker (λ x. x < length missing) (λ x. x < node_count graph)
          (λ x h. omega (arith, h, p.for_missing)) ready' within;
      counted = λ x h. omega (
        arith,
        less x (omega (arith, h, p.for_missing)),
        r.same_edges node x,
        p.counted x h,
        count_by-zero-set ranks node rank lt unranked positive
            (successors graph x),
      );
      listed = λ x h.
          let old = p.listed x h in
          let new = listed x (omega (arith, h, p.for_missing)) in
          let counts = ap (λ xs. count_of xs x) is in
          ⊎_elim
          (λ (e : node ≡ x).
          let none : get_or ranks x 0 ≡ 0 = ap (λ y. get_or ranks y 0) (sym e) ∙ unranked in
          let set' : get_or (set ranks node rank) x 0 ≡ rank =
          ap (λ y. get_or (set ranks node rank) y 0) (sym e) ∙ here in
          omega (
            arith,
            old,
            new,
            counts,
            count_of-push_same rest node x e,
            one_at_zero_of_zero (get_or ranks x 0) none,
            one_at_zero-le (get_or missing x 0),
            one_at_zero_of_more (get_or (set ranks node rank) x 0)
                (omega (arith, set', positive)),
          ))
          (λ (ne : node ≡ x → ⊥). omega (
            arith,
            old,
            new,
            counts,
            count_of-push_other rest node x ne,
            ap one_at_zero (get_or-set_other ranks node x rank 0 (λ e. ne (sym e))),
          ))
          (cases_eq node x);
      ranked = ranked_more graph ranks node rank p.ranked popped lt above reached;
      bound = λ x.
          ⊎_elim
          (λ (e : node ≡ x).
          let set' : get_or (set ranks node rank) x 0 ≡ rank =
          ap (λ y. get_or (set ranks node rank) y 0) (sym e) ∙ here in
          ⊎_elim
          (λ (one : rank ≡ 1). omega (arith, set', one, fewer, p.bound node, unranked))
          (λ (more : (after : ℕ) × Contains (successors graph node) after
          × (rank ≡ get_or ranks after 0 + 1)). omega (arith, set', more.2, fewer, p.bound more.0))
          reached)
          (λ (ne : node ≡ x → ⊥). omega (
            arith,
            get_or-set_other ranks node x rank 0 (λ e. ne (sym e)),
            fewer,
            p.bound x,
          ))
          (cases_eq node x);
    } in
    subst P (sym ranks-is) made

pub Peeling-left : (graph : Graph) (ranks missing ready : List ℕ)
    → Peeling graph ranks missing ready → length ready ≡ 0 → (node : ℕ) → node < node_count graph
    → get_or ranks node 0 ≡ 0 → (after : ℕ) × HasEdge graph node after × (get_or ranks after 0 ≡ 0)
Peeling-left graph ranks missing ready p done node lt none =
    let empty : count_of ready node ≤ length ready =
    count_by-le-length (λ other. eqb other node) ready in
    let some = more_from_none (get_or missing node 0)
    (omega (
      arith,
      p.listed node lt,
      empty,
      done,
      one_at_zero_of_zero (get_or ranks node 0) none,
    )) in
    let found = contained_from_count_by (λ after. eqb (get_or ranks after 0) 0)
    (successors graph node) (omega (arith, some, p.counted node lt)) in
    (found.0, found.1, eqb-true (get_or ranks found.0 0) 0 found.2)
