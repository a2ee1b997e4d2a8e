use Rattle.std.proofs.Common.{◌≡◌, ◌+◌, ◌-◌, ◌<◌, ◌≤◌, ◌↔◌, ◌⊎◌, ◌++◌, ◌∷◌, [], ℕ, zero, suc, Bool}
use Rattle.std.proofs.Common.{false, List, length, get_or, set, take, All, Contains, refl, sym, ap}
use Rattle.std.proofs.Common.{◌∙◌, subst, inl, inr, ⊎_elim, arith}
use Rattle.std.proofs.lemmas.Bool.{cases_eq, cases_lt, false≢true}
use Rattle.std.proofs.lemmas.List.{get_or_append_left, get_or-append_right, get_or-set_same}
use Rattle.std.proofs.lemmas.List.{get_or-set_other, length-append, length-set, take-append-le}
use Rattle.std.proofs.lemmas.List.{take_at}
use Rattle.std.proofs.lemmas.List.Elements.{All-contains, Contains-append_left}
use Rattle.dg_num.specs.declared.graph.Graph.{Graph}
use Rattle.dg_num.specs.Counts.{count_of, IsReversed}
use Rattle.dg_num.specs.Graph.{node_count, successors, HasEdge, IsSound}
use Rattle.dg_num.specs.Walks.{Walk, Leads, IsTrueAt}
use Rattle.dg_num.proofs.Counts.{contained_from_count_of, one_place, place_in_front}
use Rattle.dg_num.proofs.Counts.{contained_in_front, place_of, contained_at}
use Rattle.dg_num.proofs.Marks.{marked_within}
use Rattle.dg_num.proofs.Rows.{HasEdge-back}
use Rattle.dg_num.proofs.WalkLaws.{Leads-trans}

-- a walk past none of the old nodes
abbrev pub FreshWalk : Graph → List ℕ → ℕ → ℕ → ℕ → Type 0
FreshWalk graph old zero a b = (Contains old a → ⊥) × (a ≡ b)
FreshWalk graph old (suc edges) a b = (Contains old a → ⊥)
    × ((c : ℕ) × HasEdge graph a c × FreshWalk graph old edges c b)

fresh_start : (graph : Graph) (old : List ℕ) (edges a b : ℕ) → FreshWalk graph old edges a b
    → Contains old a → ⊥
fresh_start graph old zero a b walk = walk.0
fresh_start graph old (suc edges) a b walk = walk.0

fresh_walk : (graph : Graph) (old : List ℕ) (edges a b : ℕ) → FreshWalk graph old edges a b
    → Walk (successors graph) edges a b
fresh_walk graph old zero a b walk = walk.1
fresh_walk graph old (suc edges) a b walk =
    (walk.1.0, walk.1.1, fresh_walk graph old edges walk.1.0 b walk.1.2)

-- what a search in depth leaves behind
pub record Finished (graph : Graph) (order : List ℕ) : Type 0 where
  pub nodes : All (λ node. node < node_count graph) order
  pub each : (node : ℕ) → node < node_count graph → count_of order node ≡ 1
  pub edges : (i k after : ℕ) → i ≤ k → k < length order → HasEdge graph (get_or order i 0) after
      → Contains (take (k + 1) order) after ⊎ Leads (successors graph) after (get_or order k 0)

node_place : (graph : Graph) (order : List ℕ) → Finished graph order → (node : ℕ)
    → node < node_count graph → (k : ℕ) × (k < length order) × (get_or order k 0 ≡ node)
node_place graph order f node lt = place_of order node
    (contained_from_count_of order node (omega (arith, f.each node lt)))

-- a walk to the last of the nodes that are not old leads back from it to each of those that are
-- done no later
leads_back : (graph : Graph) (order old : List ℕ) (j : ℕ) → IsSound graph → Finished graph order
    → j < length order → ((k : ℕ) → j < k → k < length order → Contains old (get_or order k 0))
    → (edges x i k : ℕ) → i ≤ k → k ≤ j → get_or order i 0 ≡ x
    → FreshWalk graph old edges x (get_or order j 0)
    → Leads (successors graph) (get_or order j 0) (get_or order k 0)
leads_back graph order old j sound f in-order behind zero x i k ik kj at walk =
    let r = get_or order j 0 in
    let r-lt : r < node_count graph = f.nodes j 0 in-order in
    let same : i ≡ j = one_place order r i j (f.each r r-lt) (omega arith) in-order
    (at ∙ walk.1) refl in
    let jk : j ≡ k = omega (arith, same, ik, kj) in
    (0, ap (λ y. get_or order y 0) jk)
leads_back graph order old j sound f in-order behind (suc edges) x i k ik kj at walk =
    let c = walk.1.0 in
    let E : ℕ → Type 0 = λ y. HasEdge graph y c in
    ⊎_elim
    (λ (has : Contains (take (k + 1) order) c).
    let q = place_in_front order (k + 1) c has in
    leads_back graph order old j sound f in-order behind edges c q.0 k
    (omega (arith, q.1)) kj q.3 walk.1.2)
    (λ (leads : Leads (successors graph) c (get_or order k 0)).
    let p = node_place graph order f c (sound.in_range x c walk.1.1) in
    let pj : p.0 ≤ j = ⊎_elim (λ (past : j < p.0). let Q : ℕ
    → Type 0 = λ y. Contains old y in
    absurd (fresh_start graph old edges c (get_or order j 0) walk.1.2
    (subst Q p.2 (behind p.0 past p.1)))) (λ (le : p.0 ≤ j). le) (cases_lt j p.0) in
    let to-c = leads_back graph order old j sound f in-order behind edges c p.0 p.0
    (omega arith) pj p.2 walk.1.2 in
    let L : ℕ → Type 0 = λ y. Leads (successors graph) (get_or order j 0) y in
    Leads-trans graph (get_or order j 0) c (get_or order k 0) (subst L p.2 to-c) leads)
    (f.edges i k c ik (omega (arith, kj, in-order)) (subst E (sym at) walk.1.1))

-- the nodes of the queue before `start` have their numbers, and those from there on belong to one
-- component, whose
-- nodes before `next` have been looked at
pub record Numbering (graph turned : Graph) (order old : List ℕ) (marks : List Bool)
    (queue numbers : List ℕ) (next start root : ℕ) : Type 0 where
  pub old_is : take start queue ≡ old
  pub for_marks : length marks ≡ node_count graph
  pub for_numbers : length numbers ≡ node_count graph
  pub marked : (v : ℕ) → IsTrueAt marks v ↔ Contains queue v
  pub start_le : start ≤ next
  pub next_le : next ≤ length queue
  pub root_le : root ≤ length order
  pub some_root : start < length queue → root < length order
  pub fresh : (k : ℕ) → start ≤ k → k < length queue → Contains old (get_or queue k 0) → ⊥
  pub behind : (k : ℕ) → root < k → k < length order → Contains old (get_or order k 0)
  pub rooted : root < length order → Contains queue (get_or order root 0)
  pub current : (k : ℕ) → start ≤ k → k < length queue
      → (edges : ℕ) × FreshWalk graph old edges (get_or queue k 0) (get_or order root 0)
  pub looked : (k a : ℕ) → k < next → HasEdge turned (get_or queue k 0) a → Contains queue a
  pub closed : (b a : ℕ) → Contains old b → HasEdge turned b a → Contains old a
  pub below : (a : ℕ) → Contains old a → get_or numbers a 0 < start
  pub now : (k : ℕ) → start ≤ k → k < next → get_or numbers (get_or queue k 0) 0 ≡ start
  pub edges : (b a : ℕ) → Contains old b → HasEdge turned b a
      → get_or numbers a 0 ≤ get_or numbers b 0
  pub same : (a b : ℕ) → Contains old a → Contains old b → get_or numbers a 0 ≡ get_or numbers b 0
      → Leads (successors graph) a b

pub Numbering-start : (graph turned : Graph) (order : List ℕ) (marks : List Bool)
    (queue numbers : List ℕ) (root : ℕ) → length marks ≡ node_count graph
    → length numbers ≡ node_count graph → ((v : ℕ) → get_or marks v false ≡ false) → queue ≡ []
    → root ≡ length order → Numbering graph turned order (take 0 queue) marks queue numbers 0 0 root
Numbering-start graph turned order marks queue numbers root n-marks n-numbers none empty root-is =
    let nothing : length queue ≡ 0 = ap length empty in
    let no : (v : ℕ) → Contains [] v → ⊥ = λ v has. omega (arith, has.1) in
    record {
      old_is = refl;
      for_marks = n-marks;
      for_numbers = n-numbers;
      marked = λ v. (
        λ yes. absurd (false≢true (sym (none v) ∙ yes)),
        λ has. absurd (omega (arith, has.1, nothing)),
      );
      start_le = omega arith;
      next_le = omega arith;
      root_le = omega arith;
      some_root = λ lt. absurd (omega arith);
      fresh = λ k le lt. absurd (omega (arith, lt, nothing));
      behind = λ k lt h. absurd (omega (arith, lt, h, root-is));
      rooted = λ lt. absurd (omega arith);
      current = λ k le lt. absurd (omega (arith, lt, nothing));
      looked = λ k a lt edge. absurd (omega (arith, lt));
      closed = λ b a has edge. absurd (no b has);
      below = λ a has. absurd (no a has);
      now = λ k le lt. absurd (omega (arith, lt));
      edges = λ b a has edge. absurd (no b has);
      same = λ a b has. absurd (no a has);
    }

-- the old nodes stand in the queue
old_in_queue : (start : ℕ) (old queue : List ℕ) → take start queue ≡ old → (v : ℕ) → Contains old v
    → Contains queue v
old_in_queue start old queue is v has =
    let P : List ℕ → Type 0 = λ xs. Contains xs v in
    let place = place_in_front queue start v (subst P (sym is) has) in
    contained_at queue place.0 v place.2 place.3

-- a node of the queue is old, or stands from `start` on
old_or_new : (start : ℕ) (old queue : List ℕ) → take start queue ≡ old → (v : ℕ) → Contains queue v
    → Contains old v ⊎ ((k : ℕ) × (start ≤ k) × (k < length queue) × (get_or queue k 0 ≡ v))
old_or_new start old queue is v has =
    let P : List ℕ → Type 0 = λ xs. Contains xs v in
    let place = place_of queue v has in
    ⊎_elim
    (λ (lt : place.0 < start). inl (subst P is (contained_in_front queue start place.0 v lt place.1
    place.2)))
    (λ (le : start ≤ place.0). inr (place.0, le, place.1, place.2))
    (cases_lt place.0 start)

pub Numbering-look : (graph turned : Graph) (order old : List ℕ) (marks marks' : List Bool)
    (queue queue' added numbers numbers' row : List ℕ) (next start root node : ℕ)
    → IsReversed graph turned → Numbering graph turned order old marks queue numbers next start root
    → next < length queue → get_or queue next 0 ≡ node → numbers' ≡ set numbers node start
    → row ≡ successors turned node → length marks' ≡ length marks
    → ((v : ℕ) → IsTrueAt marks' v ↔ Contains queue' v) → queue' ≡ queue ++ added
    → All (Contains row) added → All (λ v. IsTrueAt marks v → ⊥) added → All (IsTrueAt marks') row
    → Numbering graph turned order (take start queue') marks' queue' numbers' (next + 1) start root
Numbering-look graph turned order old marks marks' queue queue' added numbers numbers' row next
    start root node r n lt node-is numbers-is row-is len marked' queue-is among unmarked all =
    let q = length queue in
    let long : length queue' ≡ q + length added = ap length queue-is ∙ length-append queue added in
    let front : (k : ℕ) → k < q → get_or queue' k 0 ≡ get_or queue k 0 =
    λ k h. ap (λ xs. get_or xs k 0) queue-is ∙ get_or_append_left queue added 0 k h in
    let new : (k : ℕ) → q ≤ k → k < length queue'
    → Contains added (get_or queue' k 0) =
    λ k le h. contained_at added (k - q) (get_or queue' k 0) (omega (arith, le, h, long))
    (sym (ap (λ xs. get_or xs k 0) queue-is ∙ get_or-append_right queue added q k 0 refl le)) in
    let grows : (v : ℕ) → Contains queue v → Contains queue' v = λ v has. let P : List ℕ
    → Type 0 = λ xs. Contains xs v in
    subst P (sym queue-is) (Contains-append_left queue added v has) in
    let node-marked : IsTrueAt marks node =
    (n.marked node).1 (contained_at queue next node lt node-is) in
    let in-numbers : node < length numbers =
    omega (arith, marked_within marks node node-marked, n.for_marks, n.for_numbers) in
    let node-fresh : Contains old node → ⊥ = let P : ℕ → Type 0 = λ x. Contains old x
    → ⊥ in subst P node-is (n.fresh next n.start_le lt) in
    let kept : (v : ℕ) → Contains old v → get_or numbers' v 0 ≡ get_or numbers v 0 =
    λ v has. ap (λ xs. get_or xs v 0) numbers-is
    ∙ get_or-set_other numbers node v start 0 (λ (e : v ≡ node). let P : ℕ
    → Type 0 = λ x. Contains old x in node-fresh (subst P e has)) in
    let written : get_or numbers' node 0 ≡ start =
    ap (λ xs. get_or xs node 0) numbers-is ∙ get_or-set_same numbers node start 0 in-numbers in
    let old-is : take start queue' ≡ old =
    ap (take start) queue-is ∙ take-append-le start queue added
    (omega (arith, n.start_le, n.next_le)) ∙ n.old_is in
    let N : List ℕ → Type 0 = λ os. Numbering graph turned order os marks' queue' numbers'
    (next + 1) start root in
    let made : N old = record {
      old_is = old-is;
      for_marks = len ∙ n.for_marks;
      for_numbers = ap length numbers-is ∙ length-set numbers node start ∙ n.for_numbers;
      marked = marked';
      start_le = omega (arith, n.start_le);
      next_le = omega (arith, lt, long);
      root_le = n.root_le;
      some_root = λ h. n.some_root (omega (arith, lt, n.start_le));
      fresh = λ k le h has.
          ⊎_elim
          (λ (before : k < q). let P : ℕ
          → Type 0 = λ x. Contains old x in n.fresh k le before (subst P (front k before) has))
          (λ (past : q ≤ k). All-contains (λ v. IsTrueAt marks v → ⊥) added
          (get_or queue' k 0) unmarked (new k past h)
          ((n.marked (get_or queue' k 0)).1 (old_in_queue start old queue n.old_is
          (get_or queue' k 0) has)))
          (cases_lt k q);
      behind = n.behind;
      rooted = λ h. grows (get_or order root 0) (n.rooted h);
      current = λ k le h.
          ⊎_elim
          (λ (before : k < q). let P : ℕ
          → Type 0 = λ x. (edges : ℕ) × FreshWalk graph old edges x (get_or order root 0) in
          subst P (sym (front k before)) (n.current k le before))
          (λ (past : q ≤ k).
          let v = get_or queue' k 0 in
          let in-row : Contains row v = All-contains (Contains row) added v among (new k past h) in
          let P : List ℕ → Type 0 = λ xs. Contains xs v in
          let edge : HasEdge graph v node =
          HasEdge-back graph turned r v node (subst P row-is in-row) in
          let v-fresh : Contains old v → ⊥ =
          λ has. All-contains (λ v. IsTrueAt marks v → ⊥) added v unmarked (new k past h)
          ((n.marked v).1 (old_in_queue start old queue n.old_is v has)) in
          let walk = n.current next n.start_le lt in
          let F : ℕ → Type 0 = λ x. FreshWalk graph old walk.0 x (get_or order root 0) in
          (suc walk.0, (v-fresh, (node, edge, subst F node-is walk.1))))
          (cases_lt k q);
      looked = λ k a h edge.
          let E : ℕ → Type 0 = λ x. HasEdge turned x a in
          ⊎_elim
          (λ (before : k < next). grows a (n.looked k a before
          (subst E (front k (omega (arith, before, lt))) edge)))
          (λ (at : next ≤ k).
          let ek : k ≡ next = omega (arith, at, h) in
          let is-node : get_or queue' k 0 ≡ node =
          front k (omega (arith, ek, lt)) ∙ ap (λ x. get_or queue x 0) ek ∙ node-is in
          let P : List ℕ → Type 0 = λ xs. Contains xs a in
          (marked' a).0 (All-contains (IsTrueAt marks') row a all
          (subst P (sym row-is) (subst E is-node edge))))
          (cases_lt k next);
      closed = n.closed;
      below = λ a has. omega (arith, n.below a has, kept a has);
      now = λ k le h.
          ⊎_elim
          (λ (e : node ≡ get_or queue' k 0). ap (λ x. get_or numbers' x 0) (sym e) ∙ written)
          (λ (ne : node ≡ get_or queue' k 0 → ⊥).
          ⊎_elim
          (λ (before : k < next). ap (λ xs. get_or xs (get_or queue' k 0) 0) numbers-is
          ∙ get_or-set_other numbers node (get_or queue' k 0) start 0 (λ e. ne (sym e))
          ∙ ap (λ x. get_or numbers x 0) (front k (omega (arith, before, lt)))
          ∙ n.now k le before)
          (λ (at : next ≤ k). let ek : k ≡ next = omega (arith, at, h) in
          absurd (ne (sym (front k (omega (arith, ek, lt)) ∙ ap (λ x. get_or queue x 0) ek
          ∙ node-is))))
          (cases_lt k next))
          (cases_eq node (get_or queue' k 0));
      edges = λ b a has edge. omega (
        arith,
        n.edges b a has edge,
        kept b has,
        kept a (n.closed b a has edge),
      );
      same = λ a b ha hb e. n.same a b ha hb (sym (kept a ha) ∙ e ∙ kept b hb);
    } in
    subst N (sym old-is) made

-- once all nodes of the queue have been looked at
pub record Numbered (graph turned : Graph) (queue numbers : List ℕ) : Type 0 where
  pub closed : (b a : ℕ) → Contains queue b → HasEdge turned b a → Contains queue a
  pub below : (a : ℕ) → Contains queue a → get_or numbers a 0 < length queue
  pub edges : (b a : ℕ) → Contains queue b → HasEdge turned b a
      → get_or numbers a 0 ≤ get_or numbers b 0
  pub same : (a b : ℕ) → Contains queue a → Contains queue b
      → get_or numbers a 0 ≡ get_or numbers b 0 → Leads (successors graph) a b

pub Numbered-component : (graph turned : Graph) (order old : List ℕ) (marks : List Bool)
    (queue numbers : List ℕ) (next start root : ℕ) → IsSound graph → Finished graph order
    → Numbering graph turned order old marks queue numbers next start root → length queue ≤ next
    → Numbered graph turned queue numbers
Numbered-component graph turned order old marks queue numbers next start root sound f n done =
    let New : ℕ → Type 0 = λ v. (k : ℕ) × (start ≤ k) × (k < length queue)
    × (get_or queue k 0 ≡ v) in
    let place : (v : ℕ) → Contains queue v
    → Contains old v ⊎ New v = old_or_new start old queue n.old_is in
    let number : (v : ℕ) → New v → get_or numbers v 0 ≡ start =
    λ v w. ap (λ x. get_or numbers x 0) (sym w.3) ∙ n.now w.0 w.1 (omega (arith, w.2, done)) in
    let closed : (b a : ℕ) → Contains queue b → HasEdge turned b a
    → Contains queue a = λ b a has edge. let p = place_of queue b has in let E : ℕ
    → Type 0 = λ x. HasEdge turned x a in
    n.looked p.0 a (omega (arith, p.1, done)) (subst E (sym p.2) edge) in
    let root-node = get_or order root 0 in
    record {
      closed = closed;
      below = λ a has. ⊎_elim (λ (o : Contains old a).
          omega (arith, n.below a o, n.start_le, n.next_le))
          (λ (w : New a). omega (arith, number a w, w.1, w.2)) (place a has);
      edges = λ b a has edge.
          ⊎_elim
          (λ (o : Contains old b). n.edges b a o edge)
          (λ (w : New b). ⊎_elim (λ (oa : Contains old a). omega (arith, n.below a oa, number b w))
          (λ (wa : New a). omega (arith, number a wa, number b w))
          (place a (closed b a has edge)))
          (place b has);
      same = λ a b ha hb e.
          ⊎_elim
          (λ (oa : Contains old a).
          ⊎_elim
          (λ (ob : Contains old b). n.same a b oa ob e)
          (λ (wb : New b). absurd (omega (arith, e, n.below a oa, number b wb)))
          (place b hb))
          (λ (wa : New a).
          ⊎_elim
          (λ (ob : Contains old b). absurd (omega (arith, e, n.below b ob, number a wa)))
          (λ (wb : New b).
          let F : ℕ → Type 0 = λ x. (edges : ℕ) × FreshWalk graph old edges x root-node in
          let from-a = subst F wa.3 (n.current wa.0 wa.1 wa.2) in
          let from-b = subst F wb.3 (n.current wb.0 wb.1 wb.2) in
          let in-order : root < length order = n.some_root (omega (arith, wb.1, wb.2)) in
          let b-lt : b < node_count graph =
          omega (arith, marked_within marks b ((n.marked b).1 hb), n.for_marks) in
          let p = node_place graph order f b b-lt in
          let P : ℕ → Type 0 = λ x. Contains old x in
          let pr : p.0 ≤ root = ⊎_elim (λ (past : root < p.0).
          absurd (fresh_start graph old from-b.0 b root-node from-b.1
          (subst P p.2 (n.behind p.0 past p.1)))) (λ (le : p.0 ≤ root). le)
          (cases_lt root p.0) in
          let back = leads_back graph order old root sound f in-order n.behind from-b.0 b p.0 p.0
          (omega arith) pr p.2 from-b.1 in
          let L : ℕ → Type 0 = λ x. Leads (successors graph) root-node x in
          Leads-trans graph a root-node b (
            from-a.0,
            fresh_walk graph old from-a.0 a root-node from-a.1,
          ) (subst L p.2 back))
          (place b hb))
          (place a ha);
    }

pub Numbering-next : (graph turned : Graph) (order old : List ℕ) (marks marks' : List Bool)
    (queue queue' added numbers row : List ℕ) (next start root root' start' : ℕ) → IsSound graph
    → Finished graph order → Numbering graph turned order old marks queue numbers next start root
    → length queue ≤ next → root' + 1 ≡ root → start' ≡ length queue
    → row ≡ get_or order root' 0 ∷ [] → length marks' ≡ length marks
    → ((v : ℕ) → IsTrueAt marks' v ↔ Contains queue' v) → queue' ≡ queue ++ added
    → All (Contains row) added → All (λ v. IsTrueAt marks v → ⊥) added → All (IsTrueAt marks') row
    → Numbering graph turned order (take start' queue') marks' queue' numbers next start' root'
Numbering-next graph turned order old marks marks' queue queue' added numbers row next start root
    root' start' sound f n done root-is start-is row-is len marked' queue-is among unmarked all =
    let whole = Numbered-component graph turned order old marks queue numbers next start root sound
    f n done in
    let q = length queue in
    let r = get_or order root' 0 in
    let long : length queue' ≡ q + length added = ap length queue-is ∙ length-append queue added in
    let front : (k : ℕ) → k < q → get_or queue' k 0 ≡ get_or queue k 0 =
    λ k h. ap (λ xs. get_or xs k 0) queue-is ∙ get_or_append_left queue added 0 k h in
    let new : (k : ℕ) → q ≤ k → k < length queue'
    → Contains added (get_or queue' k 0) =
    λ k le h. contained_at added (k - q) (get_or queue' k 0) (omega (arith, le, h, long))
    (sym (ap (λ xs. get_or xs k 0) queue-is ∙ get_or-append_right queue added q k 0 refl le)) in
    let grows : (v : ℕ) → Contains queue v → Contains queue' v = λ v has. let P : List ℕ
    → Type 0 = λ xs. Contains xs v in
    subst P (sym queue-is) (Contains-append_left queue added v has) in
    let fresh : (v : ℕ) → Contains added v → Contains queue v
    → ⊥ = λ v a has. All-contains (λ v. IsTrueAt marks v → ⊥) added v unmarked a
    ((n.marked v).1 has) in
    let old-is : take start' queue' ≡ queue =
    ap (take start') queue-is ∙ take_at queue added start' (sym start-is) in
    let in-queue : (v : ℕ) → Contains old v
    → Contains queue v = old_in_queue start old queue n.old_is in
    let N : List ℕ → Type 0 = λ os. Numbering graph turned order os marks' queue' numbers next
    start' root' in
    let made : N queue = record {
      old_is = old-is;
      for_marks = len ∙ n.for_marks;
      for_numbers = n.for_numbers;
      marked = marked';
      start_le = omega (arith, done, start-is);
      next_le = omega (arith, n.next_le, long);
      root_le = omega (arith, n.root_le, root-is);
      some_root = λ h. omega (arith, n.root_le, root-is);
      fresh = λ k le h. fresh (get_or queue' k 0) (new k (omega (arith, le, start-is)) h);
      behind = λ k lt h.
          let P : ℕ → Type 0 = λ x. Contains queue (get_or order x 0) in
          ⊎_elim
          (λ (past : root < k). in-queue (get_or order k 0) (n.behind k past h))
          (λ (at : k ≤ root). let ek : root ≡ k = omega (arith, at, lt, root-is) in
          subst P ek (n.rooted (omega (arith, ek, h))))
          (cases_lt root k);
      rooted = λ h. (marked' r).0 (All-contains (IsTrueAt marks') row r all
          (let P : List ℕ → Type 0 = λ xs. Contains xs r in
          subst P (sym row-is) (0, omega arith, refl)));
      current = λ k le h.
          let a = new k (omega (arith, le, start-is)) h in
          let v = get_or queue' k 0 in
          let P : List ℕ → Type 0 = λ xs. Contains xs v in
          let is : v ≡ r = only r v (subst P row-is (All-contains (Contains row) added v among a))
          in
          (0, (fresh v a, is));
      looked = λ k a h edge.
          let lt : k < q = omega (arith, h, n.next_le) in
          let E : ℕ → Type 0 = λ x. HasEdge turned x a in
          grows a (n.looked k a h (subst E (front k lt) edge));
      closed = whole.closed;
      below = λ a has. omega (arith, whole.below a has, start-is);
      now = λ k le h. absurd (omega (arith, le, h, n.next_le, start-is));
      edges = whole.edges;
      same = whole.same;
    } in
    subst N (sym old-is) made
  where
    only : (r v : ℕ) → Contains (r ∷ []) v → v ≡ r
    only r v has = let place = place_of (r ∷ []) v has in
        sym place.2 ∙ ap (λ x. get_or (r ∷ []) x 0) (zero_place place.0 place.1)
      where
        zero_place : (k : ℕ) → k < 1 → k ≡ 0
        zero_place k lt = omega arith

-- in the end each node has its number
pub Numbering-all : (graph turned : Graph) (order old : List ℕ) (marks : List Bool)
    (queue numbers : List ℕ) (next start root : ℕ) → IsSound graph → Finished graph order
    → Numbering graph turned order old marks queue numbers next start root → length queue ≤ next
    → root ≡ 0 → Numbered graph turned queue numbers
    × ((v : ℕ) → v < node_count graph → Contains queue v)
Numbering-all graph turned order old marks queue numbers next start root sound f n done root-is = (
  Numbered-component graph turned order old marks queue numbers next start root sound f n done,
  λ v lt.
      let p = node_place graph order f v lt in
      let P : ℕ → Type 0 = λ x. Contains queue x in
      ⊎_elim
      (λ (past : root < p.0). subst P p.2 (old_in_queue start old queue n.old_is
      (get_or order p.0 0) (n.behind p.0 past p.1)))
      (λ (at : p.0 ≤ root). let e : root ≡ p.0 = omega (arith, at, root-is) in
      subst P (ap (λ x. get_or order x 0) e ∙ p.2) (n.rooted (omega (arith, e, p.1))))
      (cases_lt root p.0),
)
