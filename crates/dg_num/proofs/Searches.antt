use Rattle.std.proofs.Common.{◌≡◌, ◌+◌, ◌<◌, ◌≤◌, ◌↔◌, ◌++◌, ℕ, Bool, List, length, get_or}
use Rattle.std.proofs.Common.{Contains, All, sym, ap, ◌∙◌, subst, refl, ⊎_elim, arith}
use Rattle.std.proofs.lemmas.Bool.{cases_lt}
use Rattle.std.proofs.lemmas.List.{get_or_append_left, get_or_default, length-append}
use Rattle.std.proofs.lemmas.List.Elements.{All-contains, Contains-append_left}
use Rattle.std.proofs.lemmas.List.Elements.{Contains-append_cases, Contains-get_or}
use Rattle.dg_num.specs.declared.graph.Graph.{Graph}
use Rattle.dg_num.specs.Graph.{node_count, successors, HasEdge}
use Rattle.dg_num.specs.Walks.{IsReached, IsTrueAt, TellsExactly}
use Rattle.dg_num.proofs.WalkLaws.{kept_along, IsReached-edge}

-- a search that has looked at the rows of the first `next` nodes of its queue
pub record Searched (graph : Graph) (from : List ℕ) (marks : List Bool) (queue : List ℕ)
    (next : ℕ) : Type 0 where
  pub for_each_node : length marks ≡ node_count graph
  pub marked : (v : ℕ) → IsTrueAt marks v ↔ Contains queue v
  pub sound : (v : ℕ) → Contains queue v → IsReached (successors graph) from v
  pub starts : All (IsTrueAt marks) from
  pub closed : (k b : ℕ) → k < next → HasEdge graph (get_or queue k 0) b → IsTrueAt marks b
  pub within : next ≤ length queue

pub Searched-start : (graph : Graph) (from : List ℕ) (marks : List Bool) (queue added : List ℕ)
    → length marks ≡ node_count graph → ((v : ℕ) → IsTrueAt marks v ↔ Contains queue v)
    → queue ≡ added → All (Contains from) added → All (IsTrueAt marks) from
    → Searched graph from marks queue 0
Searched-start graph from marks queue added len marked is among starts = record {
  for_each_node = len;
  marked = marked;
  sound = λ v has. let P : List ℕ → Type 0 = λ xs. Contains xs v in
      (v, All-contains (Contains from) added v among (subst P is has), (0, refl));
  starts = starts;
  closed = λ k b lt edge. absurd (omega arith);
  within = omega arith;
}

pub Searched-step : (graph : Graph) (from : List ℕ) (marks marks' : List Bool)
    (queue queue' added : List ℕ) (next : ℕ) → Searched graph from marks queue next
    → next < length queue → length marks' ≡ length marks
    → ((v : ℕ) → IsTrueAt marks' v ↔ Contains queue' v) → queue' ≡ queue ++ added
    → All (Contains (successors graph (get_or queue next 0))) added
    → All (IsTrueAt marks') (successors graph (get_or queue next 0))
    → Searched graph from marks' queue' (next + 1)
Searched-step graph from marks marks' queue queue' added next s lt len marked is among all =
    let old : (v : ℕ) → IsTrueAt marks v → IsTrueAt marks' v = λ v m. let P : List ℕ
    → Type 0 = λ xs. Contains xs v in
    (marked v).1 (subst P (sym is) (Contains-append_left queue added v ((s.marked v).0 m))) in
    let same : (k : ℕ) → k < length queue
    → get_or queue' k 0 ≡ get_or queue k 0 =
    λ k h. ap (λ xs. get_or xs k 0) is ∙ get_or_append_left queue added 0 k h in
    record {
      for_each_node = len ∙ s.for_each_node;
      marked = marked;
      sound = λ v has. let P : List ℕ → Type 0 = λ xs. Contains xs v in
          ⊎_elim (s.sound v) (λ (new : Contains added v).
          IsReached-edge graph from (get_or queue next 0) v
          (s.sound _ (Contains-get_or queue next 0 lt))
          (All-contains (Contains (successors graph (get_or queue next 0))) added v among new))
          (Contains-append_cases queue added v (subst P is has));
      starts = λ k d h. old _ (s.starts k d h);
      closed = λ k b h edge. let P : ℕ → Type 0 = λ x. HasEdge graph x b in
          ⊎_elim (λ (before : k < next).
          old b (s.closed k b before (subst P (same k (omega arith)) edge)))
          (λ (here : next ≤ k). let e : k ≡ next = omega arith in
          All-contains (IsTrueAt marks') (successors graph (get_or queue next 0)) b all
          (subst P (same k (omega arith) ∙ ap (λ x. get_or queue x 0) e) edge)) (cases_lt k next);
      within = omega (arith, ap length is, length-append queue added);
    }

pub Searched-end : (graph : Graph) (from : List ℕ) (marks : List Bool) (queue : List ℕ) (next : ℕ)
    → Searched graph from marks queue next → length queue ≤ next
    → TellsExactly graph (IsReached (successors graph) from) marks
Searched-end graph from marks queue next s done =
    let closed : (a b : ℕ) → IsTrueAt marks a → HasEdge graph a b
    → IsTrueAt marks b = λ a b m edge. let has = (s.marked a).0 m in let P : ℕ
    → Type 0 = λ x. HasEdge graph x b in
    s.closed has.0 b (omega (arith, has.1)) (subst P
    (sym (default_is queue has.0 a has.1 has.2)) edge) in
    record {
      for_each_node = s.for_each_node;
      exact = λ node lt. (
        λ m. s.sound node ((s.marked node).0 m),
        λ reached. kept_along graph (IsTrueAt marks) closed reached.2.0 reached.0 node reached.2.1
            (All-contains (IsTrueAt marks) from reached.0 s.starts reached.1),
      );
    }
  where
    default_is : (xs : List ℕ) (k a : ℕ) → k < length xs → get_or xs k a ≡ a → get_or xs k 0 ≡ a
    default_is xs k a lt e = get_or_default xs k 0 a lt ∙ e
