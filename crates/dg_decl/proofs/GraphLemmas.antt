-- Walks of the graph of a document stay among its candidates, and so short walks are enough.
use Rattle.std.proofs.Common.{◌≡◌, ◌↔◌, inl, inr, ℕ, suc, Bool, true, false, cond, IsTrue, ◌&&◌, List, [], ◌∷◌, length, filter, filter_map, position, slice_get, Contains, Option, Some, None, ap, subst, ◌∙◌}
use Rattle.std.specs.List.{list_any, enumerate_from}
use Rattle.std.specs.Option.{option_map_or}
use Rattle.std.proofs.lemmas.Option.{none-some}
use Rattle.std.proofs.lemmas.List.Elements.{Contains-append_cases}
use Rattle.dg_decl.specs.declared.document.Doc.{Doc}
use Rattle.dg_decl.specs.declared.binding.BindRef.TheVariants as binding
use Rattle.dg_decl.specs.declared.graph.Node.{Node}
use Rattle.dg_decl.specs.declared.graph.NodeKind.{NodeKind}
use Rattle.dg_decl.specs.declared.graph.NodeKind.TheVariants as node
use Rattle.dg_decl.specs.declared.graph.EdgeKind.{EdgeKind}
use Rattle.dg_decl.specs.declared.graph.EdgeKind.TheVariants as edge
use Rattle.dg_decl.specs.Walks.{IsReached, step, is_within}
use Rattle.dg_decl.specs.Graph.{same_node, node_of, Dependency, deps, target, targets, entry_nodes, IsReachable, candidates, is_reachable, nodes, EdgeTo, edge_kind, edge_to, needed_edges, is_param, is_called_mode, called_at, called_edge, calls_of, edges, inner_of, targets_by, is_direct, is_called, direct_targets, called_targets, needed_targets, OnCycle, OnCall, is_on_cycle, is_on_call}
use Rattle.dg_decl.specs.Sizes.{is_producer, is_unscoped_binds, item_of_node, is_provider_form, passed_on, is_production}
use Rattle.dg_decl.specs.GraphLaws.{CyclesByShortWalks, ProductionsByShortWalks}
use Rattle.dg_decl.proofs.NodeWalks.{LeadsInto, AreIn, any_found, any_from, reached_in, walks_among}
use Rattle.dg_decl.proofs.NodeEquality.{first_so, second_so, both_so, node_decides}
use Rattle.dg_decl.proofs.MemberLemmas.{none_in, the_one, out_map, in_filter, out_filter, in_filter_map, out_filter_map, out_option_map, out_and_then, out_if, in_got, out_enumerate}
use Rattle.dg_decl.proofs.NodeCandidates.{entries_are}
use Rattle.dg_decl.proofs.NodeTargets.{targets_are}

-- ---- nodes

pub reachable_by_short_walks : (doc : Doc) → (n : Node)
    → IsTrue (is_reachable doc n) ↔ IsReachable doc n
unfolding is_reachable
reachable_by_short_walks doc n =
    walks_among same_node node_decides (targets doc) (candidates doc) (entry_nodes doc)
    (λ m o c h. targets_are doc m o c h) (λ m c. entries_are doc m c) n

pub reached_nodes : (doc : Doc) → (n : Node)
    → Contains (nodes doc) n ↔ IsReachable doc n
unfolding nodes
reached_nodes doc n = (
  λ c. (reachable_by_short_walks doc n).0 (out_filter (is_reachable doc) (candidates doc) n
      c).1,
  λ w. in_filter (is_reachable doc) (candidates doc) n
      (reached_in (targets doc) (candidates doc) (entry_nodes doc) (λ m o c h. targets_are doc m o c h) (λ m c. entries_are doc m c) n w)
      ((reachable_by_short_walks doc n).1 w),
)

pub node_is_candidate : (doc : Doc) (n : Node) → Contains (nodes doc) n
    → Contains (candidates doc) n
unfolding nodes
node_is_candidate doc n c = (out_filter (is_reachable doc) (candidates doc) n c).0

-- what a node needs is a node
pub target_is_node : (doc : Doc) → (m n : Node)
    → Contains (nodes doc) m → Contains (targets doc m) n → Contains (nodes doc) n
target_is_node doc m n c h =
    (reached_nodes doc n).1 (step m n ((reached_nodes doc m).0 c) h)

-- ---- edges lead where dependencies lead

edge_target : (doc : Doc) (n : Node) (how : EdgeKind) (number : ℕ) (d : Dependency) (e : EdgeTo)
    → Contains (deps doc n) d → edge_to how number d ≡ Some e → Contains (targets doc n) e.to
edge_target doc n how number d e c h =
    let o = out_option_map _ (target d) e h in
    in_filter_map target (deps doc n) d e.to c (o.1 ∙ ap Some (ap (λ (e : EdgeTo). e.to) o.2))

if_some : {A : Type 0} (b : Bool) (o : Option A) (x : A) → cond b o None ≡ Some x → o ≡ Some x
if_some true o x e = e
if_some false o x e = absurd (none-some x e)

pub edge_leads : (doc : Doc) (n : Node) (e : EdgeTo) → Contains (edges doc n) e
    → Contains (targets doc n) e.to
unfolding edges
edge_leads doc n e c =
    elim (Contains-append_cases (needed_edges (deps doc n)) (filter_map (called_edge (deps doc n))
    (calls_of doc n)) e c) [
      | inl h ↦ (let p = out_filter_map (λ (p : ℕ × Dependency). edge_to (edge_kind p.1.mode)
          (suc p.0) p.1) (enumerate_from 0 (deps doc n)) e h in
          edge_target doc n (edge_kind p.0.1.mode) (suc p.0.0) p.0.1 e (out_enumerate 0 (deps doc
          n) p.0 p.1) p.2)
      | inr h ↦ (let name = out_filter_map (called_edge (deps doc n)) (calls_of doc n) e h in
          let place = out_and_then (called_at (deps doc n)) (position (is_param name.0) (deps doc
          n)) e name.2 in
          let d = out_and_then (λ (d : Dependency). cond (is_called_mode d.mode)
          (edge_to edge.Called (suc place.0) d) None) (slice_get (deps doc n) place.0) e
          place.2 in
          edge_target doc n edge.Called (suc place.0) d.0 e (in_got (deps doc n) place.0 d.0 d.1)
          (if_some (is_called_mode d.0.mode) (edge_to edge.Called (suc place.0) d.0) e d.2))
    ]

pub leads_by : (doc : Doc) (by : EdgeTo → Bool) (m n : Node) → Contains (targets_by by doc m) n
    → Contains (targets doc m) n
leads_by doc by m n c =
    let o = out_map (λ (e : EdgeTo). e.to) (filter by (edges doc m)) n c in
    let f = out_filter by (edges doc m) o.0 o.1 in
    let P : Node → Type 0 = λ t. Contains (targets doc m) t in
    subst P o.2 (edge_leads doc m o.0 f.0)

stay : (doc : Doc) → (by : EdgeTo → Bool)
    → LeadsInto (targets_by by doc) (candidates doc)
stay doc by m n c h = targets_are doc m n c (leads_by doc by m n h)

only_in : (doc : Doc) (n : Node) → Contains (candidates doc) n → AreIn (n ∷ []) (candidates doc)
only_in doc n c m h = let P : Node → Type 0 = λ t. Contains (candidates doc) t in subst P
    (the_one m n h) c

-- ---- closed walks

cycle_by_short_walks : (doc : Doc) → (n : Node)
    → Contains (candidates doc) n → IsTrue (is_on_cycle doc n) ↔ OnCycle doc n
unfolding is_on_cycle
cycle_by_short_walks doc n c =
    walks_among same_node node_decides (direct_targets doc) (candidates doc) (direct_targets doc n)
    (stay doc is_direct) (λ m h. stay doc is_direct n m c h) n

-- a walk of direct and called edges from a candidate
abbrev leads : Doc → Node → Node → Bool
leads doc m n = is_within same_node (needed_targets doc) (length (candidates doc)) (m ∷ []) n

needed_by_short_walks : (doc : Doc) → (m n : Node)
    → Contains (candidates doc) m
    → IsTrue (leads doc m n) ↔ IsReached (needed_targets doc) (m ∷ []) n
needed_by_short_walks doc m n c =
    walks_among same_node node_decides (needed_targets doc) (candidates doc) (m ∷ []) (stay doc _) (only_in doc m c) n

call_by_short_walks : (doc : Doc) → (n : Node)
    → Contains (candidates doc) n → IsTrue (is_on_call doc n) ↔ OnCall doc n
unfolding is_on_call
call_by_short_walks doc n c = (
  λ h. (let m = any_found (λ m. leads doc n m && list_any (λ t. leads doc t n) (called_targets doc
      m)) (candidates doc) h in
      let t = any_found (λ t. leads doc t n) (called_targets doc m.at) (second_so _ _ m.passes) in (
        m.at,
        t.at,
        (needed_by_short_walks doc n m.at c).0 (first_so _ _ m.passes),
        t.among,
        (needed_by_short_walks doc t.at n (stay doc is_called m.at t.at m.among
            t.among)).0 t.passes,
      )),
  λ w. (let m : Node = w.0 in let t : Node = w.1 in
      let among = reached_in (needed_targets doc) (candidates doc) (n ∷ []) (stay doc _)
      (only_in doc n c) m w.2 in
      let back = any_from (λ t. leads doc t n) (called_targets doc m) t w.3
      ((needed_by_short_walks doc t n (stay doc is_called m t among w.3)).1 w.4) in
      any_from (λ m. leads doc n m && list_any (λ t. leads doc t n) (called_targets doc m))
      (candidates doc) m among
      (both_so _ _ ((needed_by_short_walks doc n m c).1 w.2) back)),
)

pub cycles_by_short_walks : CyclesByShortWalks
cycles_by_short_walks doc n c = (
  cycle_by_short_walks doc n (node_is_candidate doc n c),
  call_by_short_walks doc n
      (node_is_candidate doc n c),
)

-- ---- productions

out_else : {A : Type 0} (b : Bool) (xs : List A) (x : A) → Contains (cond b [] xs) x → Contains xs x
out_else true xs x c = absurd (none_in x c)
out_else false xs x c = c

passed_leads : (doc : Doc) (class : ℕ) (k : NodeKind) (t : Node)
    → Contains (passed_on doc (node_of class k)) t → Contains (targets doc (node_of class k)) t
unfolding passed_on
passed_leads doc class (node.Bound (binding.Exposed dep entry)) t c = c
passed_leads doc class (node.Bound b) t c = (out_if (option_map_or is_unscoped_binds (item_of_node
    doc (node_of class (node.Bound b))) false) (targets doc (node_of class (node.Bound b))) t c).1
passed_leads doc class (node.Multi k) t c = out_else (is_provider_form (inner_of k.core))
    (targets doc (node_of class (node.Multi k))) t c
passed_leads doc class (node.Opt k) t c = absurd (none_in t c)
passed_leads doc class (node.EntryOf i) t c = absurd (none_in t c)

passed_stay : (doc : Doc) → LeadsInto (passed_on doc) (candidates doc)
passed_stay doc m n c h = targets_are doc m n c (passed_leads doc m.class m.kind n h)

abbrev passes : Doc → Node → Node → Bool
passes doc n m = is_within same_node (passed_on doc) (length (candidates doc)) (n ∷ []) m

passed_by_short_walks : (doc : Doc) → (n m : Node)
    → Contains (candidates doc) n → IsTrue (passes doc n m) ↔ IsReached (passed_on doc) (n ∷ []) m
passed_by_short_walks doc n m c =
    walks_among same_node node_decides (passed_on doc) (candidates doc) (n ∷ []) (passed_stay doc) (only_in doc n c) m

pub productions_by_short_walks : ProductionsByShortWalks
unfolding is_production
productions_by_short_walks doc n among =
    let c = node_is_candidate doc n among in (
      λ h. (let m = any_found (λ m. is_producer doc m && passes doc n m) (candidates doc) h in (
        m.at,
        (passed_by_short_walks doc n m.at c).0 (second_so _ _ m.passes),
        first_so _
            _ m.passes,
      )),
      λ w. (let m : Node = w.0 in
          let here = reached_in (passed_on doc) (candidates doc) (n ∷ []) (passed_stay doc)
          (only_in doc n c) m w.1 in
          any_from (λ m. is_producer doc m && passes doc n m) (candidates doc) m here
          (both_so _ _ w.2 ((passed_by_short_walks doc n m c).1 w.1))),
    )
