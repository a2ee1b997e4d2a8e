-- The work list: its begin, its step and its end.
use Rattle.std.proofs.Common.{◌≡◌, inl, inr, ℕ, ◌+◌, ◌<◌, ◌≤◌, List, [], ◌++◌, length, map, slice_get, Contains, Option, Some, sym, ap, subst, ◌∙◌, arith}
use Rattle.std.specs.List.{range_with_len}
use Rattle.std.specs.Option.{option_map_or}
use Rattle.std.proofs.lemmas.Bool.{cases_lt}
use Rattle.std.proofs.lemmas.List.{length-append, get_or_append_left}
use Rattle.std.proofs.lemmas.List.Elements.{Contains-append_left, Contains-append_cases}
use Rattle.std.proofs.lemmas.Option.{slice_get-get_or, slice_get_within, get_or_from_slice_get, same_Some}
use Rattle.dg_decl.specs.declared.document.Doc.{Doc}
use Rattle.dg_decl.specs.declared.component.Class.{Class}
use Rattle.dg_decl.specs.declared.graph.Node.{Node}
use Rattle.dg_decl.specs.declared.graph.NodeKind.TheVariants as node
use Rattle.dg_decl.specs.Components.{class_count, class_of_number, component_classes}
use Rattle.dg_decl.specs.Graph.{node_of, targets, entry_nodes, candidates, kinds_of, IsReachable}
use Rattle.dg_decl.specs.Walks.{root, step}
use Rattle.dg_decl.specs.Components.{entries_of}
use Rattle.dg_decl.proofs.GraphLemmas.{reached_nodes, node_is_candidate}
use Rattle.dg_decl.proofs.MemberLemmas.{in_got, out_flat_map, out_map, out_range}
use Rattle.dg_resolve.proofs.ListLemmas.{at_range, flat_map_same}
use Rattle.dg_graph.specs.Growth.{Grows}
use Rattle.dg_graph.specs.Reached.{entries_at, entries_as_nodes, first_entries, Walked, AreReached}

-- a reachable node stands in a class that there is
pub class_small : (doc : Doc) (n : Node) → IsReachable doc n → n.class < class_count doc
unfolding candidates
class_small doc n w =
    let among : Contains (candidates doc) n = node_is_candidate doc n ((reached_nodes doc n).1 w) in
    let c = out_flat_map (λ (c : ℕ). map (node_of c) (kinds_of doc c))
    (range_with_len 0 (class_count doc)) n among in
    let k = out_map (node_of c.0) (kinds_of doc c.0) n c.2 in
    let lt : c.0 < class_count doc = out_range (class_count doc) c.0 c.1 in
    let same : c.0 ≡ n.class = ap (λ (m : Node). m.class) k.2 in
    omega arith

entries_are : (doc : Doc) (classes : List Class) (c : ℕ) → classes ≡ component_classes doc
    → c < class_count doc → entries_at classes c ≡ entries_of doc c
unfolding component_classes
entries_are doc classes c e lt =
    ap (λ (l : List Class). entries_at l c) e
    ∙ ap (λ (o : Option Class). option_map_or (λ x. x.entries) o [])
    (at_range (class_of_number doc) (class_count doc) c lt)

-- the entry points by the rows of classes
pub all_entries : (doc : Doc) (classes : List Class) → classes ≡ component_classes doc
    → length classes ≡ class_count doc → first_entries classes (length classes) ≡ entry_nodes doc
all_entries doc classes e count =
    ap (first_entries classes) count
    ∙ flat_map_same (λ c. entries_as_nodes c (entries_at classes c))
    (λ c. map (λ i. node_of c (node.EntryOf i)) (entries_of doc c))
    (range_with_len 0 (class_count doc))
    (λ c h. ap (entries_as_nodes c) (entries_are doc classes c e (out_range (class_count doc) c h)))

pub walk_begins : (doc : Doc) (roots found : List Node) → roots ≡ entry_nodes doc
    → Grows roots [] found → Walked doc found 0
walk_begins doc roots found e grows = record {
  sound = λ n among.
      root n (subst (λ (l : List Node). Contains l n) e
      (grows.only n (subst (λ (l : List Node). Contains l n) grows.whole among)));
  started = λ n among. grows.all n (subst (λ (l : List Node). Contains l n) (sym e) among);
  within = omega arith;
  closed = λ k m n lt at leads. absurd (omega arith);
}

kept_place : (old added : List Node) (k : ℕ) (m : Node) → k < length old
    → slice_get (old ++ added) k ≡ Some m → slice_get old k ≡ Some m
kept_place old added k m lt at =
    slice_get-get_or old k m lt
    ∙ ap Some (sym (get_or_append_left old added m k lt))
    ∙ ap Some (get_or_from_slice_get (old ++ added) k m m at)

pub walk_goes_on : (doc : Doc) (old new more : List Node) (place : ℕ) (m : Node)
    → Walked doc old place
    → slice_get old place ≡ Some m → more ≡ targets doc m → Grows more old new
    → Walked doc new (place + 1)
walk_goes_on doc old new more place m walked at e grows =
    let there : place < length old = slice_get_within old place m at in
    let reached : IsReachable doc m = walked.sound m (in_got old place m at) in
    let keeps : (n : Node) → Contains old n → Contains new n =
    (λ (n : Node) (h : Contains old n). subst (λ (l : List Node). Contains l n) (sym grows.whole)
    (Contains-append_left old grows.added n h)) in
    record {
      sound = λ n among.
          elim (Contains-append_cases old grows.added n
          (subst (λ (l : List Node). Contains l n) grows.whole among)) [
            | inl l ↦ walked.sound n l
            | inr r ↦ step m n reached (subst (λ (l : List Node). Contains l n) e (grows.only n r))
          ];
      started = λ n among. keeps n (walked.started n among);
      within = (let longer : length new ≡ length old + length grows.added =
          ap length grows.whole ∙ length-append old grows.added in omega arith);
      closed = λ k x n lt is leads.
          (let before : slice_get (old ++ grows.added) k ≡ Some x =
          ap (λ (l : List Node). slice_get l k) (sym grows.whole) ∙ is in
          let stood : slice_get old k ≡ Some x = kept_place old grows.added k x
          (omega arith) before in
          elim (cases_lt k place) [
            | inl below ↦ keeps n (walked.closed k x n below stood leads)
            | inr above ↦ (let here : k ≡ place = omega arith in
                let one : m ≡ x = same_Some m x (sym at ∙ ap (slice_get old) (sym here) ∙ stood) in
                grows.all n (subst (λ (l : List Node). Contains l n) (sym e)
                (subst (λ (y : Node). Contains (targets doc y) n) (sym one) leads)))
          ]);
    }

all_walked : (doc : Doc) (found : List Node) (place : ℕ) → Walked doc found place
    → length found ≤ place → (n : Node) → IsReachable doc n → Contains found n
all_walked doc found place walked done n (root k h) = walked.started k h
all_walked doc found place walked done n (step m k w h) =
    let c = all_walked doc found place walked done m w in
    let lt : c.0 < length found = c.1 in
    walked.closed c.0 m k (omega arith)
    (slice_get-get_or found c.0 m lt ∙ ap Some c.2) h

pub walk_ends : (doc : Doc) (found : List Node) (place : ℕ) → Walked doc found place
    → length found ≤ place → AreReached doc found
walk_ends doc found place walked done = record {
  each = λ n. (walked.sound n, all_walked doc found place walked done n);
}
