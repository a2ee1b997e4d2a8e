-- The pass over the statements of a class, and that over the classes: their begin, step and end.
use Rattle.std.proofs.Common.{◌≡◌, ℕ, zero, suc, ◌+◌, ◌<◌, ◌≤◌, ◌^◌, Bool, true, false, cond, ◌&&◌, is_none, nat_lt, List, [], ◌∷◌, ◌++◌, length, get_or, map, take, drop, filter, filter_map, flat_map, Contains, Option, Some, None, option_map, option_to_list, if◌then◌else◌, refl, sym, ap, subst, ◌∙◌, arith}
use Rattle.std.specs.List.{range_with_len}
use Rattle.std.specs.Option.{option_map_or}
use Rattle.std.proofs.lemmas.List.{append-nil, take_all, length-append}
use Rattle.std.proofs.lemmas.List.Elements.{filter-append, Contains-append_right}
use Rattle.std.proofs.lemmas.Grind.{flat_map-append}
use Rattle.std.proofs.Math.Seq.{take-suc, drop-cons}
use Rattle.dg_decl.specs.declared.document.Doc.{Doc}
use Rattle.dg_decl.specs.declared.component.Bound.{Bound}
use Rattle.dg_decl.specs.declared.component.Class.{Class}
use Rattle.dg_decl.specs.declared.component.Exposed.{Exposed}
use Rattle.dg_decl.specs.declared.binding.Bind.{Bind}
use Rattle.dg_decl.specs.declared.binding.BindRef.TheVariants as binding
use Rattle.dg_decl.specs.declared.graph.Node.{Node}
use Rattle.dg_decl.specs.declared.graph.NodeKind.{NodeKind}
use Rattle.dg_decl.specs.declared.graph.NodeKind.TheVariants as node
use Rattle.dg_decl.specs.Bounds.{IsBounded}
use Rattle.dg_decl.specs.declared.item.Item.{Item}
use Rattle.dg_decl.specs.Document.{Statement, statements, statements_from, open_behind}
use Rattle.dg_decl.specs.Components.{class_count, class_of_number, component_classes, exposed_by_class, header_of, bound_of}
use Rattle.dg_decl.specs.Lookup.{binding_of, bindings}
use Rattle.dg_decl.specs.Graph.{node_of, default_kind, kinds_at, kinds_of, candidates, is_reachable, nodes}
use Rattle.dg_decl.proofs.GraphLemmas.{reachable_by_short_walks}
use Rattle.dg_decl.proofs.NodeWalks.{is_any}
use Rattle.dg_resolve.specs.Explicit.{bounds_at, next_at}
use Rattle.dg_resolve.specs.Members.{header_index}
use Rattle.dg_resolve.proofs.LineLemmas.{next_is, rises_behind}
use Rattle.dg_resolve.proofs.ListLemmas.{at_range}
use Rattle.dg_resolve.proofs.StatementLemmas.{Rises, statements_rise}
use Rattle.dg_resolve.proofs.TableLemmas.{one_test}
use Rattle.dg_graph.specs.Kept.{same, is_among, kept, is_header, is_line, argument, exposed_at, exposed_on, bound_kinds, default_where, KnowsClass}
use Rattle.dg_graph.specs.Reached.{AreReached}
use Rattle.dg_graph.specs.Vacant.{Rows, AreTaken, kinds_where}
use Rattle.dg_graph.proofs.DerivedEquality.{same_decides}
use Rattle.dg_graph.proofs.KeptLemmas.{adds_none, goes_on}
use Rattle.dg_graph.proofs.OrderLemmas.{own_argument_is, own_exposed_is, own_groups_are, listed, looked_at, found_reached}

as_many : (doc : Doc) (index : ℕ) (block : Option ℕ) (items : List Item)
    → length (statements_from doc index block items) ≡ length items
as_many doc index block [] = refl
as_many doc index block (x ∷ xs) =
    let rest : length (statements_from doc (suc index) (open_behind block index x) xs) ≡ length xs =
    as_many doc (suc index) (open_behind block index x) xs in omega arith

pub few_statements : (doc : Doc) → IsBounded doc → length (statements doc) < 2 ^ 31
unfolding statements
few_statements doc bounded =
    let many : length (statements_from doc 0 None doc.items)
    ≡ length doc.items = as_many doc 0 None doc.items in
    let few : length doc.items < 2 ^ 31 = bounded.items in
    omega arith

pub class_begins : (doc : Doc) (found : List Node) (c : ℕ) (header : Option ℕ) (binds : List Bind)
    (before : List Node)
    → binds ≡ bindings doc → KnowsClass doc found c header binds before 0 0 0 before
unfolding bindings
class_begins doc found c header binds before is = record {
  done = sym (adds_none found c before);
  counted = refl;
  few = omega arith;
  short = omega arith;
  left = is;
}

split_of : (ss : List Statement) (i : ℕ) → ss ≡ take i ss ++ drop i ss
split_of [] zero = refl
split_of [] (suc i) = refl
split_of (s ∷ ss) zero = refl
split_of (s ∷ ss) (suc i) = ap (λ (l : List Statement). s ∷ l) (split_of ss i)

at_most_one : {A : Type 0} (o : Option A) → length (option_to_list o) ≤ 1
at_most_one None = omega arith
at_most_one (Some x) = omega arith

one_counted : (header : Option ℕ) (passed : ℕ) (s : Statement)
    → length (option_to_list (argument header passed s)) ≡ length (filter (is_line header) (s ∷ []))
one_counted header passed s = by (is_line header s)
  where
    by : (b : Bool) → length (option_to_list (if b then Some (binding.Arg passed) else None))
        ≡ length (cond b (s ∷ []) [])
    by true = refl
    by false = refl

pub class_goes_on : (doc : Doc) (found : List Node) (taken : Rows) (c : ℕ) (header : Option ℕ)
    (binds : List Bind) (exposed : List (List Exposed)) (before : List Node)
    (i passed next passed_now next_now : ℕ) (s : Statement) (old new : List Node)
    → AreReached doc found → AreTaken doc found taken → c < class_count doc
    → header ≡ header_index doc c → exposed ≡ exposed_by_class doc
    → i < length (statements doc) → s ≡ get_or (statements doc) i s
    → KnowsClass doc found c header binds before i passed next old
    → new ≡ old ++ kept found c (kinds_where doc taken c (argument header passed s)
    (exposed_on (is_header header s) (exposed_at exposed c)) (next_at binds next s.index) s)
    → passed_now ≡ passed + length (option_to_list (argument header passed s))
    → next_now ≡ next + length (option_to_list (next_at binds next s.index))
    → KnowsClass doc found c header binds before (i + 1) passed_now next_now new
class_goes_on doc found taken c header binds exposed before i passed next passed_now next_now s old
    new reached are small is all lt at knows adds counts places =
    let ss = statements doc in
    let front : take (suc i) ss ≡ take i ss ++ s ∷ [] =
    take-suc ss i s lt ∙ ap (λ (x : Statement). take i ss ++ x ∷ []) (sym at) in
    let back : drop i ss ≡ s ∷ drop (suc i) ss =
    drop-cons ss i s lt ∙ ap (λ (x : Statement). x ∷ drop (suc i) ss) (sym at) in
    let split : ss ≡ take i ss ++ s ∷ drop (suc i) ss =
    split_of ss i ∙ ap (λ (l : List Statement). take i ss ++ l) back in
    let rises : Rises (suc s.index) (drop (suc i) ss) =
    rises_behind 0 (take i ss) s (drop (suc i) ss) (subst (Rises 0) split (statements_rise doc)) in
    let stand : (t : Statement) → Contains (s ∷ drop (suc i) ss) t → Contains ss t =
    (λ (t : Statement) (h : Contains (s ∷ drop (suc i) ss) t). subst
    (λ (l : List Statement). Contains l t) (sym split) (Contains-append_right (take i ss)
    (s ∷ drop (suc i) ss) t h)) in
    let one = next_is doc binds next s (drop (suc i) ss) rises stand
    (knows.left ∙ ap (filter_map binding_of) back) in
    let counted : i + 1 ≡ suc i = omega arith in
    let front_now : take (i + 1) ss ≡ take i ss ++ s ∷ [] = ap (λ (n : ℕ). take n ss) counted
    ∙ front in
    let arg = argument header passed s in
    let xs = exposed_on (is_header header s) (exposed_at exposed c) in
    let b = next_at binds next s.index in
    let here : Contains ss s = (i, lt, sym at) in
    let kinds : kept found c (kinds_at doc c s) ≡ kept found c
    (kinds_where doc taken c arg xs b s) =
    listed doc found reached c s arg xs b
    (own_argument_is doc c passed header (take i ss) s (drop (suc i) ss) is split knows.counted)
    (own_exposed_is doc c header exposed s is all small)
    (own_groups_are doc c s b here one.0)
    ∙ looked_at doc found taken reached are c arg xs b s in
    record {
      done = goes_on found c before old new (flat_map (kinds_at doc c) (take i ss))
          (kinds_at doc c s)
          (flat_map (kinds_at doc c) (take (i + 1) ss))
          (ap (flat_map (kinds_at doc c)) front_now
          ∙ flat_map-append (kinds_at doc c) (take i ss) (s ∷ [])
          ∙ ap (λ (l : List NodeKind). flat_map (kinds_at doc c) (take i ss) ++ l)
          (append-nil (kinds_at doc c s)))
          knows.done (adds ∙ ap (λ (l : List Node). old ++ l) (sym kinds));
      counted =
          (let more : length (filter (is_line header) (take (i + 1) ss))
          ≡ length (filter (is_line header) (take i ss)) + length
          (filter (is_line header) (s ∷ [])) =
          ap (λ (l : List Statement). length (filter (is_line header) l)) front_now
          ∙ ap length (filter-append (is_line header) (take i ss) (s ∷ []))
          ∙ length-append (filter (is_line header) (take i ss))
          (filter (is_line header) (s ∷ [])) in
          omega (arith, counts, knows.counted, one_counted header passed s, more));
      few = omega (arith, counts, knows.few, at_most_one arg);
      short = omega (arith, places, knows.short, at_most_one b);
      left =
          ap (λ (n : ℕ). drop n binds) places ∙ one.1
          ∙ ap (λ (n : ℕ). filter_map binding_of (drop n ss)) (sym counted);
    }

pub class_ends : (doc : Doc) (found : List Node) (c : ℕ) (header : Option ℕ) (binds : List Bind)
    (before : List Node)
    (i passed next : ℕ) (new : List Node) → length (statements doc) ≤ i
    → KnowsClass doc found c header binds before i passed next new
    → new ≡ before ++ kept found c (flat_map (kinds_at doc c) (statements doc))
class_ends doc found c header binds before i passed next new done knows =
    knows.done
    ∙ ap (λ (l : List Statement). before ++ kept found c (flat_map (kinds_at doc c) l))
    (take_all i (statements doc) done)

-- ---- default bindings

none_of : (o : Option Statement) → is_none (option_map (λ h. h.index) o) ≡ is_none o
none_of None = refl
none_of (Some h) = refl

bounds_are : (doc : Doc) (classes : List Class) (c : ℕ) → classes ≡ component_classes doc
    → c < class_count doc → bounds_at classes c ≡ bound_of doc c
unfolding component_classes
bounds_are doc classes c e lt =
    ap (λ (l : List Class). bounds_at l c) e
    ∙ ap (λ (o : Option Class). option_map_or (λ x. x.bound) o [])
    (at_range (class_of_number doc) (class_count doc) c lt)

pub default_is : (doc : Doc) (classes : List Class) (c : ℕ) (header : Option ℕ)
    (bounds : List Bound) (b : Bool)
    → classes ≡ component_classes doc → c < class_count doc → header ≡ header_index doc c
    → bounds ≡ bounds_at classes c → b ≡ (is_none header && nat_lt 0 (length bounds))
    → bound_kinds (default_where b) ≡ default_kind doc c
default_is doc classes c header bounds b e lt is at has =
    ap (λ (t : Bool). bound_kinds (default_where t))
    (has
    ∙ ap (λ (h : Option ℕ). is_none h && nat_lt 0 (length bounds)) is
    ∙ ap (λ (t : Bool). t && nat_lt 0 (length bounds)) (none_of (header_of doc c))
    ∙ ap (λ (l : List Bound). is_none (header_of doc c) && nat_lt 0 (length l))
    (at ∙ bounds_are doc classes c e lt))
    ∙ by (is_none (header_of doc c) && nat_lt 0 (length (bound_of doc c)))
  where
    by : (t : Bool) → bound_kinds (default_where t) ≡ (if t then node.Bound binding.Default ∷ []
        else [])
    by true = refl
    by false = refl

-- ---- all classes

filter_each : {A : Type 0} (p : A → Bool) (f : ℕ → List A) (xs : List ℕ)
    → flat_map (λ x. filter p (f x)) xs ≡ filter p (flat_map f xs)
filter_each p f [] = refl
filter_each {A} p f (x ∷ xs) =
    ap (λ (l : List A). filter p (f x) ++ l) (filter_each p f xs)
    ∙ sym (filter-append p (f x) (flat_map f xs))

pub all_nodes : (doc : Doc) (found : List Node) → AreReached doc found
    → flat_map (λ c. kept found c (kinds_of doc c)) (range_with_len 0 (class_count doc)) ≡ nodes doc
unfolding kept candidates nodes
all_nodes doc found reached =
    filter_each (is_among found) (λ c. map (node_of c) (kinds_of doc c))
    (range_with_len 0 (class_count doc))
    ∙ ap (λ (p : Node → Bool). filter p (flat_map (λ c. map (node_of c) (kinds_of doc c))
    (range_with_len 0 (class_count doc)))) tests
  where
    test : (n : Node) → is_among found n ≡ is_reachable doc n
    test n = one_test (is_among found n) (is_reachable doc n)
        (λ h. (reachable_by_short_walks doc n).1 ((reached.each n).0
        (found_reached doc found reached n h)))
        (λ h. is_any same same_decides found n ((reached.each n).1
        ((reachable_by_short_walks doc n).0 h)))

    tests : is_among found ≡ is_reachable doc
    tests = λ i n. test n i
