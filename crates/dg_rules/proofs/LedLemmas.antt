-- The numbered edges of a node, one after another, lead where what it needs leads.
use Rattle.std.proofs.Common.{◌≡◌, ℕ, zero, suc, ◌+◌, ◌<◌, ◌≤◌, Bool, true, false, ◌&&◌, List, [], ◌∷◌, ◌++◌, length, get_or, map, take, drop, filter_map, slice_get, Option, Some, None, option_map, is_some, if◌then◌else◌, refl, sym, ap, ◌∙◌, arith}
use Rattle.std.specs.List.{enumerate_from, cons_option}
use Rattle.std.specs.Option.{option_map_or}
use Rattle.std.proofs.lemmas.List.{map-append}
use Rattle.std.proofs.lemmas.Option.{none-some, same_Some, slice_get-map}
use Rattle.dg_types.specs.declared.key.Key.{Key}
use Rattle.dg_decl.specs.declared.document.Doc.{Doc}
use Rattle.dg_decl.specs.declared.binding.Found.{Found}
use Rattle.dg_decl.specs.declared.binding.Found.TheVariants as found
use Rattle.dg_decl.specs.declared.graph.Edge.{Edge}
use Rattle.dg_decl.specs.declared.graph.EdgeKind.{EdgeKind}
use Rattle.dg_decl.specs.declared.graph.Node.{Node}
use Rattle.dg_decl.specs.Graph.{Dependency, deps, node_found, target, EdgeTo, edge_kind, edge_to, needed_edges, called_edge, calls_of, edges, nodes}
use Rattle.dg_decl.specs.GraphLaws.{Led, edge_led, numbered_led}
use Rattle.dg_decl.specs.Sizes.{is_production}
use Rattle.dg_decl.specs.Stages.Bindings.{is_production_found}
use Rattle.dg_decl.proofs.EdgeNumbers.{edges_are_numbered}
use Rattle.dg_rules.specs.Productions.{leads, told_of_edge, told_at, AreOf}
use Rattle.dg_rules.proofs.ListLemmas.{left_first, left_rest, split_there, take_there}

-- ---- what is told of the edges

abbrev is_made : Doc → EdgeTo → Bool
is_made doc e = is_production doc e.to

abbrev led_made : Doc → Led → Bool
led_made doc l = option_map_or (is_production doc) l.to false

-- what is told of a node by its number
by_number : (p : Node → Bool) (ns : List Node) (k : ℕ)
    → get_or (map p ns) k false ≡ option_map_or p (slice_get ns k) false
by_number p [] k = refl
by_number p (n ∷ ns) zero = refl
by_number p (n ∷ ns) (suc k) = by_number p ns k

told_is : (doc : Doc) (es : List Edge)
    → map (told_of_edge (map (is_production doc) (nodes doc))) es
    ≡ map (led_made doc) (map (numbered_led doc) es)
told_is doc [] = refl
told_is doc (e ∷ es) = λ i. by_number (is_production doc) (nodes doc) e.to i ∷ told_is doc es i

made_is : (doc : Doc) (es : List EdgeTo)
    → map (led_made doc) (map edge_led es) ≡ map (is_made doc) es
made_is doc [] = refl
made_is doc (e ∷ es) = ap (λ bs. is_production doc e.to ∷ bs) (made_is doc es)

abbrev numbered_from : ℕ → List Dependency → List EdgeTo
numbered_from k ds =
    filter_map (λ p. edge_to (edge_kind p.1.mode) (suc p.0) p.1) (enumerate_from k ds)

abbrev calls : Doc → Node → List EdgeTo
calls doc n = filter_map (called_edge (deps doc n)) (calls_of doc n)

all_told : (doc : Doc) (n : Node) (ds : List Dependency) (es : List Edge) (ps : List Bool)
    → AreOf doc n ds es ps
    → map (told_of_edge ps) es
    ≡ map (is_made doc) (numbered_from 0 ds) ++ map (is_made doc) (calls doc n)
unfolding edges
all_told doc n ds es ps are =
    ap (λ (bs : List Bool). map (told_of_edge bs) es) are.produced
    ∙ told_is doc es
    ∙ ap (λ (xs : List Edge). map (led_made doc) (map (numbered_led doc) xs)) are.numbered
    ∙ ap (map (led_made doc)) (edges_are_numbered doc n are.among)
    ∙ made_is doc (edges doc n)
    ∙ map-append (is_made doc) (needed_edges (deps doc n)) (calls doc n)
    ∙ ap (λ (xs : List Dependency). map (is_made doc) (numbered_from 0 xs)
    ++ map (is_made doc) (calls doc n)) (sym are.needs)

-- ---- one request after another

-- what is told of the first requests, and of the edges that are left
pub record Told (doc : Doc) (n : Node) (ds : List Dependency) (es : List Edge) (ps : List Bool)
    (i place : ℕ) (told : List Bool) : Type 0 where
  pub so_far : told ≡ map (is_production_found doc) (take i ds)
  pub left : drop place (map (told_of_edge ps) es)
      ≡ map (is_made doc) (numbered_from i (drop i ds)) ++ map (is_made doc) (calls doc n)

pub told_none : (doc : Doc) (n : Node) (ds : List Dependency) (es : List Edge) (ps : List Bool)
    (told : List Bool) → told ≡ [] → AreOf doc n ds es ps → Told doc n ds es ps 0 0 told
told_none doc n ds es ps told none are = record {
  so_far = none;
  left = all_told doc n ds es ps are;
}

leads_where : (class : ℕ) (key : Key) (f : Found) → is_some (node_found class key f) ≡ leads f
leads_where class key (found.One o r) = refl
leads_where class key (found.Many os) = refl
leads_where class key (found.SetOf os) = refl
leads_where class key (found.MapOf os) = refl
leads_where class key found.OptionalOf = refl
leads_where class key (found.BadScope i) = refl
leads_where class key found.Nothing = refl

value_there : {A : Type 0} (f : A → Bool) (o : Option A) (b : Bool) → option_map f o ≡ Some b
    → option_map_or f o false ≡ b
value_there f None b e = absurd (none-some b e)
value_there f (Some x) b e = same_Some (f x) b e

record Passed (doc : Doc) (xs rest : List Bool) (o : Option Node) (flag : Bool) (next : ℕ)
    : Type 0 where
  made : flag ≡ option_map_or (is_production doc) o false
  left : drop next xs ≡ rest

abbrev edge_of : EdgeKind → ℕ → Node → EdgeTo
edge_of kind k t = record { kind = kind; param = k; to = t }

passed : (doc : Doc) (es : List Edge) (ps : List Bool) (kind : EdgeKind) (k place next : ℕ)
    (later : List EdgeTo) (cs : List Bool) (o : Option Node) (b flag : Bool)
    → drop place (map (told_of_edge ps) es)
    ≡ map (is_made doc) (cons_option (option_map (edge_of kind k) o) later) ++ cs
    → is_some o ≡ b → flag ≡ (b && told_at ps es place)
    → next ≡ place + (if b then 1 else 0)
    → Passed doc (map (told_of_edge ps) es) (map (is_made doc) later ++ cs) o flag next
passed doc es ps kind k place next later cs None b flag left is told behind = record {
  made = told ∙ ap (λ t. t && told_at ps es place) (sym is);
  left = ap (λ m. drop m (map (told_of_edge ps) es))
      (behind ∙ ap (λ t. place + (if t then 1 else 0)) (sym is) ∙ omega arith) ∙ left;
}
passed doc es ps kind k place next later cs (Some t) b flag left is told behind =
    let xs = map (told_of_edge ps) es in
    let rest = map (is_made doc) later ++ cs in
    record {
      made = told ∙ ap (λ c. c && told_at ps es place) (sym is)
          ∙ value_there (told_of_edge ps) (slice_get es place) (is_production doc t)
          (sym (slice_get-map (told_of_edge ps) es place)
          ∙ left_first xs place (is_production doc t) rest left);
      left = ap (λ m. drop m xs)
          (behind ∙ ap (λ c. place + (if c then 1 else 0)) (sym is))
          ∙ left_rest xs place (is_production doc t) rest left;
    }

pub told_more : (doc : Doc) (n : Node) (ds : List Dependency) (es : List Edge) (ps : List Bool)
    (i place next : ℕ) (told more : List Bool) (d : Dependency) (b flag : Bool)
    → Told doc n ds es ps i place told → i < length ds → get_or ds i d ≡ d → b ≡ leads d.found
    → flag ≡ (b && told_at ps es place) → more ≡ told ++ flag ∷ []
    → next ≡ place + (if b then 1 else 0) → Told doc n ds es ps (i + 1) next more
told_more doc n ds es ps i place next told more d b flag so lt at is told_so pushed behind =
    let later = numbered_from (i + 1) (drop (i + 1) ds) in
    let p = passed doc es ps (edge_kind d.mode) (suc i) place next later
    (map (is_made doc) (calls doc n)) (target d) b flag
    (so.left ∙ ap (λ xs. map (is_made doc) (numbered_from i xs) ++ map (is_made doc) (calls doc n))
    (split_there ds i d lt at))
    (leads_where d.class d.key d.found ∙ sym is) told_so behind in
    record {
      so_far = pushed
          ∙ ap (λ bs. bs ++ flag ∷ []) so.so_far
          ∙ ap (λ c. map (is_production_found doc) (take i ds) ++ c ∷ []) p.made
          ∙ sym (map-append (is_production_found doc) (take i ds) (d ∷ []))
          ∙ ap (map (is_production_found doc)) (sym (take_there ds i d lt at));
      left = p.left;
    }

pub few_behind : (place i next : ℕ) (b : Bool) → next ≡ place + (if b then 1 else 0) → place ≤ i
    → next ≤ i + 1
few_behind place i next true e le = omega arith
few_behind place i next false e le = omega arith
