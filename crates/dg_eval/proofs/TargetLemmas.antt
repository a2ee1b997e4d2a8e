-- How deep nodes are, and that what a node needs is less deep.
use Rattle.std.proofs.Common.{◌≡◌, ◌<◌, ℕ, zero, suc, ◌+◌, Bool, true, false, cond, ◌||◌, List, [], ◌∷◌, get_or, filter, filter_map, slice_get, Contains, Option, Some, None, option_map, refl, sym, ap, subst, ◌∙◌, arith}
use Rattle.std.specs.List.{enumerate_from}
use Rattle.std.proofs.lemmas.Bool.{false≢true}
use Rattle.std.proofs.lemmas.Option.{none-some, same_Some, slice_get-get_or}
use Rattle.std.proofs.lemmas.List.Elements.{Contains-append_left}
use Rattle.std.proofs.lemmas.List.Quantifiers.{position-Some}
use Rattle.dg_types.specs.declared.key.Mode.{Mode}
use Rattle.dg_types.specs.declared.key.Mode.TheVariants as mode
use Rattle.dg_num.specs.Walks.{Walk}
use Rattle.dg_decl.specs.declared.document.Doc.{Doc}
use Rattle.dg_decl.specs.declared.graph.EdgeKind.TheVariants as edge
use Rattle.dg_decl.specs.declared.graph.Node.{Node}
use Rattle.dg_decl.specs.Graph.{Dependency, deps, target, nodes, number_of, same_node, EdgeTo, edge_kind, edge_to, needed_edges, called_edge, calls_of as names_called, edges, is_direct, is_called, needed_targets}
use Rattle.dg_decl.proofs.MemberLemmas.{in_map, in_filter, in_filter_map, out_option_map, out_and_then, in_front}
use Rattle.dg_decl.proofs.NodeEquality.{node_decides}
use Rattle.dg_eval.specs.World.{up}
use Rattle.dg_eval.specs.Meaning.{node_at, Target, target_of, asking_inst, is_instance, first_target}

-- ---- how deep nodes are

-- no walk from a node has more than so many nodes
abbrev pub Shallow : Doc → ℕ → Node → Type 0
Shallow doc k n = (edges : ℕ) (last : Node) → Walk (needed_targets doc) edges n last → edges < k

abbrev pub ShallowSlot : Doc → ℕ → ℕ → Type 0
ShallowSlot doc k s = (n : Node) × (node_at doc s ≡ Some n) × Shallow doc k n

pub none_shallow : (doc : Doc) (s : ℕ) → ShallowSlot doc zero s → ⊥
none_shallow doc s sh = (let lt : 0 < 0 = sh.2 0 sh.0 refl in omega arith)

pub more_shallow : (doc : Doc) (k s : ℕ) → ShallowSlot doc k s → ShallowSlot doc (suc k) s
more_shallow doc k s sh =
    (sh.0, sh.1, λ edges last w. (let lt : edges < k = sh.2 edges last w in omega arith))

pub target_shallow : (doc : Doc) (k : ℕ) (n t : Node) → Shallow doc (suc k) n
    → Contains (needed_targets doc n) t → Shallow doc k t
target_shallow doc k n t sh c edges last w =
    let lt : suc edges < suc k = sh (suc edges) last (t, c, w) in omega arith

-- ---- targets

direct_edge : (doc : Doc) (n : Node) (m : ℕ) (d : Dependency) (t : Node)
    → Contains (enumerate_from 0 (deps doc n)) (m, d) → edge_kind d.mode ≡ edge.Direct
    → target d ≡ Some t → Contains (needed_targets doc n) t
unfolding edges
direct_edge doc n m d t c direct found =
    let e : EdgeTo = record { kind = edge_kind d.mode; param = suc m; to = t } in
    let is : edge_to (edge_kind d.mode) (suc m) d ≡ Some (record { kind = edge_kind d.mode; param = suc m; to = t }) =
    ap (option_map (λ (x : Node). record { kind = edge_kind d.mode; param = suc m; to = x })) found in
    let among = in_filter_map (λ (p : ℕ × Dependency). edge_to (edge_kind p.1.mode) (suc p.0) p.1)
    (enumerate_from 0 (deps doc n)) (m, d)
    (record { kind = edge_kind d.mode; param = suc m; to = t }) c is in
    let here = Contains-append_left (needed_edges (deps doc n))
    (filter_map (called_edge (deps doc n)) (names_called doc n))
    (record { kind = edge_kind d.mode; param = suc m; to = t }) among in
    in_map (λ (e : EdgeTo). e.to) (filter (λ (e : EdgeTo). is_direct e || is_called e) (edges doc n))
    (record { kind = edge_kind d.mode; param = suc m; to = t })
    (in_filter (λ (e : EdgeTo). is_direct e || is_called e) (edges doc n)
    (record { kind = edge_kind d.mode; param = suc m; to = t }) here
    (rw direct refl))

pub number_is : (ns : List Node) (n : Node) (k : ℕ) → number_of ns n ≡ Some k → slice_get ns k ≡ Some n
number_is ns n k e =
    let at = position-Some (same_node n) ns k n e in
    slice_get-get_or ns k n at.0 ∙ ap Some (sym ((node_decides n (get_or ns k n)).0 at.1))

-- where a dependency leads: to the slot of its target
pub target_is : (doc : Doc) (i : ℕ) (n : Node) (d : Dependency) (t : Target)
    → target_of doc i n d ≡ Some t
    → (x : Node) × (target d ≡ Some x) × (node_at doc t.slot ≡ Some x)
target_is doc i n d t e =
    let a = out_and_then _ (target d) t e in
    let b = out_and_then _ (asking_inst doc i n) t a.2 in
    let c = out_and_then _ (up doc b.0 a.0.class) t b.2 in
    let m = out_option_map _ (number_of (nodes doc) a.0) t c.2 in
    let same : m.0 ≡ t.slot = ap (λ (t : Target). t.slot) m.2 in
    (a.0, a.1, sym (ap (node_at doc) same) ∙ number_is (nodes doc) a.0 m.0 m.1)

-- a slot that a node needs is less deep
pub needed_shallow : (doc : Doc) (k i : ℕ) (n : Node) (d : Dependency) (t : Target)
    → Shallow doc (suc k) n → target_of doc i n d ≡ Some t
    → ((x : Node) → target d ≡ Some x → Contains (needed_targets doc n) x)
    → ShallowSlot doc k t.slot
needed_shallow doc k i n d t sh e needed =
    let x = target_is doc i n d t e in
    (x.0, x.2, target_shallow doc k n x.0 sh (needed x.0 x.1))

pub direct_shallow : (doc : Doc) (k i : ℕ) (n : Node) (m : ℕ) (d : Dependency) (t : Target)
    → Shallow doc (suc k) n → target_of doc i n d ≡ Some t
    → Contains (enumerate_from 0 (deps doc n)) (m, d) → edge_kind d.mode ≡ edge.Direct
    → ShallowSlot doc k t.slot
direct_shallow doc k i n m d t sh e c direct =
    needed_shallow doc k i n d t sh e (λ x found. direct_edge doc n m d x c direct found)

first_enumerated : (ds : List Dependency) (d : Dependency) → slice_get ds 0 ≡ Some d
    → Contains (enumerate_from 0 ds) (0, d)
first_enumerated [] d e = absurd (none-some d e)
first_enumerated (x ∷ xs) d e =
    let same : x ≡ d = same_Some x d e in
    let P : Dependency → Type 0 = λ y. Contains ((0, x) ∷ enumerate_from (0 + 1) xs) (0, y) in
    subst P same (in_front (0, x) (enumerate_from (0 + 1) xs))

pub instance_direct : (m : Mode) → is_instance m ≡ true → edge_kind m ≡ edge.Direct
instance_direct mode.Instance e = refl
instance_direct mode.Produced e = refl
instance_direct other e = absurd (false≢true e)

if_some : {A : Type 0} (b : Bool) (o : Option A) (x : A) → cond b o None ≡ Some x
    → (b ≡ true) × (o ≡ Some x)
if_some true o x e = (refl, e)
if_some false o x e = absurd (none-some x e)

pub first_shallow : (doc : Doc) (k i : ℕ) (n : Node) (t : Target) → Shallow doc (suc k) n
    → first_target doc i n ≡ Some t → ShallowSlot doc k t.slot
first_shallow doc k i n t sh e =
    let d = out_and_then (λ (d : Dependency). cond (is_instance d.mode) (target_of doc i n d) None)
    (slice_get (deps doc n) 0) t e in
    let both = if_some (is_instance d.0.mode) (target_of doc i n d.0) t d.2 in
    direct_shallow doc k i n 0 d.0 t sh both.1 (first_enumerated (deps doc n) d.0 d.1)
    (instance_direct d.0.mode both.0)
