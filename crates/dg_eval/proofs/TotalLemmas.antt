-- Evaluation has a result at the depth of a node: the number of nodes on its longest walk.
use Rattle.std.proofs.Common.{◌≡◌, ◌<◌, ◌≤◌, ℕ, zero, suc, ◌+◌, true, false, List, [], ◌∷◌, length, get_or, slice_get, Contains, Option, Some, None, refl, sym, ap, subst, ◌∙◌, arith}
use Rattle.std.specs.List.{enumerate_from}
use Rattle.std.specs.Option.{option_map_or}
use Rattle.std.proofs.lemmas.Option.{same_Some, slice_get_within, get_or_from_slice_get, slice_get_read}
use Rattle.dg_types.specs.declared.key.Mode.{Mode}
use Rattle.dg_types.specs.declared.key.Mode.TheVariants as mode
use Rattle.dg_decl.specs.declared.document.Doc.{Doc}
use Rattle.dg_decl.specs.declared.graph.EdgeKind.TheVariants as edge
use Rattle.dg_decl.specs.declared.graph.Node.{Node}
use Rattle.dg_decl.specs.Graph.{Dependency, deps, target, nodes, edge_kind, needed_targets, is_called_mode}
use Rattle.dg_decl.specs.Sizes.{is_producer, is_production}
use Rattle.dg_value.specs.declared.place.Place.{Place}
use Rattle.dg_value.specs.declared.place.PlaceStep.TheVariants as step
use Rattle.dg_value.specs.declared.value.Value.{Value, out-Value}
use Rattle.dg_value.specs.declared.value.Kept.TheOpen.{Value-F}
use Rattle.dg_value.specs.declared.value.Value.TheVariants as value
use Rattle.dg_value.specs.Places.{then_step}
use Rattle.dg_value.specs.Same.{Layer}
use Rattle.dg_eval.specs.Named.{Named, held_cell, made_lazy, way_to, names_in}
use Rattle.dg_eval.specs.Runs.{Asked, cell, lazy, Run, asking, all, mistyped}
use Rattle.dg_eval.specs.Bodies.{End}
use Rattle.dg_eval.specs.Meaning.{node_at, is_cell, cell_place, Eval, content, held, instance, lazy_content, give, got_at, look_at, look, Target, target_of, step_to, given_one, given, first_target, producer_from, awaited_slot, awaited_at}
use Rattle.dg_eval.specs.At.{called_mode, calls_of}
use Rattle.dg_eval.proofs.RunResults.{Allowed, Gives, Each, each_map, gives_wider, gives_more, then_gives, asking_gives, outcome_gives, if_gives, Along, all_give}
use Rattle.dg_eval.proofs.ValueLemmas.{AllIn, InLayer, layer_of, in_held, in_provider, in_provider_lazy, in_lazy, in_failed, in_good, out_provider, out_provider_lazy, out_lazy}
use Rattle.dg_eval.proofs.BodyResults.{AtEnd}
use Rattle.dg_eval.proofs.TargetLemmas.{Shallow, ShallowSlot, none_shallow, more_shallow, direct_shallow, first_shallow}

-- ---- where nodes and Lazies may stand

-- where an evaluation of a slot, or a Lazy of one, may stand
abbrev pub Spot : Type 1
Spot = ℕ → ℕ → Place → Type 0

-- what is given in a mode stands at its place
abbrev pub Placed : Spot → Spot → Mode → ℕ → ℕ → Place → Type 0
Placed N L mode.Instance i s q = N i s q
Placed N L mode.Produced i s q = N i s q
Placed N L mode.Lazy i s q = L i s q
Placed N L other i s q = Unit {0}

-- what a way leads to is a slot of which no walk has more than 128 nodes, and what is evaluated or
-- made stands where it may
pub record Placing (doc : Doc) (N L : Spot) : Type 0 where
  pub cell : (i s : ℕ) → N i s (cell_place i s)
  pub inside : (i s : ℕ) (p : Place) (n : Node) → node_at doc s ≡ Some n → L i s p
      → N i s (then_step p step.Inside)
  pub arg : (i s : ℕ) (q : Place) (n : Node) (m : ℕ) (d : Dependency) (t : Target)
      → node_at doc s ≡ Some n → N i s q → Contains (enumerate_from 0 (deps doc n)) (m, d)
      → target_of doc i n d ≡ Some t
      → Placed N L d.mode t.inst t.slot (then_step q (step_to n.kind (suc m)))
  pub slot : (i : ℕ) (n : Node) (d : Dependency) (t : Target) → target_of doc i n d ≡ Some t
      → ShallowSlot doc 128 t.slot
  pub call : (i s : ℕ) (q : Place) (n : Node) (c p : ℕ) (d : Dependency) (t : Target)
      → node_at doc s ≡ Some n → N i s q → slice_get (calls_of doc n) c ≡ Some p
      → slice_get (deps doc n) p ≡ Some d → target_of doc i n d ≡ Some t
      → Placed N L (called_mode d.mode) t.inst t.slot (then_step q (step.Call (suc c)))

-- a request for a way to a value
abbrev pub IsDeferred : Mode → Type 0
IsDeferred mode.Instance = ⊥
IsDeferred mode.Produced = ⊥
IsDeferred other = Unit {0}

-- a parameter that the body of a node calls is a way to a value, and unless its call gives a Lazy an
-- edge leads to where it leads
pub record CallsAreEdges (doc : Doc) : Type 0 where
  pub deferred : (n : Node) (p : ℕ) (d : Dependency) → Contains (nodes doc) n
      → Contains (calls_of doc n) p → slice_get (deps doc n) p ≡ Some d → IsDeferred d.mode
  pub needed : (n : Node) (p : ℕ) (d : Dependency) (t : Node) → Contains (nodes doc) n
      → Contains (calls_of doc n) p → slice_get (deps doc n) p ≡ Some d
      → is_called_mode d.mode ≡ true → target d ≡ Some t → Contains (needed_targets doc n) t

-- ---- what values name

abbrev pub NamedWithin : Doc → Spot → ℕ → Named → Type 0
NamedWithin doc L k (held_cell i s) = ShallowSlot doc k s
NamedWithin doc L k (made_lazy i s p) = ShallowSlot doc 128 s × L i s p
NamedWithin doc L k (way_to i s) = ShallowSlot doc 128 s

abbrev pub AskedWithin : Doc → Spot → ℕ → Asked → Type 0
AskedWithin doc L k (cell i s) = ShallowSlot doc k s
AskedWithin doc L k (lazy i s p) = ShallowSlot doc k s × L i s p

abbrev pub Within : Doc → Spot → ℕ → Allowed
Within doc L k = record { name = NamedWithin doc L k; ask = AskedWithin doc L k }

abbrev pub Good : Doc → Spot → ℕ → Value → Type 0
Good doc L k v = AllIn (Within doc L k) v

more_named : (doc : Doc) (L : Spot) (k : ℕ) (x : Named) → NamedWithin doc L k x
    → NamedWithin doc L (suc k) x
more_named doc L k (held_cell i s) h = more_shallow doc k s h
more_named doc L k (made_lazy i s p) h = h
more_named doc L k (way_to i s) h = h

more_asked : (doc : Doc) (L : Spot) (k : ℕ) (x : Asked) → AskedWithin doc L k x
    → AskedWithin doc L (suc k) x
more_asked doc L k (cell i s) h = more_shallow doc k s h
more_asked doc L k (lazy i s p) h = (more_shallow doc k s h.0, h.1)

more_good : (doc : Doc) (L : Spot) (k : ℕ) (v : Value) → Good doc L k v → Good doc L (suc k) v
more_good doc L k v good =
    each_map (NamedWithin doc L k) (NamedWithin doc L (suc k)) (names_in v)
    (more_named doc L k) good

-- what a run over k gives, which may ask for what is within k
abbrev pub Has : Doc → Spot → ℕ → Run Value → Type 0
Has doc L k r = Gives (Within doc L k) (Good doc L k) r

pub more_given : (doc : Doc) (L : Spot) (k : ℕ) (r : Run Value) → Has doc L k r
    → Has doc L (suc k) r
more_given doc L k r g =
    gives_wider (Within doc L k) (Within doc L (suc k)) (Good doc L k) (Good doc L (suc k)) r
    (more_good doc L k) (more_asked doc L k) g

-- ---- over the evaluation at the depth below

abbrev pub HasAll : Doc → Spot → Spot → ℕ → Eval → Type 0
HasAll doc N L d f =
    (k i s : ℕ) (q : Place) → suc k ≤ d → ShallowSlot doc (suc k) s → N i s q
    → Has doc L k (f i s q)

pub instance_has : (doc : Doc) (N L : Spot) → Placing doc N L → (d : ℕ) (f : Eval)
    → HasAll doc N L d f → (k i s : ℕ) (q : Place) → k ≤ d → ShallowSlot doc k s → N i s q
    → Has doc L k (instance doc f i s q)
instance_has doc N L pl d f has zero i s q le sh at = absurd (none_shallow doc s sh)
instance_has doc N L pl d f has (suc k) i s q le sh at =
    if_gives (Within doc L (suc k)) (Good doc L (suc k)) (is_cell doc s) (held f i s) (f i s q)
    (asking_gives (Within doc L k) (Within doc L (suc k)) (Good doc L (suc k)) (cell i s) _ sh
    (then_gives (Within doc L k) (Good doc L k) (Good doc L (suc k)) (content f i s) _
    (has k i s (cell_place i s) le sh (pl.cell i s))
    (λ v good. (in_held (Within doc L (suc k)) i s sh, tt))))
    (more_given doc L k (f i s q) (has k i s q le sh at))

pub lazy_has : (doc : Doc) (N L : Spot) → Placing doc N L → (d : ℕ) (f : Eval)
    → HasAll doc N L d f → (k i s : ℕ) (p : Place) → k ≤ d → ShallowSlot doc k s → L i s p
    → Has doc L k (lazy_content doc f i s p)
lazy_has doc N L pl d f has k i s p le sh at =
    instance_has doc N L pl d f has k i s (then_step p step.Inside) le sh
    (pl.inside i s p sh.0 sh.1 at)

look_at_has : (R : Allowed) (behind : ℕ → ℕ → Run Value) (v : Value) (l : Layer)
    → InLayer R l → AllIn R v
    → ((i s : ℕ) → R.name (held_cell i s) → Gives R (AllIn R) (behind i s))
    → Gives R (AllIn R) (look_at behind v l)
look_at_has R behind v (Value-F.Held i s) parts good h = h i s parts
look_at_has R behind v other parts good h = (good, tt)

pub look_has : (doc : Doc) (N L : Spot) → Placing doc N L → (d : ℕ) (f : Eval) → HasAll doc N L d f
    → (times k : ℕ) → k ≤ times → k ≤ d → (v : Value) → Good doc L k v
    → Has doc L k (look f times v)
look_has doc N L pl d f has zero zero le below v good =
    look_at_has (Within doc L zero) _ v (out-Value v) (layer_of (Within doc L zero) v good) good
    (λ i s sh. absurd (none_shallow doc s sh))
look_has doc N L pl d f has zero (suc k) le below v good = absurd (omega arith)
look_has doc N L pl d f has (suc times) zero le below v good =
    look_at_has (Within doc L zero) _ v (out-Value v) (layer_of (Within doc L zero) v good) good
    (λ i s sh. absurd (none_shallow doc s sh))
look_has doc N L pl d f has (suc times) (suc k) le below v good =
    look_at_has (Within doc L (suc k)) _ v (out-Value v) (layer_of (Within doc L (suc k)) v good)
    good (λ i s sh. then_gives (Within doc L (suc k)) (Good doc L k) (Good doc L (suc k))
    (asking (cell i s) (content f i s)) (look f times)
    (asking_gives (Within doc L k) (Within doc L (suc k)) (Good doc L k) (cell i s)
    (content f i s) sh (has k i s (cell_place i s) below sh (pl.cell i s)))
    (λ w gw. more_given doc L k (look f times w)
    (look_has doc N L pl d f has times k (omega arith) (omega arith) w gw)))

-- ---- what is given

-- a way to a value, as a request in a mode gives it
abbrev pub FitsMode : Spot → Mode → Target → Value → Type 0
FitsMode L mode.Provider t v = v ≡ value.Provider t.inst t.slot
FitsMode L mode.Producer t v = v ≡ value.Provider t.inst t.slot
FitsMode L mode.ProviderLazy t v = v ≡ value.ProviderLazy t.inst t.slot
FitsMode L mode.Lazy t v = (p : Place) × (v ≡ value.Lazy t.inst t.slot p) × L t.inst t.slot p
FitsMode L other t v = Unit {0}

abbrev pub Fits : Doc → Spot → ℕ → ℕ → Node → Dependency → Value → Type 0
Fits doc L k i n d v =
    AllIn (Within doc L k) v
    × ((t : Target) × (target_of doc i n d ≡ Some t) × FitsMode L d.mode t v)

pub give_has : (doc : Doc) (N L : Spot) → Placing doc N L → (d : ℕ) (f : Eval) → HasAll doc N L d f
    → (k : ℕ) (m : Mode) (t : Target) (q : Place) → k ≤ d
    → (edge_kind m ≡ edge.Direct → ShallowSlot doc k t.slot) → ShallowSlot doc 128 t.slot
    → Placed N L m t.inst t.slot q
    → Gives (Within doc L k) (λ v. AllIn (Within doc L k) v × FitsMode L m t v)
    (give doc f m t.inst t.slot q)
give_has doc N L pl d f has k mode.Instance t q le sh way at =
    gives_more (Within doc L k) (Good doc L k) _ (instance doc f t.inst t.slot q)
    (λ v good. (good, tt)) (instance_has doc N L pl d f has k t.inst t.slot q le (sh refl) at)
give_has doc N L pl d f has k mode.Produced t q le sh way at =
    outcome_gives (Within doc L k) (Good doc L k) _ (instance doc f t.inst t.slot q)
    (instance_has doc N L pl d f has k t.inst t.slot q le (sh refl) at)
    (λ v good. (in_good (Within doc L k) v good, tt)) (λ e. (in_failed (Within doc L k) e, tt))
give_has doc N L pl d f has k mode.Provider t q le sh way at =
    ((in_provider (Within doc L k) t.inst t.slot way, refl), tt)
give_has doc N L pl d f has k mode.Producer t q le sh way at =
    ((in_provider (Within doc L k) t.inst t.slot way, refl), tt)
give_has doc N L pl d f has k mode.ProviderLazy t q le sh way at =
    ((in_provider_lazy (Within doc L k) t.inst t.slot way, refl), tt)
give_has doc N L pl d f has k mode.Lazy t q le sh way at =
    ((in_lazy (Within doc L k) t.inst t.slot q (way, at), (q, refl, at)), tt)

pub option_gives : {A B : Type 0} (R : Allowed) (P : B → Type 0) (o : Option A) (f : A → Run B)
    → ((a : A) → o ≡ Some a → Gives R P (f a)) → Gives R P (option_map_or f o mistyped)
option_gives R P None f h = tt
option_gives R P (Some a) f h = h a refl

abbrev pub Given : Doc → Spot → ℕ → ℕ → Node → ℕ × Dependency → Value → Type 0
Given doc L k i n a v = Fits doc L k i n a.1 v

pub given_one_has : (doc : Doc) (N L : Spot) → Placing doc N L → (d : ℕ) (f : Eval)
    → HasAll doc N L d f → (k i s : ℕ) (n : Node) (q : Place) → k ≤ d → node_at doc s ≡ Some n
    → Shallow doc (suc k) n → N i s q → (m : ℕ) (dep : Dependency)
    → Contains (enumerate_from 0 (deps doc n)) (m, dep)
    → Gives (Within doc L k) (Fits doc L k i n dep) (given_one doc f i n q (suc m) dep)
given_one_has doc N L pl d f has k i s n q le is sh at m dep c =
    option_gives (Within doc L k) (Fits doc L k i n dep) (target_of doc i n dep) _
    (λ t e. gives_more (Within doc L k) (λ v. AllIn (Within doc L k) v × FitsMode L dep.mode t v)
    (Fits doc L k i n dep)
    (give doc f dep.mode t.inst t.slot (then_step q (step_to n.kind (suc m))))
    (λ v fits. (fits.0, (t, e, fits.1)))
    (give_has doc N L pl d f has k dep.mode t (then_step q (step_to n.kind (suc m))) le
    (λ direct. direct_shallow doc k i n m dep t sh e c direct) (pl.slot i n dep t e)
    (pl.arg i s q n m dep t is at c e)))

pub given_has : (doc : Doc) (N L : Spot) → Placing doc N L → (d : ℕ) (f : Eval) → HasAll doc N L d f
    → (k i s : ℕ) (n : Node) (q : Place) → k ≤ d → node_at doc s ≡ Some n
    → Shallow doc (suc k) n → N i s q
    → Gives (Within doc L k) (Along (Given doc L k i n) (enumerate_from 0 (deps doc n)))
    (all (given doc f i n q))
given_has doc N L pl d f has k i s n q le is sh at =
    all_give (Within doc L k) (Given doc L k i n) (λ a. given_one doc f i n q (suc a.0) a.1)
    (enumerate_from 0 (deps doc n))
    (λ a c. given_one_has doc N L pl d f has k i s n q le is sh at a.0 a.1 c)

-- ---- parameters

pub along_good : (doc : Doc) (L : Spot) (k i : ℕ) (n : Node) (j : ℕ) (ds : List Dependency)
    → (vs : List Value) → Along (Given doc L k i n) (enumerate_from j ds) vs
    → Each (AllIn (Within doc L k)) vs
along_good doc L k i n j [] [] all = tt
along_good doc L k i n j [] (v ∷ vs) all = absurd all
along_good doc L k i n j (d ∷ ds) [] all = tt
along_good doc L k i n j (d ∷ ds) (v ∷ vs) all =
    (all.0.0, along_good doc L k i n (j + 1) ds vs all.1)

along_got : (doc : Doc) (L : Spot) (k i : ℕ) (n : Node) (j : ℕ) (ds : List Dependency)
    → (vs : List Value) (p : ℕ) (v : Value)
    → Along (Given doc L k i n) (enumerate_from j ds) vs → p < length vs → get_or vs p v ≡ v
    → (d : Dependency) × (p < length ds) × (get_or ds p d ≡ d) × Fits doc L k i n d v
along_got doc L k i n j [] [] p v all lt e = absurd (omega arith)
along_got doc L k i n j [] (w ∷ vs) p v all lt e = absurd all
along_got doc L k i n j (d ∷ ds) [] p v all lt e = absurd (omega arith)
along_got doc L k i n j (d ∷ ds) (w ∷ vs) zero v all lt e =
    (d, omega arith, refl, subst (Fits doc L k i n d) e all.0)
along_got doc L k i n j (d ∷ ds) (w ∷ vs) (suc p) v all lt e =
    let r = along_got doc L k i n (j + 1) ds vs p v all.1 (omega arith) e in
    let below : p < length ds = r.1 in
    (r.0, omega arith, r.2, r.3)

-- the dependency of which a parameter is the value
pub param_got : (doc : Doc) (L : Spot) (k i : ℕ) (n : Node) (vs : List Value) (p : ℕ) (v : Value)
    → Along (Given doc L k i n) (enumerate_from 0 (deps doc n)) vs → slice_get vs p ≡ Some v
    → (d : Dependency) × (slice_get (deps doc n) p ≡ Some d) × Fits doc L k i n d v
param_got doc L k i n vs p v all e =
    let r = along_got doc L k i n 0 (deps doc n) vs p v all (slice_get_within vs p v e)
    (get_or_from_slice_get vs p v v e) in
    (r.0, slice_get_read (deps doc n) (length (deps doc n)) p r.0 refl r.1 (sym r.2), r.3)

-- ---- calls

pub got_fits : (doc : Doc) (N L : Spot) → Placing doc N L → (d : ℕ) (f : Eval) → HasAll doc N L d f
    → (k : ℕ) (m : Mode) (t : Target) (v : Value) (q : Place) → k ≤ d → IsDeferred m
    → FitsMode L m t v → (is_called_mode m ≡ true → ShallowSlot doc k t.slot)
    → ShallowSlot doc 128 t.slot → Placed N L (called_mode m) t.inst t.slot q
    → Has doc L k (got_at doc f (out-Value v) q)
got_fits doc N L pl d f has k mode.Instance t v q le way fits sh most at = absurd way
got_fits doc N L pl d f has k mode.Produced t v q le way fits sh most at = absurd way
got_fits doc N L pl d f has k mode.Provider t v q le way fits sh most at =
    let P : Layer → Type 0 = λ l. Has doc L k (got_at doc f l q) in
    subst P (sym (ap out-Value fits ∙ out_provider t.inst t.slot))
    (instance_has doc N L pl d f has k t.inst t.slot q le (sh refl) at)
got_fits doc N L pl d f has k mode.Producer t v q le way fits sh most at =
    let P : Layer → Type 0 = λ l. Has doc L k (got_at doc f l q) in
    subst P (sym (ap out-Value fits ∙ out_provider t.inst t.slot))
    (instance_has doc N L pl d f has k t.inst t.slot q le (sh refl) at)
got_fits doc N L pl d f has k mode.ProviderLazy t v q le way fits sh most at =
    let P : Layer → Type 0 = λ l. Has doc L k (got_at doc f l q) in
    subst P (sym (ap out-Value fits ∙ out_provider_lazy t.inst t.slot))
    (in_lazy (Within doc L k) t.inst t.slot q (most, at), tt)
got_fits doc N L pl d f has k mode.Lazy t v q le way fits sh most at =
    let P : Layer → Type 0 = λ l. Has doc L k (got_at doc f l q) in
    subst P (sym (ap out-Value fits.1 ∙ out_lazy t.inst t.slot fits.0))
    (asking_gives (Within doc L k) (Within doc L k) (Good doc L k) (lazy t.inst t.slot fits.0)
    (lazy_content doc f t.inst t.slot fits.0) (sh refl, fits.2)
    (lazy_has doc N L pl d f has k t.inst t.slot fits.0 le (sh refl) fits.2))

producer_has : (doc : Doc) (R : Allowed) (times k i s : ℕ) → k ≤ times → ShallowSlot doc k s
    → Gives R (λ t. ShallowSlot doc k t.slot) (producer_from doc times i s)
producer_has doc R zero zero i s le sh = absurd (none_shallow doc s sh)
producer_has doc R (suc times) zero i s le sh = absurd (none_shallow doc s sh)
producer_has doc R zero (suc k) i s le sh = absurd (omega arith)
producer_has doc R (suc times) (suc k) i s le sh =
    option_gives R (λ t. ShallowSlot doc (suc k) t.slot) (node_at doc s) _
    (λ n e. (let same : sh.0 ≡ n = same_Some sh.0 n (sym sh.1 ∙ e) in
    let shallow : Shallow doc (suc k) n = subst (Shallow doc (suc k)) same sh.2 in
    if_gives R (λ t. ShallowSlot doc (suc k) t.slot) (is_producer doc n) _ _ (sh, tt)
    (option_gives R (λ t. ShallowSlot doc (suc k) t.slot) (first_target doc i n) _
    (λ t found. gives_more R (λ t. ShallowSlot doc k t.slot) (λ t. ShallowSlot doc (suc k) t.slot)
    (producer_from doc times t.inst t.slot) (λ t less. more_shallow doc k t.slot less)
    (producer_has doc R times k t.inst t.slot (omega arith)
    (first_shallow doc k i n t shallow found))))))

abbrev pub Ends : Doc → Spot → ℕ → End → Type 0
Ends doc L k e = AtEnd (Within doc L k) (λ i s. ShallowSlot doc k s) e

awaited_has : (doc : Doc) (N L : Spot) → Placing doc N L → (d : ℕ) (f : Eval)
    → HasAll doc N L d f → (k i s : ℕ) (q : Place) → k ≤ d → ShallowSlot doc k s → N i s q
    → Gives (Within doc L k) (Ends doc L k) (awaited_slot doc f d i s q)
awaited_has doc N L pl d f has k i s q le sh at =
    if_gives (Within doc L k) (Ends doc L k)
    (option_map_or (is_production doc) (node_at doc s) false) _ _
    (then_gives (Within doc L k) (λ t. ShallowSlot doc k t.slot) (Ends doc L k)
    (producer_from doc d i s) _ (producer_has doc (Within doc L k) d k i s le sh)
    (λ t less. (less, tt)))
    (then_gives (Within doc L k) (Good doc L k) (Ends doc L k) (instance doc f i s q) _
    (instance_has doc N L pl d f has k i s q le sh at) (λ v good. (good, tt)))

pub awaited_fits : (doc : Doc) (N L : Spot) → Placing doc N L → (d : ℕ) (f : Eval)
    → HasAll doc N L d f → (k : ℕ) (m : Mode) (t : Target) (v : Value) (q : Place) → k ≤ d
    → IsDeferred m → FitsMode L m t v → (is_called_mode m ≡ true → ShallowSlot doc k t.slot)
    → Placed N L (called_mode m) t.inst t.slot q
    → Gives (Within doc L k) (Ends doc L k) (awaited_at doc f d (out-Value v) q)
awaited_fits doc N L pl d f has k mode.Instance t v q le way fits sh at = absurd way
awaited_fits doc N L pl d f has k mode.Produced t v q le way fits sh at = absurd way
awaited_fits doc N L pl d f has k mode.Provider t v q le way fits sh at =
    let P : Layer → Type 0 = λ l. Gives (Within doc L k) (Ends doc L k) (awaited_at doc f d l q) in
    subst P (sym (ap out-Value fits ∙ out_provider t.inst t.slot))
    (awaited_has doc N L pl d f has k t.inst t.slot q le (sh refl) at)
awaited_fits doc N L pl d f has k mode.Producer t v q le way fits sh at =
    let P : Layer → Type 0 = λ l. Gives (Within doc L k) (Ends doc L k) (awaited_at doc f d l q) in
    subst P (sym (ap out-Value fits ∙ out_provider t.inst t.slot))
    (awaited_has doc N L pl d f has k t.inst t.slot q le (sh refl) at)
awaited_fits doc N L pl d f has k mode.ProviderLazy t v q le way fits sh at =
    let P : Layer → Type 0 = λ l. Gives (Within doc L k) (Ends doc L k) (awaited_at doc f d l q) in
    subst P (sym (ap out-Value fits ∙ out_provider_lazy t.inst t.slot)) tt
awaited_fits doc N L pl d f has k mode.Lazy t v q le way fits sh at =
    let P : Layer → Type 0 = λ l. Gives (Within doc L k) (Ends doc L k) (awaited_at doc f d l q) in
    subst P (sym (ap out-Value fits.1 ∙ out_lazy t.inst t.slot fits.0)) tt
