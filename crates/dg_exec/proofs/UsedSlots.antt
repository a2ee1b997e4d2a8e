-- Which slots are evaluated: those from which direct edges come to cells of producers that are
-- used.
use Rattle.std.proofs.Common.{◌≡◌, inl, inr, ℕ, zero, suc, ◌<◌, Bool, true, false, ◌||◌, is_some, List, [], length, slice_get, Contains, Option, Some, refl, sym, ap, subst, ◌∙◌}
use Rattle.std.specs.Option.{option_map_or}
use Rattle.std.proofs.lemmas.Bool.{false≢true}
use Rattle.std.proofs.lemmas.Option.{same_Some, slice_get_within}
use Rattle.dg_decl.specs.declared.document.Doc.{Doc}
use Rattle.dg_decl.specs.declared.graph.Node.{Node}
use Rattle.dg_decl.specs.declared.graph.NodeKind.{NodeKind}
use Rattle.dg_decl.specs.declared.graph.NodeKind.TheVariants as node
use Rattle.dg_decl.specs.Diagnostics.{IsAccepted}
use Rattle.dg_decl.specs.Graph.{Dependency, deps, node_of, nodes}
use Rattle.dg_decl.specs.Sizes.{scope_of, is_producer, is_production, is_entry}
use Rattle.dg_decl.specs.Stages.Bindings.{is_provider_mode}
use Rattle.dg_decl.proofs.MemberLemmas.{in_got}
use Rattle.dg_jobs.specs.Faithful.{IsUsed}
use Rattle.dg_jobs.specs.Jobs.{Needs, inputs_of}
use Rattle.dg_slots.specs.declared.session.Ask.{Ask}
use Rattle.dg_slots.specs.Sessions.{asks_of}
use Rattle.dg_eval.specs.Named.{Named, held_cell, made_lazy, way_to}
use Rattle.dg_eval.specs.Runs.{Asked, cell, lazy}
use Rattle.dg_eval.specs.Meaning.{node_at, is_cell, is_cell_node, Target, target_of, enough}
use Rattle.dg_eval.specs.Asks.{CellName, entry_node}
use Rattle.dg_eval.proofs.AcceptedDepth.{stages_of_accepted, found_no_entry}
use Rattle.dg_eval.proofs.RunResults.{Allowed}
use Rattle.dg_eval.proofs.TargetLemmas.{target_is}
use Rattle.dg_requests.proofs.Productions.{producer_is}
use Rattle.dg_exec.specs.Jobs.{is_producer_at, job_of_cell, reached, needed, inputs_of_jobs}
use Rattle.dg_exec.specs.Meanings.{meanings_of, used_by_job}
use Rattle.dg_exec.proofs.FitLemmas.{named, IsJobOf, job_place, producer_job, cell_inputs, ask_inputs, in_needed}
use Rattle.dg_exec.proofs.FitNeeds.{cell_job_within, ask_within, uses_input}
use Rattle.dg_exec.proofs.FitWalks.{DirectStep, out_reached, none_reached, reached_producer, reached_producer_step, reached_on_step}
use Rattle.dg_exec.proofs.UsedProductions.{way_free, direct_free, scoped_free}

-- a cell with a job is used
abbrev pub Used : Doc → CellName → Type 0
Used doc c = IsUsed (meanings_of doc) c × ((job : ℕ) × (job_of_cell doc c ≡ Some job))

-- the cells that direct edges from a node in an instance come to first are used
abbrev pub LeadsToUsed : Doc → ℕ → Node → Type 0
LeadsToUsed doc i n = (c : CellName) → Contains (reached doc enough i n) c → Used doc c

-- a slot that is neither a production nor an entry
pub record IsFree (doc : Doc) (k : ℕ) : Type 0 where
  pub node : Node
  pub is_node : node_at doc k ≡ Some node
  pub free : is_production doc node ≡ false
  pub no_entry : is_entry node ≡ false

-- a cell, which is used where it is a producer's
pub record CellUsed (doc : Doc) (i k : ℕ) : Type 0 where
  pub kept : is_cell doc k ≡ true
  pub used : is_producer_at doc k ≡ true → Used doc (named i k)

-- a slot may be evaluated in an instance
pub record SlotUsed (doc : Doc) (i k : ℕ) : Type 0 where
  pub node : Node
  pub is_node : node_at doc k ≡ Some node
  pub used : is_producer doc node ≡ true → Used doc (named i k)
  pub leads : is_producer doc node ≡ false → LeadsToUsed doc i node

-- ---- what may be named and asked for

abbrev pub NameFits : Doc → Named → Type 0
NameFits doc (held_cell i k) = CellUsed doc i k
NameFits doc (made_lazy i k p) = IsFree doc k
NameFits doc (way_to i k) = IsFree doc k

abbrev pub AskFits : Doc → Asked → Type 0
AskFits doc (cell i k) = CellUsed doc i k
AskFits doc (lazy i k p) = IsFree doc k

abbrev pub Fit : Doc → Allowed
Fit doc = record { name = NameFits doc; ask = AskFits doc }

-- ---- producers and cells by slot

pub producer_at : (doc : Doc) (k : ℕ) (n : Node) (b : Bool) → node_at doc k ≡ Some n
    → is_producer doc n ≡ b → is_producer_at doc k ≡ b
producer_at doc k n b is e =
    ap (λ (o : Option Node). option_map_or (is_producer doc) o false) is ∙ e

pub producer_of : (doc : Doc) (k : ℕ) (n : Node) (b : Bool) → node_at doc k ≡ Some n
    → is_producer_at doc k ≡ b → is_producer doc n ≡ b
producer_of doc k n b is e =
    sym (ap (λ (o : Option Node). option_map_or (is_producer doc) o false) is) ∙ e

pub cell_of_node : (doc : Doc) (k : ℕ) (n : Node) → node_at doc k ≡ Some n
    → is_cell doc k ≡ is_cell_node doc n
unfolding is_cell
cell_of_node doc k n is = ap (λ (o : Option Node). option_map_or (is_cell_node doc) o false) is

plain_second : (a b : Bool) → (a || b) ≡ false → b ≡ false
plain_second true b e = absurd (false≢true (sym e))
plain_second false b e = e

plain_first : (a b : Bool) → (a || b) ≡ true → b ≡ false → a ≡ true
plain_first true b e no_one = refl
plain_first false b e no_one = absurd (false≢true (sym no_one ∙ e))

either_second : (a b : Bool) → b ≡ true → (a || b) ≡ true
either_second true b e = refl
either_second false b e = e

pub no_cell_no_producer : (doc : Doc) (k : ℕ) (n : Node) → node_at doc k ≡ Some n
    → is_cell doc k ≡ false → is_producer doc n ≡ false
no_cell_no_producer doc k n is e =
    plain_second (is_some (scope_of doc n)) (is_producer doc n) (sym (cell_of_node doc k n is) ∙ e)

pub producer_is_cell : (doc : Doc) (k : ℕ) (n : Node) → node_at doc k ≡ Some n
    → is_producer doc n ≡ true → is_cell doc k ≡ true
producer_is_cell doc k n is e =
    cell_of_node doc k n is
    ∙ either_second (is_some (scope_of doc n)) (is_producer doc n) e

-- ---- slots that are no productions

nothing_reached : (doc : Doc) → IsAccepted doc → (edges i : ℕ) (n : Node) (c : CellName)
    → Contains (nodes doc) n → is_production doc n ≡ false → is_entry n ≡ false
    → Contains (reached doc edges i n) c → ⊥
nothing_reached doc accepted zero i n c among fails entry h = none_reached doc i n c h
nothing_reached doc accepted (suc edges) i n c among fails entry h =
    let o = out_reached doc edges i n c h in
    let s : DirectStep doc i n o.0 = o.1 in
    let x = target_is doc i n s.dependency o.0 s.found in
    let free : is_production doc x.0 ≡ false =
    direct_free doc accepted n s.dependency x.0 among fails entry s.among x.1 s.direct in
    let there : Contains (nodes doc) x.0 = in_got (nodes doc) o.0.slot x.0 x.2 in
    elim o.2 [
      | inl a ↦ false≢true (sym free ∙ producer_is doc x.0 there
          (producer_of doc o.0.slot x.0 true x.2 a.0))
      | inr a ↦ (let same : a.1.0 ≡ x.0 = same_Some a.1.0 x.0 (sym a.1.1 ∙ x.2) in
          let P : Node → Type 0 = λ y. Contains (reached doc edges o.0.inst y) c in
          nothing_reached doc accepted edges o.0.inst x.0 c there free
          (found_no_entry s.dependency.class s.dependency.key s.dependency.found x.0 x.1)
          (subst P same a.1.2))
    ]

pub free_leads : (doc : Doc) → IsAccepted doc → (i k : ℕ) (n : Node) → node_at doc k ≡ Some n
    → is_production doc n ≡ false → is_entry n ≡ false → LeadsToUsed doc i n
free_leads doc accepted i k n is fails entry c h =
    absurd (nothing_reached doc accepted enough i n c (in_got (nodes doc) k n is) fails entry h)

pub free_slot : (doc : Doc) → IsAccepted doc → (i k : ℕ) → IsFree doc k → SlotUsed doc i k
free_slot doc accepted i k f = record {
  node = f.node;
  is_node = f.is_node;
  used = λ p. absurd (false≢true (sym f.free
      ∙ producer_is doc f.node (in_got (nodes doc) k f.node f.is_node) p));
  leads = λ p. free_leads doc accepted i k f.node f.is_node f.free f.no_entry;
}

-- what a direct edge leads to
pub step_slot : (doc : Doc) → IsAccepted doc → (i : ℕ) (n : Node) (t : Target)
    → Contains (nodes doc) n → LeadsToUsed doc i n → DirectStep doc i n t
    → SlotUsed doc t.inst t.slot
step_slot doc accepted i n t among leads s =
    let none = stages_of_accepted doc accepted in
    let x = target_is doc i n s.dependency t s.found in
    record {
      node = x.0;
      is_node = x.2;
      used = λ p. leads (named t.inst t.slot) (reached_producer_step doc i n t s
          (producer_at doc t.slot x.0 true x.2 p));
      leads = λ p c h. leads c (reached_on_step doc none i n t x.0 c among s
          (producer_at doc t.slot x.0 false x.2 p) x.2 h);
    }

-- what a request for a Provider or a Lazy leads to
pub way_slot : (doc : Doc) → IsAccepted doc → (i : ℕ) (n : Node) (d : Dependency) (t : Target)
    → Contains (nodes doc) n → Contains (deps doc n) d → target_of doc i n d ≡ Some t
    → is_provider_mode d.mode ≡ true → IsFree doc t.slot
way_slot doc accepted i n d t among c found way =
    let x = target_is doc i n d t found in
    record {
      node = x.0;
      is_node = x.2;
      free = way_free doc accepted n d x.0 among c x.1 way;
      no_entry = found_no_entry d.class d.key d.found x.0 x.1;
    }

-- ---- jobs that are used

abbrev pub JobUsed : Doc → ℕ → Type 0
JobUsed doc job =
    (c : CellName) → Contains (used_by_job doc job) c → IsUsed (meanings_of doc) c

pub ask_is_used : (doc : Doc) (job : ℕ) → job < length (asks_of doc) → JobUsed doc job
ask_is_used doc job lt c h = (0, (job, lt, h))

pub cell_is_used : (doc : Doc) (c : CellName) (job : ℕ) → IsUsed (meanings_of doc) c
    → job_of_cell doc c ≡ Some job → JobUsed doc job
cell_is_used doc c job u e d h = (suc u.0, (c, job, u.1, e, h))

input_used : (doc : Doc) (job i : ℕ) (n : Node) (c : CellName) → JobUsed doc job
    → job < length (inputs_of_jobs doc) → inputs_of (inputs_of_jobs doc) job ≡ needed doc i n
    → Contains (reached doc enough i n) c → Used doc c
input_used doc job i n c used lt inputs h =
    let other = producer_job doc c (reached_producer doc enough i n c h) in
    let P : List ℕ → Type 0 = λ xs. Contains xs other.0 in
    let needs : Needs (inputs_of_jobs doc) job other.0 =
    subst P (sym inputs) (in_needed doc i n c other.0 h other.1) in
    (used c (uses_input doc job other.0 c lt needs other.1), other)

-- from a producer whose cell is used
pub used_leads : (doc : Doc) (i k : ℕ) (n : Node) → node_at doc k ≡ Some n
    → Used doc (named i k) → LeadsToUsed doc i n
used_leads doc i k n is u c h =
    let job = u.1 in
    let place : IsJobOf doc (named i k) job.0 = job_place doc (named i k) job.0 job.1 in
    input_used doc job.0 i n c (cell_is_used doc (named i k) job.0 u.0 job.1)
    (cell_job_within doc (named i k) job.0 job.1).1
    (cell_inputs doc job.0 (named i k) place
    ∙ ap (λ (o : Option Node). option_map_or (needed doc i) o []) is) h

-- from the entry of an ask
pub ask_leads : (doc : Doc) (job : ℕ) (a : Ask) (n : Node) → slice_get (asks_of doc) job ≡ Some a
    → entry_node doc a ≡ Some n → LeadsToUsed doc a.inst n
ask_leads doc job a n is entry c h =
    let lt : job < length (asks_of doc) = slice_get_within (asks_of doc) job a is in
    input_used doc job a.inst n c (ask_is_used doc job lt) (ask_within doc job lt)
    (ask_inputs doc job a is
    ∙ ap (λ (o : Option Node). option_map_or (needed doc a.inst) o []) entry) h

-- ---- cells whose content is evaluated

scoped_no_entry : (doc : Doc) (class : ℕ) (k : NodeKind)
    → is_some (scope_of doc (node_of class k)) ≡ true → is_entry (node_of class k) ≡ false
scoped_no_entry doc class (node.EntryOf e) scoped = absurd (false≢true scoped)
scoped_no_entry doc class other scoped = refl

-- the node of a cell that is used: the direct edges from it come to cells that are used
pub cell_leads : (doc : Doc) → IsAccepted doc → (i k : ℕ) (n : Node) → node_at doc k ≡ Some n
    → CellUsed doc i k → LeadsToUsed doc i n
cell_leads doc accepted i k n is u = by_test (is_producer doc n) refl
  where
    among : Contains (nodes doc) n
    among = in_got (nodes doc) k n is

    by_test : (b : Bool) → is_producer doc n ≡ b → LeadsToUsed doc i n
    by_test true e = used_leads doc i k n is (u.used (producer_at doc k n true is e))
    by_test false e =
        (let scoped : is_some (scope_of doc n) ≡ true =
        plain_first (is_some (scope_of doc n)) (is_producer doc n)
        (sym (cell_of_node doc k n is) ∙ u.kept) e in
        free_leads doc accepted i k n is (scoped_free doc n among scoped e)
        (scoped_no_entry doc n.class n.kind scoped))
