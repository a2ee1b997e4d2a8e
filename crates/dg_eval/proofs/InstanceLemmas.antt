-- Instances by the lines that open them: in an accepted document each has the parent and the links
-- that its class wants.
use Rattle.std.proofs.Common.{◌≡◌, inl, inr, ℕ, zero, suc, ◌+◌, ◌<◌, ◌≤◌, ◌==◌, Bool, true, false, cond, not, ◌&&◌, ◌||◌, List, [], ◌∷◌, ◌++◌, map, filter, filter_map, flat_map, find, position, slice_get, Contains, Option, Some, None, option_map, option_and_then, option_to_list, bytes_eq, refl, sym, ap, ◌∙◌, subst, arith}
use Rattle.std.specs.Option.{option_map_or, option_or}
use Rattle.std.specs.Cmp.Lexicographic.{bytes_decides}
use Rattle.std.proofs.lemmas.Bool.{false≢true, true≢false, ltb-true, eq-eqb, eqb-true, cases_lt, or_cases, true_from_ne_false}
use Rattle.std.proofs.lemmas.Option.{none-some, same_Some, slice_get-get_or, slice_get-map}
use Rattle.dg_lex.specs.Bytes.{Bytes, is_among}
use Rattle.dg_hilt.specs.Table.{HiltRow, hilt_classes, hilt_names}
use Rattle.dg_hilt.specs.Names.{predefined_names}
use Rattle.dg_decl.specs.declared.document.Doc.{Doc}
use Rattle.dg_decl.specs.declared.item.Item.{Item}
use Rattle.dg_decl.specs.declared.item.Item.TheVariants as item
use Rattle.dg_decl.specs.declared.item.Param.{Param}
use Rattle.dg_decl.specs.declared.violation.Rule.TheVariants as rule
use Rattle.dg_decl.specs.declared.violation.Violation.{Violation}
use Rattle.dg_decl.specs.Document.{Statement, statements, statements_from, open_behind}
use Rattle.dg_decl.specs.Limits.{is_open_line}
use Rattle.dg_decl.specs.Names.{outer_name, is_called, declared}
use Rattle.dg_decl.specs.Components.{hilt_count, is_component, component_headers, number_of_header, class_named, class_name, parent_of, deps_of}
use Rattle.dg_decl.specs.Diagnostics.{diagnostics, IsAccepted}
use Rattle.dg_decl.specs.Stages.Names.{instance_name, stands_before, Mention, mention, component_class, in_expr, mentions, is_component_item, is_defined_component_item, is_known, duplicate_name, unknown_name, names_stage}
use Rattle.dg_decl.specs.Stages.Types.{types_stage}
use Rattle.dg_decl.specs.Stages.Components.{at_line, components_stage}
use Rattle.dg_decl.specs.Stages.Dependencies.{dependencies_stage}
use Rattle.dg_decl.specs.Stages.Bindings.{bindings_stage}
use Rattle.dg_decl.specs.Stages.Sizes.{sizes_stage}
use Rattle.dg_decl.specs.Stages.Session.{opened_before, opened_class, class_opened, class_of_instance, unknown_instance, fits_parent, wrong_parent, first_of, first_broken, session_at, session_stage}
use Rattle.dg_decl.specs.Stages.Links.{Tie, tie_of, same_tie, unknown_linked, wrong_dependency, is_tied, untied, missing_link, links_at, links_stage}
use Rattle.dg_decl.proofs.NodeWalks.{any_found}
use Rattle.dg_decl.proofs.NodeEquality.{first_so, second_so}
use Rattle.dg_decl.proofs.MemberLemmas.{none_in, in_front, in_map, out_map, in_filter, out_filter, in_flat_map, in_option, out_option_map, out_and_then, in_got}
use Rattle.dg_slots.specs.declared.session.Inst.{Inst}
use Rattle.dg_slots.specs.Sessions.{open_lines, number_of_line, instance_before, inst_of, insts_of}
use Rattle.dg_slots.specs.Links.{ties, linked_by, linked, links_of_line, links_of}
use Rattle.dg_eval.specs.World.{inst_at, class_of_inst, parent_of_inst, link}
use Rattle.dg_eval.proofs.AcceptedDepth.{not_nil, first_nil, nil_right, flat_nil}
use Rattle.dg_eval.proofs.InputLists.{has_place, at_place, EachGiven, given_at, given_kept, found_is, finds_any}

-- ---- the stages

-- the stages that instances rest on find nothing
pub record SessionFindsNothing (doc : Doc) : Type 0 where
  pub names : names_stage doc ≡ []
  pub session : session_stage doc ≡ []
  pub links : links_stage doc ≡ []

pub session_of_accepted : (doc : Doc) → IsAccepted doc → SessionFindsNothing doc
unfolding diagnostics
session_of_accepted doc e =
    let a = first_nil (names_stage doc) _ e in
    let b = first_nil (types_stage doc) _ a.1 in
    let c = first_nil (components_stage doc) _ b.1 in
    let d = first_nil (dependencies_stage doc) _ c.1 in
    let f = first_nil (bindings_stage doc) _ d.1 in
    let g = first_nil (sizes_stage doc) _ f.1 in
    let s = first_nil (session_stage doc) _ g.1 in
    let l = first_nil (links_stage doc) _ s.1 in
    record { names = a.0; session = s.0; links = l.0 }

pub none_there : {A : Type 0} (x : A) (xs : List A) → xs ≡ [] → Contains xs x → ⊥
none_there {A} x xs e c = let P : List A → Type 0 = λ zs. Contains zs x in none_in x (subst P e c)

map_nil : {A B : Type 0} (f : A → B) (xs : List A) → map f xs ≡ [] → xs ≡ []
map_nil f [] e = refl
map_nil f (x ∷ xs) e = absurd (not_nil (f x) (map f xs) e)

first_of_nil : (ns : List Bytes) → first_of ns ≡ [] → ns ≡ []
first_of_nil [] e = refl
first_of_nil (n ∷ ns) e = absurd (not_nil n [] e)

broken_nil : (xs : List Violation) (later : List (List Violation)) → first_broken (xs ∷ later) ≡ []
    → (xs ≡ []) × (first_broken later ≡ [])
broken_nil [] later e = (refl, e)
broken_nil (v ∷ vs) later e = absurd (not_nil v [] e)

holds_there : {A : Type 0} (b : Bool) (x : A) (xs : List A) → cond b [] (x ∷ xs) ≡ [] → b ≡ true
holds_there true x xs e = refl
holds_there false x xs e = absurd (not_nil x xs e)

-- ---- a statement by its index

index_is : (doc : Doc) (k : ℕ) (b : Option ℕ) (xs : List Item) (j : ℕ) (s : Statement)
    → slice_get (statements_from doc k b xs) j ≡ Some s → s.index ≡ k + j
index_is doc k b [] j s e = absurd (none-some s e)
index_is doc k b (x ∷ xs) zero s e =
    (let same : k ≡ s.index = ap (λ (t : Statement). t.index) (same_Some _ s e) in omega arith)
index_is doc k b (x ∷ xs) (suc j) s e =
    (let next : s.index ≡ suc k + j = index_is doc (suc k) (open_behind b k x) xs j s e in
    omega arith)

stands_at : (doc : Doc) (s : Statement) → Contains (statements doc) s
    → slice_get (statements doc) s.index ≡ Some s
unfolding statements
stands_at doc s c =
    let got : slice_get (statements doc) c.0 ≡ Some s =
    slice_get-get_or (statements doc) c.0 s c.1 ∙ ap Some c.2 in
    let place : s.index ≡ 0 + c.0 = index_is doc 0 None doc.items c.0 s got in
    let same : s.index ≡ c.0 = omega arith in
    ap (slice_get (statements doc)) same ∙ got

one_statement : (doc : Doc) (s t : Statement) → Contains (statements doc) s
    → Contains (statements doc) t → s.index ≡ t.index → s ≡ t
one_statement doc s t there here e =
    same_Some s t
    (sym (stands_at doc s there) ∙ ap (slice_get (statements doc)) e ∙ stands_at doc t here)

-- ---- the order of lines

-- the indices rise, and the first is at least this number
abbrev Rises : ℕ → List Statement → Type 0
Rises low [] = Unit {0}
Rises low (s ∷ ss) = (low ≤ s.index) × Rises (suc s.index) ss

rises_lower : (low high : ℕ) (ss : List Statement) → low ≤ high → Rises high ss → Rises low ss
rises_lower low high [] le rises = tt
rises_lower low high (s ∷ ss) le rises =
    ((let first : high ≤ s.index = rises.0 in omega arith), rises.1)

rises_kept : (b : Bool) (low : ℕ) (s : Statement) (ss : List Statement) → low ≤ s.index
    → Rises (suc s.index) ss → Rises low (cond b (s ∷ ss) ss)
rises_kept true low s ss le rises = (le, rises)
rises_kept false low s ss le rises = rises_lower low (suc s.index) ss (omega arith) rises

rises_filter : (p : Statement → Bool) (low : ℕ) (ss : List Statement) → Rises low ss
    → Rises low (filter p ss)
rises_filter p low [] rises = tt
rises_filter p low (s ∷ ss) rises =
    rises_kept (p s) low s (filter p ss) rises.0 (rises_filter p (suc s.index) ss rises.1)

from_rises : (doc : Doc) (index : ℕ) (block : Option ℕ) (items : List Item)
    → Rises index (statements_from doc index block items)
from_rises doc index block [] = tt
from_rises doc index block (x ∷ xs) =
    (omega arith, from_rises doc (suc index) (open_behind block index x) xs)

at_least : (low : ℕ) (ss : List Statement) (k : ℕ) (s : Statement) → Rises low ss
    → slice_get ss k ≡ Some s → low ≤ s.index
at_least low [] k s rises e = absurd (none-some s e)
at_least low (t ∷ ts) zero s rises e =
    (let first : low ≤ t.index = rises.0 in
    let same : t.index ≡ s.index = ap (λ (x : Statement). x.index) (same_Some t s e) in omega arith)
at_least low (t ∷ ts) (suc k) s rises e =
    (let first : low ≤ t.index = rises.0 in
    let later : suc t.index ≤ s.index = at_least (suc t.index) ts k s rises.1 e in omega arith)

ordered : (low : ℕ) (ss : List Statement) (i k : ℕ) (s t : Statement) → Rises low ss
    → slice_get ss i ≡ Some s → slice_get ss k ≡ Some t → i ≤ k → s.index ≤ t.index
ordered low [] i k s t rises e f le = absurd (none-some s e)
ordered low (r ∷ rs) zero zero s t rises e f le =
    (let a : r.index ≡ s.index = ap (λ (x : Statement). x.index) (same_Some r s e) in
    let b : r.index ≡ t.index = ap (λ (x : Statement). x.index) (same_Some r t f) in omega arith)
ordered low (r ∷ rs) zero (suc k) s t rises e f le =
    (let a : r.index ≡ s.index = ap (λ (x : Statement). x.index) (same_Some r s e) in
    let later : suc r.index ≤ t.index = at_least (suc r.index) rs k t rises.1 f in omega arith)
ordered low (r ∷ rs) (suc i) zero s t rises e f le = absurd (omega arith)
ordered low (r ∷ rs) (suc i) (suc k) s t rises e f le =
    ordered (suc r.index) rs i k s t rises.1 e f (omega arith)

-- the line of a lower index opens the instance of a lower number
opened_earlier : (doc : Doc) (i k : ℕ) (s t : Statement) → slice_get (open_lines doc) i ≡ Some s
    → slice_get (open_lines doc) k ≡ Some t → t.index < s.index → k < i
unfolding statements
opened_earlier doc i k s t e f before = elim (cases_lt k i) [
  | inl lt ↦ lt
  | inr le ↦ (let rises = rises_filter (λ (s : Statement). is_open_line s.item) 0 (statements doc)
      (from_rises doc 0 None doc.items) in
      let other : s.index ≤ t.index = ordered 0 (open_lines doc) i k s t rises e f le in
      absurd (omega arith))
]

-- ---- the class of a line that opens an instance

so_declared : (p : Item → Bool) (o : Option Statement)
    → option_map_or (λ s. p s.item) o false ≡ true
    → (s : Statement) × (o ≡ Some s) × (p s.item ≡ true)
so_declared p None h = absurd (false≢true h)
so_declared p (Some s) h = (s, refl, h)

component_is : (x : Item) → (is_component_item x || is_defined_component_item x) ≡ true
    → is_component x ≡ true
component_is (item.Component scopes n parent modules) h = refl
component_is (item.DefineComponent scopes n parent) h = refl
component_is other h = absurd (false≢true h)

otherwise_is : {A : Type 0} (b : Bool) (o : Option A) (x : A) → cond b None o ≡ Some x
    → o ≡ Some x
otherwise_is true o x e = absurd (none-some x e)
otherwise_is false o x e = e

declared_stands : (doc : Doc) (n : Bytes) (s : Statement) → declared doc n ≡ Some s
    → Contains (statements doc) s
unfolding declared
declared_stands doc n s e =
    (found_is (is_called outer_name n) (statements doc) s
    (otherwise_is (is_among n predefined_names) (find (is_called outer_name n) (statements doc)) s
    e)).0

header_number : (doc : Doc) (s : Statement) → Contains (statements doc) s
    → is_component s.item ≡ true → (c : ℕ) × (number_of_header doc s ≡ Some c)
header_number doc s c h =
    let among = in_filter (λ (t : Statement). is_component t.item) (statements doc) s c h in
    let place = has_place (λ (t : Statement). t.index == s.index) (component_headers doc) s among
    (eq-eqb s.index s.index refl) in
    (hilt_count + place.0, ap (option_map (λ k. hilt_count + k)) place.1)

hilt_number : (rows : List HiltRow) (n : Bytes)
    → is_among n (map (λ (row : HiltRow). row.class) rows) ≡ true
    → (c : ℕ) × (position (λ (row : HiltRow). bytes_eq row.class n) rows ≡ Some c)
hilt_number rows n h =
    let found = any_found (bytes_eq n) (map (λ (row : HiltRow). row.class) rows) h in
    let row = out_map (λ (row : HiltRow). row.class) rows found.at found.among in
    let same : n ≡ found.at = (bytes_decides n found.at).0 found.passes in
    has_place (λ (row : HiltRow). bytes_eq row.class n) rows row.0 row.1
    ((bytes_decides row.0.class n).1 (row.2 ∙ sym same))

or_first : (o p : Option ℕ) (k : ℕ) → o ≡ Some k → (c : ℕ) × (option_or o p ≡ Some c)
or_first None p k e = absurd (none-some k e)
or_first (Some c) p k e = (c, refl)

or_second : (o p : Option ℕ) (k : ℕ) → p ≡ Some k → (c : ℕ) × (option_or o p ≡ Some c)
or_second None p k e = (k, e)
or_second (Some c) p k e = (c, refl)

known_class : (doc : Doc) (params : List Param) (n : Bytes)
    → is_known doc params component_class n ≡ true → (c : ℕ) × (class_named doc n ≡ Some c)
unfolding class_named
known_class doc params n h = elim (or_cases (is_among n hilt_names) _ h) [
  | inl e ↦ (let k = hilt_number hilt_classes n e in
      or_first _ (option_and_then (number_of_header doc) (declared doc n)) k.0 k.1)
  | inr e ↦ (let s = so_declared (λ x. is_component_item x || is_defined_component_item x)
      (declared doc n) e in
      let k = header_number doc s.0 (declared_stands doc n s.0 s.1) (component_is s.0.item s.2) in
      or_second _ (option_and_then (number_of_header doc) (declared doc n)) k.0
      (ap (option_and_then (number_of_header doc)) s.1 ∙ k.1))
]

class_known : (doc : Doc) → names_stage doc ≡ [] → (i l : ℕ) (block : Option ℕ) (x : Item)
    → Contains (statements doc) (record { index = i; line = l; block = block; item = x })
    → is_open_line x ≡ true
    → (c : ℕ) × (option_and_then (class_named doc) (opened_class x) ≡ Some c)
unfolding names_stage unknown_name mentions
class_known doc none i l block (item.OpenLine n class parent args) stands h =
    let s : Statement = record {
      index = i;
      line = l;
      block = block;
      item = item.OpenLine n class parent args;
    } in
    let each = flat_nil (λ (s : Statement). duplicate_name doc s ++ unknown_name doc s)
    (statements doc) s none stands in
    let unknown : unknown_name doc s ≡ [] =
    nil_right (duplicate_name doc s) (unknown_name doc s) each in
    let m : Mention = mention component_class class in
    known_class doc [] class
    (true_from_ne_false (is_known doc [] component_class class) (λ fails.
    none_there (at_line rule.UnknownName s class) (unknown_name doc s) unknown
    (in_map (λ (m : Mention). at_line rule.UnknownName s m.name)
    (filter (λ (m : Mention). not (is_known doc [] m.wanted m.name)) (mentions s.item)) m
    (in_filter (λ (m : Mention). not (is_known doc [] m.wanted m.name)) (mentions s.item) m
    (in_front m (flat_map (λ a. in_expr a.value) args)) (ap not fails)))))
class_known doc none i l block x stands h = absurd (false≢true h)

-- ---- what a line opens

abbrev opened_parent : Item → Option Bytes
opened_parent (item.OpenLine n class parent args) = parent
opened_parent other = None

record Opens (doc : Doc) (s : Statement) (x : Inst) : Type 0 where
  open_line : is_open_line s.item ≡ true
  class : class_opened doc s ≡ Some x.class
  parent : x.parent ≡ option_and_then (instance_before doc s) (opened_parent s.item)

opens : (doc : Doc) (i l : ℕ) (block : Option ℕ) (x : Item) (y : Inst)
    → inst_of doc (record { index = i; line = l; block = block; item = x }) ≡ Some y
    → Opens doc (record { index = i; line = l; block = block; item = x }) y
unfolding inst_of
opens doc i l block (item.OpenLine n class parent args) y e =
    let c = out_option_map _ (class_named doc class) y e in
    record {
      open_line = refl;
      class = c.1 ∙ ap (λ (y : Inst). Some y.class) c.2;
      parent = sym (ap (λ (y : Inst). y.parent) c.2);
    }
opens doc i l block x y e = absurd (none-some y e)

opened_as : (doc : Doc) (i l : ℕ) (block : Option ℕ) (x : Item) (c : ℕ)
    → option_and_then (class_named doc) (opened_class x) ≡ Some c
    → (y : Inst) × (inst_of doc (record { index = i; line = l; block = block; item = x })
    ≡ Some y) × (y.class ≡ c)
unfolding inst_of
opened_as doc i l block (item.OpenLine n class parent args) c e = (_, ap (option_map _) e, refl)
opened_as doc i l block x c e = absurd (none-some c e)

opens_none : (doc : Doc) (i l : ℕ) (block : Option ℕ) (x : Item) → is_open_line x ≡ false
    → inst_of doc (record { index = i; line = l; block = block; item = x }) ≡ None
unfolding inst_of
opens_none doc i l block (item.OpenLine n class parent args) h = absurd (true≢false h)
opens_none doc i l block x h = refl

open_stands : (doc : Doc) (s : Statement) → Contains (open_lines doc) s
    → Contains (statements doc) s × (is_open_line s.item ≡ true)
open_stands doc s c = out_filter (λ (s : Statement). is_open_line s.item) (statements doc) s c

-- the instance of a number is that of the line of this number
insts_are : (doc : Doc) → names_stage doc ≡ [] → (k : ℕ)
    → inst_at doc k ≡ option_and_then (inst_of doc) (slice_get (open_lines doc) k)
unfolding insts_of
insts_are doc none k =
    ap (λ (xs : List Inst). slice_get xs k)
    (given_kept (inst_of doc) (λ (s : Statement). is_open_line s.item) (statements doc)
    (λ s h. opens_none doc s.index s.line s.block s.item h))
    ∙ given_at (inst_of doc) (open_lines doc) k (λ s c. given s (open_stands doc s c))
  where
    given : (s : Statement) → Contains (statements doc) s × (is_open_line s.item ≡ true)
        → (y : Inst) × (inst_of doc s ≡ Some y)
    given s c =
        let class = class_known doc none s.index s.line s.block s.item c.0 c.1 in
        let y = opened_as doc s.index s.line s.block s.item class.0 class.1 in
        (y.0, y.1)

-- the line that opens an instance of a class
pub record LineOf (doc : Doc) (i c : ℕ) : Type 0 where
  line : Statement
  at : slice_get (open_lines doc) i ≡ Some line
  stands : Contains (statements doc) line
  inst : Inst
  is_inst : inst_at doc i ≡ Some inst
  opens_it : Opens doc line inst
  class : class_opened doc line ≡ Some c

line_of : (doc : Doc) → names_stage doc ≡ [] → (i c : ℕ) → class_of_inst doc i ≡ Some c
    → LineOf doc i c
line_of doc none i c e =
    let x = out_option_map (λ (x : Inst). x.class) (inst_at doc i) c e in
    let s = out_and_then (inst_of doc) (slice_get (open_lines doc) i) x.0
    (sym (insts_are doc none i) ∙ x.1) in
    let o = opens doc s.0.index s.0.line s.0.block s.0.item x.0 s.2 in
    record {
      line = s.0;
      at = s.1;
      stands = (open_stands doc s.0 (in_got (open_lines doc) i s.0 s.1)).0;
      inst = x.0;
      is_inst = x.1;
      opens_it = o;
      class = o.class ∙ ap Some x.2;
    }

class_at_line : (doc : Doc) → names_stage doc ≡ [] → (k c : ℕ) (s : Statement)
    → slice_get (open_lines doc) k ≡ Some s → class_opened doc s ≡ Some c
    → class_of_inst doc k ≡ Some c
class_at_line doc none k c s at e =
    let y = opened_as doc s.index s.line s.block s.item c e in
    ap (option_map (λ (x : Inst). x.class))
    (insts_are doc none k ∙ ap (option_and_then (inst_of doc)) at ∙ y.1)
    ∙ ap Some y.2

-- ---- an instance by its name

called_opens : (n : Bytes) (i l : ℕ) (block : Option ℕ) (x : Item)
    → is_called instance_name n (record { index = i; line = l; block = block; item = x }) ≡ true
    → is_open_line x ≡ true
called_opens n i l block (item.OpenLine m class parent args) h = refl
called_opens n i l block x h = absurd (false≢true h)

-- a line that opens an instance has the number of that instance
numbered_line : (doc : Doc) (s : Statement) → Contains (statements doc) s
    → is_open_line s.item ≡ true
    → (k : ℕ) × (number_of_line doc s ≡ Some k) × (slice_get (open_lines doc) k ≡ Some s)
numbered_line doc s stands h =
    let here : Statement → Bool = λ t. t.index == s.index in
    let among = in_filter (λ (t : Statement). is_open_line t.item) (statements doc) s stands h in
    let place = has_place here (open_lines doc) s among (eq-eqb s.index s.index refl) in
    let t = at_place here (open_lines doc) place.0 place.1 in
    let there = open_stands doc t.0 (in_got (open_lines doc) place.0 t.0 t.1) in
    let same : t.0 ≡ s =
    one_statement doc t.0 s there.0 stands (eqb-true t.0.index s.index t.2) in
    (place.0, place.1, t.1 ∙ ap Some same)

-- an instance of this name and class is opened before a statement
record IsNamed (doc : Doc) (s : Statement) (n : Bytes) (c : ℕ) : Type 0 where
  number : ℕ
  is_number : instance_before doc s n ≡ Some number
  class : class_of_inst doc number ≡ Some c
  line : Statement
  at : slice_get (open_lines doc) number ≡ Some line
  before : line.index < s.index

named_line : (doc : Doc) → names_stage doc ≡ [] → (s : Statement) (n : Bytes) (c : ℕ)
    (t : Statement) → opened_before doc s n ≡ Some t → class_opened doc t ≡ Some c
    → IsNamed doc s n c
unfolding instance_before
named_line doc none s n c t is class =
    let found = found_is (λ (t : Statement). stands_before t s && is_called instance_name n t)
    (statements doc) t is in
    let called = second_so (stands_before t s) (is_called instance_name n t) found.1 in
    let k = numbered_line doc t found.0 (called_opens n t.index t.line t.block t.item called) in
    record {
      number = k.0;
      is_number = ap (option_and_then (number_of_line doc)) is ∙ k.1;
      class = class_at_line doc none k.0 c t k.2 class;
      line = t;
      at = k.2;
      before = ltb-true t.index s.index
          (first_so (stands_before t s) (is_called instance_name n t) found.1);
    }

named_is : (doc : Doc) → names_stage doc ≡ [] → (s : Statement) (n : Bytes) (c : ℕ)
    → class_of_instance doc s n ≡ Some c → IsNamed doc s n c
named_is doc none s n c e =
    let t = out_and_then (class_opened doc) (opened_before doc s n) c e in
    named_line doc none s n c t.0 t.1 t.2

-- ---- parents

fits_some : (wanted is_given : Option ℕ) (p : ℕ) → wanted ≡ Some p
    → fits_parent wanted is_given ≡ true → is_given ≡ Some p
fits_some None is_given p e h = absurd (none-some p e)
fits_some (Some a) None p e h = absurd (false≢true h)
fits_some (Some a) (Some b) p e h = ap Some (sym (eqb-true a b h) ∙ same_Some a p e)

parent_given : (doc : Doc) → SessionFindsNothing doc → (i l : ℕ) (block : Option ℕ) (x : Item)
    (c p : ℕ)
    → Contains (statements doc) (record { index = i; line = l; block = block; item = x })
    → option_and_then (class_named doc) (opened_class x) ≡ Some c → parent_of doc c ≡ Some p
    → (m : Bytes) × (opened_parent x ≡ Some m)
    × (class_of_instance doc (record { index = i; line = l; block = block; item = x }) m ≡ Some p)
unfolding session_stage session_at wrong_parent
parent_given doc none i l block (item.OpenLine n class parent args) c p stands is up =
    let s : Statement = record {
      index = i;
      line = l;
      block = block;
      item = item.OpenLine n class parent args;
    } in
    let at : session_at doc s ≡ [] =
    flat_nil (session_at doc) (statements doc) s none.session stands in
    let later = broken_nil (unknown_instance doc s) _ at in
    let fits : wrong_parent doc s ≡ [] = (broken_nil (wrong_parent doc s) _ later.1).0 in
    let wanted = ap (option_and_then (parent_of doc)) is ∙ up in
    let found = fits_some (option_and_then (parent_of doc) (class_named doc class))
    (option_and_then (class_of_instance doc s) parent) p wanted (holds_there _ _ [] fits) in
    out_and_then (class_of_instance doc s) parent p found
parent_given doc none i l block x c p stands is up = absurd (none-some c is)

-- the instance in which another one was opened is one of the parent's class
pub record ParentOf (doc : Doc) (i p : ℕ) : Type 0 where
  pub number : ℕ
  pub is_parent : parent_of_inst doc i ≡ Some number
  pub class : class_of_inst doc number ≡ Some p
  pub before : number < i

pub parent_is : (doc : Doc) → SessionFindsNothing doc → (i c p : ℕ)
    → class_of_inst doc i ≡ Some c → parent_of doc c ≡ Some p → ParentOf doc i p
parent_is doc none i c p e up =
    let l = line_of doc none.names i c e in
    let m = parent_given doc none l.line.index l.line.line l.line.block l.line.item c p l.stands
    l.class up in
    let w = named_is doc none.names l.line m.0 p m.2 in
    record {
      number = w.number;
      is_parent = ap (option_and_then (λ (x : Inst). x.parent)) l.is_inst ∙ l.opens_it.parent
          ∙ ap (option_and_then (instance_before doc l.line)) m.1 ∙ w.is_number;
      class = w.class;
      before = opened_earlier doc i w.number l.line w.line l.at w.at w.before;
    }

-- ---- links

so_tied : (o : Option Tie) (t : Tie) → option_map_or (same_tie t) o false ≡ true
    → (u : Tie) × (o ≡ Some u) × (same_tie t u ≡ true)
so_tied None t h = absurd (false≢true h)
so_tied (Some u) t h = (u, refl, h)

then_is : {A : Type 0} (b : Bool) (x y : A) → cond b (Some x) None ≡ Some y → x ≡ y
then_is true x y e = same_Some x y e
then_is false x y e = absurd (none-some y e)

-- a line that ties an instance leads to one of the class
tied_by : (doc : Doc) → names_stage doc ≡ [] → (from : Bytes) (d i l : ℕ) (block : Option ℕ)
    (x : Item) → ties doc from d (record { index = i; line = l; block = block; item = x }) ≡ true
    → (j : ℕ) × (linked_by doc (record { index = i; line = l; block = block; item = x })
    ≡ Some j) × (class_of_inst doc j ≡ Some d)
unfolding tie_of
tied_by doc none from d i l block (item.Link a b) h =
    let s : Statement = record { index = i; line = l; block = block; item = item.Link a b } in
    let t = so_tied (tie_of doc s) (record { from = from; class = d }) h in
    let of = out_and_then _ (class_of_instance doc s a) t.0 t.1 in
    let to = out_and_then _ (class_of_instance doc s b) t.0 of.2 in
    let tie = then_is _ (record { from = a; class = to.0 }) t.0 to.2 in
    let same : to.0 ≡ d = ap (λ (t : Tie). t.class) tie
    ∙ sym (eqb-true d t.0.class (second_so (bytes_eq from t.0.from) (d == t.0.class) t.2)) in
    let w = named_is doc none s b d (to.1 ∙ ap Some same) in
    (w.number, w.is_number, w.class)
tied_by doc none from d i l block x h = absurd (false≢true h)

linked_is : (doc : Doc) → names_stage doc ≡ [] → (from : Bytes) (d : ℕ) → is_tied doc from d ≡ true
    → (j : ℕ) × (linked doc from d ≡ Some j) × (class_of_inst doc j ≡ Some d)
unfolding linked
linked_is doc none from d h =
    let e = finds_any (ties doc from d) (statements doc) h in
    let found = found_is (ties doc from d) (statements doc) e.0 e.1 in
    let w = tied_by doc none from d e.0.index e.0.line e.0.block e.0.item found.1 in
    (w.0, ap (option_and_then (linked_by doc)) e.1 ∙ w.1, w.2)

linked_given : (doc : Doc) → names_stage doc ≡ [] → (from : Bytes) (d : ℕ)
    → is_tied doc from d ≡ true → (j : ℕ) × (linked doc from d ≡ Some j)
linked_given doc none from d h = (let w = linked_is doc none from d h in (w.0, w.1))

-- the instance of a line that opens one is tied for each dependency of its class
all_tied : (doc : Doc) → SessionFindsNothing doc → (n : Bytes) (s : Statement)
    (c d : ℕ) → Contains (statements doc) s → instance_name s.item ≡ Some n
    → class_opened doc s ≡ Some c → Contains (deps_of doc c) d → is_tied doc n d ≡ true
unfolding links_stage links_at missing_link
all_tied doc none n s c d stands name is among =
    let at : links_at doc s ≡ [] = flat_nil (links_at doc) (statements doc) s none.links stands in
    let a = broken_nil (unknown_linked doc s) _ at in
    let b = broken_nil (wrong_dependency doc s) _ a.1 in
    let missing : missing_link doc s ≡ [] = (broken_nil (missing_link doc s) _ b.1).0 in
    let none_left : untied doc s ≡ [] = map_nil (class_name doc) (untied doc s)
    (first_of_nil _ (map_nil (at_line rule.MissingLink s) _ missing)) in
    true_from_ne_false (is_tied doc n d) (λ fails. none_there d (untied doc s) none_left
    (in_flat_map _ (option_to_list (instance_name s.item)) n d (in_option _ n name)
    (in_filter (λ d. not (is_tied doc n d)) _ d
    (in_flat_map (deps_of doc) (option_to_list (class_opened doc s)) c d (in_option _ c is) among)
    (ap not fails))))

has_name : (x : Item) → is_open_line x ≡ true → (n : Bytes) × (instance_name x ≡ Some n)
has_name (item.OpenLine n class parent args) h = (n, refl)
has_name x h = absurd (false≢true h)

links_are : (doc : Doc) (s : Statement) (n : Bytes) (c : ℕ) → instance_name s.item ≡ Some n
    → class_opened doc s ≡ Some c
    → links_of_line doc s ≡ filter_map (linked doc n) (deps_of doc c)
unfolding links_of_line
links_are doc s n c name is = rw (name, is) refl

-- the links of an instance, by the line that opens it
links_at_line : (doc : Doc) (i : ℕ) (s : Statement) → slice_get (open_lines doc) i ≡ Some s
    → slice_get (links_of doc) i ≡ Some (links_of_line doc s)
unfolding links_of
links_at_line doc i s at =
    slice_get-map (links_of_line doc) (open_lines doc) i ∙ ap (option_map (links_of_line doc)) at

link_by_line : (doc : Doc) → SessionFindsNothing doc → (i c dep d : ℕ) (s : Statement) (n : Bytes)
    → slice_get (open_lines doc) i ≡ Some s → Contains (statements doc) s
    → instance_name s.item ≡ Some n → class_opened doc s ≡ Some c
    → slice_get (deps_of doc c) dep ≡ Some d → link doc i dep ≡ linked doc n d
unfolding link
link_by_line doc none i c dep d s n line stands name class at =
    let each : EachGiven (linked doc n) (deps_of doc c) = λ d among.
    linked_given doc none.names n d (all_tied doc none n s c d stands name class among) in
    ap (option_and_then (λ (tied : List ℕ). slice_get tied dep)) (links_at_line doc i s line)
    ∙ ap (λ (tied : List ℕ). slice_get tied dep) (links_are doc s n c name class)
    ∙ given_at (linked doc n) (deps_of doc c) dep each
    ∙ ap (option_and_then (linked doc n)) at

-- the instance to which another one is tied for a dependency of its class is one of that class
pub link_is : (doc : Doc) → SessionFindsNothing doc → (i c dep d : ℕ)
    → class_of_inst doc i ≡ Some c → slice_get (deps_of doc c) dep ≡ Some d
    → (j : ℕ) × (link doc i dep ≡ Some j) × (class_of_inst doc j ≡ Some d)
link_is doc none i c dep d e at =
    let l = line_of doc none.names i c e in
    let n = has_name l.line.item l.opens_it.open_line in
    let is_link = link_by_line doc none i c dep d l.line n.0 l.at l.stands n.1 l.class at in
    let tied = all_tied doc none n.0 l.line c d l.stands n.1 l.class
    (in_got (deps_of doc c) dep d at) in
    let j = linked_is doc none.names n.0 d tied in
    (j.0, is_link ∙ j.1, j.2)
