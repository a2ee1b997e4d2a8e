-- What a statement adds to the tables is what it binds in each class.
use Rattle.std.proofs.Common.{◌≡◌, inl, inr, ℕ, zero, suc, ◌+◌, ◌<◌, ◌≤◌, ◌==◌, nat_lt, Bool, true, false, cond, ◌&&◌, List, [], ◌∷◌, ◌++◌, length, map, take, drop, filter, filter_map, flat_map, position, slice_get, Contains, Option, Some, None, is_some, option_map, option_and_then, option_to_list, unwrap_or, if◌then◌else◌, refl, sym, ap, subst, ◌∙◌, arith}
use Rattle.std.specs.List.{range_with_len}
use Rattle.std.specs.Option.{option_map_or}
use Rattle.std.proofs.lemmas.Bool.{eq-eqb, ne_eqb, lt-ltb, cases_lt}
use Rattle.std.proofs.lemmas.List.{append-nil, append_assoc, length-map, flat_map_more}
use Rattle.std.proofs.lemmas.List.Elements.{Contains-append_right}
use Rattle.std.proofs.lemmas.Option.{slice_get_past}
use Rattle.dg_hilt.specs.Table.{HiltRow, hilt_classes}
use Rattle.dg_types.specs.declared.key.Key.{Key}
use Rattle.dg_types.specs.declared.shape.TypeUse.{TypeUse}
use Rattle.dg_types.specs.Equality.{same_key}
use Rattle.dg_decl.specs.declared.document.Doc.{Doc}
use Rattle.dg_decl.specs.declared.component.Bound.{Bound}
use Rattle.dg_decl.specs.declared.component.Class.{Class}
use Rattle.dg_decl.specs.declared.component.Exposed.{Exposed}
use Rattle.dg_decl.specs.declared.binding.Bind.{Bind}
use Rattle.dg_decl.specs.declared.binding.BindRef.TheVariants as ref
use Rattle.dg_decl.specs.declared.binding.Owned.{Owned}
use Rattle.dg_decl.specs.Document.{Statement, statements}
use Rattle.dg_decl.specs.Components.{hilt_count, hilt_row, is_number, class_count, class_of_number, component_classes, header_of, own_members, bound_in, bound_of, default_bound, exposed_of, exposed_by_class}
use Rattle.dg_decl.specs.Lookup.{key_of_use, has_key, owned, acts_in, binding_of, bindings, is_explicit, explicit_default, explicit_exposed, is_header_of, bound_lines, explicit_argument, explicit_member, explicit_at, explicit}
use Rattle.dg_decl.proofs.MemberLemmas.{in_front, out_range, in_range}
use Rattle.dg_resolve.specs.declared.members.Wanted.TheVariants as wanted
use Rattle.dg_resolve.specs.Explicit.{rows_of_default, rows_of_bounds, bounds_at, rows_of_hilt, rows_of_entry, rows_of_entries, entries_at, rows_of_exposed, classes_around, rows_of_argument, rows_of_bound, classes_of_line, key_of_line, next_at, rows_of_next, rows_of_statement, KnowsExplicit}
use Rattle.dg_resolve.specs.Known.{HaveExplicit}
use Rattle.dg_resolve.specs.Members.{takes, header_index, rows_of_member, AreHeaders, AreInstallers, AreModules}
use Rattle.dg_resolve.specs.Tables.{Numbers, Rows, of_number, of_class, row, Grows, Holds, AddsUnder}
use Rattle.dg_resolve.proofs.LineLemmas.{in_block, is_line, lines_are, around_is, line_at, next_is, position_among, rises_behind}
use Rattle.dg_resolve.proofs.ListLemmas.{flat_map_same, flat_map_nothing, filter_as, at_range, pick}
use Rattle.dg_resolve.proofs.MemberRows.{member_row, row_here, row_elsewhere}
use Rattle.dg_resolve.proofs.StatementLemmas.{Rises, statements_rise}

-- ---- keys

has_none : (k : Key) (t : TypeUse) → key_of_use t ≡ None → has_key k t ≡ false
has_none k t e = rw e refl

has_some : (k x : Key) (t : TypeUse) → key_of_use t ≡ Some x → has_key k t ≡ same_key x k
has_some k x t e = rw e refl

-- ---- default bindings

default_row : (c : ℕ) (k : Key) (b : Bound)
    → rows_of_default c b c k ≡ (if has_key k b.shape then owned c ref.Default ∷ [] else [])
default_row c k b = by (key_of_use b.shape) refl
  where
    by : (o : Option Key) → key_of_use b.shape ≡ o
        → rows_of_default c b c k ≡ (if has_key k b.shape then owned c ref.Default ∷ [] else [])
    by None e =
        ap (λ (o : Option Key). flat_map (λ x. row c x (owned c ref.Default) c k) (option_to_list o)) e
        ∙ ap (λ (t : Bool). if t then owned c ref.Default ∷ [] else []) (sym (has_none k b.shape e))
    by (Some x) e =
        ap (λ (o : Option Key). flat_map (λ x. row c x (owned c ref.Default) c k) (option_to_list o)) e
        ∙ append-nil (row c x (owned c ref.Default) c k)
        ∙ row_here x (owned c ref.Default) c k
        ∙ ap (λ (t : Bool). if t then owned c ref.Default ∷ [] else []) (sym (has_some k x b.shape e))

default_elsewhere : (x c : ℕ) (k : Key) (b : Bound) → (c == x) ≡ false → rows_of_default x b c k ≡ []
default_elsewhere x c k b ne =
    flat_map_nothing (λ y. row x y (owned x ref.Default) c k) (option_to_list (key_of_use b.shape))
    (λ y h. row_elsewhere x y (owned x ref.Default) c k ne)

bounds_elsewhere : (classes : List Class) (c : ℕ) (k : Key) (x : ℕ) → (c == x) ≡ false
    → rows_of_bounds x (bounds_at classes x) c k ≡ []
bounds_elsewhere classes c k x ne =
    flat_map_nothing (λ b. rows_of_default x b c k) (bounds_at classes x) (λ b h. default_elsewhere x c k b ne)

bounds_here : (c : ℕ) (k : Key) (bs : List Bound)
    → rows_of_bounds c bs c k ≡ map (λ b. owned c ref.Default) (filter (λ b. has_key k b.shape) bs)
bounds_here c k bs =
    flat_map_same (λ b. rows_of_default c b c k)
    (λ b. if has_key k b.shape then owned c ref.Default ∷ [] else []) bs (λ b h. default_row c k b)
    ∙ filter_as (λ b. has_key k b.shape) (λ b. owned c ref.Default) bs

-- one of Hilt's classes has its default binding alone
bound_of_hilt : (doc : Doc) (c : ℕ) → c < hilt_count
    → bound_of doc c ≡ option_to_list (option_and_then default_bound (hilt_row c))
unfolding bound_of header_of
bound_of_hilt doc c lt =
    let within : nat_lt c hilt_count ≡ true = lt-ltb c hilt_count lt in
    rw within (append-nil (option_to_list (option_and_then default_bound (hilt_row c))))

bounds_are : (doc : Doc) (classes : List Class) (c : ℕ) → classes ≡ component_classes doc
    → c < class_count doc → bounds_at classes c ≡ bound_of doc c
unfolding component_classes
bounds_are doc classes c e lt =
    ap (λ (l : List Class). bounds_at l c) e
    ∙ ap (λ (o : Option Class). option_map_or (λ x. x.bound) o []) (at_range (class_of_number doc) (class_count doc) c lt)

all_picked : (n a : ℕ) → range_with_len a n ≡ flat_map (λ x. if true then x ∷ [] else []) (range_with_len a n)
all_picked zero a = refl
all_picked (suc n) a = ap (λ (l : List ℕ). a ∷ l) (all_picked n (a + 1))

pub hilt_rows : (doc : Doc) (classes : List Class) (c : ℕ) (k : Key) → classes ≡ component_classes doc
    → c < class_count doc → rows_of_hilt classes hilt_count c k ≡ explicit_default doc c k
hilt_rows doc classes c k e lt =
    elim (cases_lt c hilt_count) [
      | inl within ↦ (
          ap (λ (l : List ℕ). flat_map (λ x. rows_of_bounds x (bounds_at classes x) c k) l) (all_picked hilt_count 0)
          ∙ pick (λ x. true) (λ x. rows_of_bounds x (bounds_at classes x) c k) c (bounds_elsewhere classes c k) hilt_count within
          ∙ ap (λ (bs : List Bound). rows_of_bounds c bs c k) (bounds_are doc classes c e lt ∙ bound_of_hilt doc c within)
          ∙ bounds_here c k (option_to_list (option_and_then default_bound (hilt_row c)))
          )
      | inr past ↦ (
          flat_map_nothing (λ x. rows_of_bounds x (bounds_at classes x) c k) (range_with_len 0 hilt_count)
          (λ x h. bounds_elsewhere classes c k x (ne_eqb c x (λ (same : c ≡ x). (let small : x < hilt_count = out_range hilt_count x h in omega arith))))
          ∙ sym (ap (λ (o : Option HiltRow). map (λ b. owned c ref.Default) (filter (λ b. has_key k b.shape) (option_to_list (option_and_then default_bound o))))
          (slice_get_past hilt_classes c past))
          )
    ]

-- ---- exposed entries

entry_elsewhere : (exposed : List (List Exposed)) (c : ℕ) (k : Key) (x : ℕ) → (c == x) ≡ false
    → rows_of_entries x (entries_at exposed x) c k ≡ []
entry_elsewhere exposed c k x ne =
    flat_map_nothing (λ e. rows_of_entry x e c k) (entries_at exposed x)
    (λ e h. row_elsewhere x e.key (owned x (ref.Exposed e.dep e.entry)) c k ne)

entries_here : (c : ℕ) (k : Key) (es : List Exposed)
    → rows_of_entries c es c k ≡ map (λ e. owned c (ref.Exposed e.dep e.entry)) (filter (λ e. same_key e.key k) es)
entries_here c k es =
    flat_map_same (λ e. rows_of_entry c e c k)
    (λ e. if same_key e.key k then owned c (ref.Exposed e.dep e.entry) ∷ [] else []) es
    (λ e h. row_here e.key (owned c (ref.Exposed e.dep e.entry)) c k)
    ∙ filter_as (λ e. same_key e.key k) (λ e. owned c (ref.Exposed e.dep e.entry)) es

entries_are : (doc : Doc) (exposed : List (List Exposed)) (c : ℕ) → exposed ≡ exposed_by_class doc
    → c < class_count doc → entries_at exposed c ≡ exposed_of doc c
unfolding exposed_by_class
entries_are doc exposed c e lt =
    ap (λ (l : List (List Exposed)). entries_at l c) e
    ∙ ap (λ (o : Option (List Exposed)). unwrap_or o []) (at_range (exposed_of doc) (class_count doc) c lt)

pub exposed_rows : (doc : Doc) (headed : Numbers) (exposed : List (List Exposed)) (s : Statement) (c : ℕ) (k : Key)
    → AreHeaders doc headed → exposed ≡ exposed_by_class doc → c < class_count doc
    → rows_of_exposed exposed (of_number s.index headed) c k
    ≡ (if is_header_of doc c s then explicit_exposed doc c k else [])
exposed_rows doc headed exposed s c k are e lt =
    ap (λ (l : List ℕ). flat_map (λ x. rows_of_entries x (entries_at exposed x) c k) l) (are.each s.index)
    ∙ pick (λ x. is_number s.index (header_index doc x)) (λ x. rows_of_entries x (entries_at exposed x) c k) c
    (entry_elsewhere exposed c k) (class_count doc) lt
    ∙ ap (λ (l : List Owned). if is_header_of doc c s then l else [])
    (ap (λ (es : List Exposed). rows_of_entries c es c k) (entries_are doc exposed c e lt)
    ∙ entries_here c k (exposed_of doc c))

-- ---- bound arguments

-- so many lines of a class stand before a statement
pub lines_before : (doc : Doc) (headed lines : Numbers) (done : List Statement) (c : ℕ) → AreHeaders doc headed
    → c < class_count doc
    → of_number c lines ≡ flat_map (λ s. flat_map (λ x. if c == x then s.index ∷ [] else []) (classes_of_line headed s)) done
    → length (of_number c lines) ≡ length (filter (is_line doc c) done)
lines_before doc headed lines done c are lt is =
    ap length (is
    ∙ flat_map_same (λ s. flat_map (λ x. if c == x then s.index ∷ [] else []) (classes_of_line headed s))
    (λ s. if is_line doc c s then s.index ∷ [] else []) done (λ s h. line_at doc headed c s are lt)
    ∙ filter_as (is_line doc c) (λ s. s.index) done)
    ∙ length-map (filter (is_line doc c) done) (λ (s : Statement). s.index)

argument_tests : (b s : Bool) (c n : ℕ)
    → (if b then (if s then owned c (ref.Arg n) ∷ [] else []) else [])
    ≡ (if s then map (λ a. owned c (ref.Arg a)) (option_to_list (if b && true then Some n else None)) else [])
argument_tests true true c n = refl
argument_tests true false c n = refl
argument_tests false true c n = refl
argument_tests false false c n = refl

argument_elsewhere : (lines : Numbers) (key : Key) (c : ℕ) (k : Key) (x : ℕ) → (c == x) ≡ false
    → row x key (owned x (ref.Arg (length (of_number x lines)))) c k ≡ []
argument_elsewhere lines key c k x ne =
    row_elsewhere x key (owned x (ref.Arg (length (of_number x lines)))) c k ne

-- with a key
argument_here : (doc : Doc) (headed lines : Numbers) (done : List Statement) (s : Statement) (rest : List Statement)
    (b : Bound) (key : Key) (c : ℕ) (k : Key)
    → AreHeaders doc headed → c < class_count doc → statements doc ≡ done ++ s ∷ rest
    → length (of_number c lines) ≡ length (filter (is_line doc c) done)
    → bound_in s.item ≡ Some b
    → rows_of_argument lines (classes_around headed s.block) key c k
    ≡ (if same_key key k
    then map (λ a. owned c (ref.Arg a)) (option_to_list (position (λ x. x.index == s.index) (bound_lines doc c)))
    else [])
argument_here doc headed lines done s rest b key c k are lt split count is =
    let f : ℕ → List Owned = λ x. row x key (owned x (ref.Arg (length (of_number x lines)))) c k in
    let line : is_line doc c s ≡ (in_block doc c s && true) =
    ap (λ (o : Option Bound). in_block doc c s && is_some o) is in
    let at : position (λ x. x.index == s.index) (bound_lines doc c)
    ≡ (if in_block doc c s && true then Some (length (of_number c lines)) else None) =
    ap (λ (l : List Statement). position (λ x. x.index == s.index) l)
    (lines_are doc c ∙ ap (filter (is_line doc c)) split)
    ∙ position_among (is_line doc c) 0 done s rest (subst (Rises 0) split (statements_rise doc))
    ∙ ap (λ (t : Bool). if t then Some (length (filter (is_line doc c) done)) else None) line
    ∙ ap (λ (n : ℕ). if in_block doc c s && true then Some n else None) (sym count) in
    ap (λ (l : List ℕ). flat_map f l) (around_is doc headed s are)
    ∙ pick (λ x. in_block doc x s) f c (argument_elsewhere lines key c k) (class_count doc) lt
    ∙ ap (λ (l : List Owned). if in_block doc c s then l else [])
    (row_here key (owned c (ref.Arg (length (of_number c lines)))) c k)
    ∙ argument_tests (in_block doc c s) (same_key key k) c (length (of_number c lines))
    ∙ ap (λ (o : Option ℕ). if same_key key k then map (λ a. owned c (ref.Arg a)) (option_to_list o) else []) (sym at)

bound_here : (doc : Doc) (headed lines : Numbers) (done : List Statement) (s : Statement) (rest : List Statement)
    (b : Bound) (c : ℕ) (k : Key)
    → AreHeaders doc headed → c < class_count doc → statements doc ≡ done ++ s ∷ rest
    → length (of_number c lines) ≡ length (filter (is_line doc c) done)
    → bound_in s.item ≡ Some b
    → rows_of_bound lines (classes_around headed s.block) (key_of_use b.shape) c k
    ≡ (if has_key k b.shape
    then map (λ a. owned c (ref.Arg a)) (option_to_list (position (λ x. x.index == s.index) (bound_lines doc c)))
    else [])
bound_here doc headed lines done s rest b c k are lt split count is = by (key_of_use b.shape) refl
  where
    by : (o : Option Key) → key_of_use b.shape ≡ o
        → rows_of_bound lines (classes_around headed s.block) (key_of_use b.shape) c k
        ≡ (if has_key k b.shape
        then map (λ a. owned c (ref.Arg a)) (option_to_list (position (λ x. x.index == s.index) (bound_lines doc c)))
        else [])
    by None e =
        ap (λ (o : Option Key). rows_of_bound lines (classes_around headed s.block) o c k) e
        ∙ ap (λ (t : Bool). if t then map (λ a. owned c (ref.Arg a)) (option_to_list (position (λ x. x.index == s.index) (bound_lines doc c))) else [])
        (sym (has_none k b.shape e))
    by (Some key) e =
        ap (λ (o : Option Key). rows_of_bound lines (classes_around headed s.block) o c k) e
        ∙ append-nil (rows_of_argument lines (classes_around headed s.block) key c k)
        ∙ argument_here doc headed lines done s rest b key c k are lt split count is
        ∙ ap (λ (t : Bool). if t then map (λ a. owned c (ref.Arg a)) (option_to_list (position (λ x. x.index == s.index) (bound_lines doc c))) else [])
        (sym (has_some k key b.shape e))

pub argument_rows : (doc : Doc) (headed lines : Numbers) (done : List Statement) (s : Statement) (rest : List Statement)
    (c : ℕ) (k : Key)
    → AreHeaders doc headed → c < class_count doc → statements doc ≡ done ++ s ∷ rest
    → length (of_number c lines) ≡ length (filter (is_line doc c) done)
    → rows_of_bound lines (classes_of_line headed s) (key_of_line s) c k ≡ explicit_argument doc c k s
argument_rows doc headed lines done s rest c k are lt split count = by (bound_in s.item) refl
  where
    by : (o : Option Bound) → bound_in s.item ≡ o
        → rows_of_bound lines (classes_of_line headed s) (key_of_line s) c k ≡ explicit_argument doc c k s
    by None e = rw e refl
    by (Some b) e = rw e (bound_here doc headed lines done s rest b c k are lt split count e)

-- ---- members

pub next_rows : (doc : Doc) (installers : Numbers) (s : Statement) (next : Option Bind) (c : ℕ) (k : Key)
    → AreInstallers doc installers → c < class_count doc → next ≡ binding_of s
    → rows_of_next installers next c k ≡ explicit_member doc c k s
next_rows doc installers s next c k are lt is =
    ap (λ (o : Option Bind). rows_of_next installers o c k) is
    ∙ flat_map_same (λ b. rows_of_member installers wanted.Explicit b c k)
    (λ b. if acts_in doc c is_explicit k b then owned c (ref.Member b.item) ∷ [] else [])
    (option_to_list (binding_of s)) (λ b h. member_row doc installers wanted.Explicit b c k are lt)
    ∙ filter_as (acts_in doc c is_explicit k) (λ b. owned c (ref.Member b.item)) (option_to_list (binding_of s))
