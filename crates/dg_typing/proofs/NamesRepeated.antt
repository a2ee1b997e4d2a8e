-- Which names are declared again.
use Rattle.std.proofs.Common.{◌≡◌, ◌≤◌, ◌<◌, ◌+◌, ◌&&◌, ◌||◌, ◌++◌, ◌∷◌, [], ℕ, zero, suc, List, Bool, true, false, Option, Some, None, map, take, drop, length, get_or, slice_index, if◌then◌else◌, append_assoc, drop-cons, refl, ap, sym, ◌∙◌, arith}
use Rattle.std.specs.Prelude.{nat_lt, Result, Ok, Err, OnOk, option_to_list, filter}
use Rattle.std.specs.List.{find, list_any}
use Rattle.std.specs.Option.{option_map, option_map_or}
use Rattle.std.proofs.lemmas.Bool.{le-ltb, lt-ltb, ltb-false}
use Rattle.dg_lex.specs.Bytes.{Bytes, is_among}
use Rattle.dg_hilt.specs.Names.{predefined_names}
use Rattle.dg_decl.specs.declared.document.Doc.{Doc}
use Rattle.dg_decl.specs.declared.item.Item.{Item}
use Rattle.dg_decl.specs.Document.{Statement, statements, statements_from, open_behind}
use Rattle.dg_decl.specs.Names.{outer_name, member_name, is_called, declared}
use Rattle.std.specs.Bool.{one_answer}
use Rattle.std.specs.Str.{bytes_eq}
use Rattle.std.proofs.lemmas.Slice.Eq.{bytes_eq-Decides}
use Rattle.std.proofs.lemmas.List.{append-nil, map-append}
use Rattle.std.proofs.Math.Seq.{take-suc}
use Rattle.dg_decl.specs.declared.item.Param.{Param}
use Rattle.dg_decl.specs.declared.violation.Rule.TheVariants as rule
use Rattle.dg_decl.specs.declared.violation.Violation.{Violation}
use Rattle.dg_decl.specs.Stages.Components.{at_line}
use Rattle.dg_decl.specs.Stages.Names.{has_earlier, same_block, anywhere, repeated_among, repeated_outer, repeated_member, repeated_params, repeated_instance, duplicate_name}
use Rattle.dg_typing.specs.NamesMembers.{is_member_again}
use Rattle.dg_typing.specs.NamesWanted.{is_param}

pub bytes_eq_turned : (a b : Bytes) → bytes_eq a b ≡ bytes_eq b a
bytes_eq_turned a b = one_answer (bytes_eq a b) (bytes_eq b a) (bytes_eq-Decides a b)
    ((λ e. sym ((bytes_eq-Decides b a).0 e)), (λ e. (bytes_eq-Decides b a).1 (sym e)))

at_place : {A : Type 0} (xs : List A) (i : ℕ) (x : A) → i < length xs → x ≡ get_or xs i x
    → drop i xs ≡ x ∷ drop (i + 1) xs
at_place {A = A} xs i x lt is =
    let next : suc i ≡ i + 1 = omega arith in
    drop-cons xs i x lt ∙ ap (λ (y : A). y ∷ drop (suc i) xs) (sym is)
    ∙ ap (λ (k : ℕ). x ∷ drop k xs) next

-- ---- statements before one of this index

none_later : (p : Statement → Bool) (doc : Doc) (i k : ℕ) (b : Option ℕ) (xs : List Item)
    → i ≤ k → list_any (λ e. nat_lt e.index i && p e) (statements_from doc k b xs) ≡ false
none_later p doc i k b [] le = refl
none_later p doc i k b (x ∷ xs) le =
    let h : Statement =
    record { index = k; line = slice_index doc.lines k; block = b; item = x } in
    ap (λ (t : Bool). (t && p h) || list_any (λ e. nat_lt e.index i && p e)
    (statements_from doc (suc k) (open_behind b k x) xs)) (le-ltb k i le)
    ∙ none_later p doc i (suc k) (open_behind b k x) xs (omega (arith, le))

-- whether one of two comes first
either : (lt hit later : Bool) (k i : ℕ) (h : Statement) (o : Option Statement) → nat_lt h.index i ≡ lt
    → (lt ≡ false → later ≡ false)
    → later ≡ option_map_or (λ j. nat_lt j i) (option_map (λ t. t.index) o) false
    → ((lt && hit) || later)
    ≡ option_map_or (λ j. nat_lt j i) (option_map (λ t. t.index) (if hit then Some h else o)) false
either true true later k i h o is none rest = sym is
either false true later k i h o is none rest = none refl ∙ sym is
either true false later k i h o is none rest = rest
either false false later k i h o is none rest = rest

first_before : (p : Statement → Bool) (doc : Doc) (i k : ℕ) (b : Option ℕ) (xs : List Item)
    → list_any (λ e. nat_lt e.index i && p e) (statements_from doc k b xs)
    ≡ option_map_or (λ j. nat_lt j i)
    (option_map (λ t. t.index) (find p (statements_from doc k b xs))) false
first_before p doc i k b [] = refl
first_before p doc i k b (x ∷ xs) =
    let h : Statement =
    record { index = k; line = slice_index doc.lines k; block = b; item = x } in
    let block = open_behind b k x in
    either (nat_lt k i) (p h)
    (list_any (λ e. nat_lt e.index i && p e) (statements_from doc (suc k) block xs)) k i h
    (find p (statements_from doc (suc k) block xs)) refl
    (λ not_below. none_later p doc i (suc k) block xs
    (omega (arith, ltb-false k i not_below))) (first_before p doc i (suc k) block xs)

any_same : {A : Type 0} (p q : A → Bool) → ((x : A) → p x ≡ q x) → (xs : List A)
    → list_any p xs ≡ list_any q xs
any_same p q same [] = refl
any_same p q same (x ∷ xs) =
    ap (λ (b : Bool). b || list_any p xs) (same x)
    ∙ ap (λ (b : Bool). q x || b) (any_same p q same xs)

anywhere_is : (a b : Bool) → ((a && true) && b) ≡ (a && b)
anywhere_is true b = refl
anywhere_is false b = refl

-- those before an index are the first, so many of them
before_first : (p : Statement → Bool) (doc : Doc) (i k : ℕ) (b : Option ℕ) (xs : List Item)
    → list_any (λ e. nat_lt e.index (k + i) && p e) (statements_from doc k b xs)
    ≡ list_any p (take i (statements_from doc k b xs))
before_first p doc zero k b xs =
    none_later p doc (k + zero) k b xs (omega arith)
before_first p doc (suc i) k b [] = refl
before_first p doc (suc i) k b (x ∷ xs) =
    let h : Statement =
    record { index = k; line = slice_index doc.lines k; block = b; item = x } in
    let block = open_behind b k x in
    let below : k < k + suc i = omega arith in
    let next : k + suc i ≡ suc k + i = omega arith in
    ap (λ (t : Bool). (t && p h) || list_any (λ e. nat_lt e.index (k + suc i) && p e)
    (statements_from doc (suc k) block xs)) (lt-ltb k (k + suc i) below)
    ∙ ap (λ (j : ℕ). p h || list_any (λ e. nat_lt e.index j && p e)
    (statements_from doc (suc k) block xs)) next
    ∙ ap (λ (t : Bool). p h || t) (before_first p doc i (suc k) block xs)

and_assoc : (a b c : Bool) → ((a && b) && c) ≡ (a && (b && c))
and_assoc true b c = refl
and_assoc false b c = refl

pub earlier_in_block : (name_in : Item → Option Bytes) (among : Statement → Bool) (doc : Doc)
    (s : Statement) (n : Bytes)
    → list_any (λ e. among e && is_called name_in n e) (take s.index (statements doc))
    ≡ has_earlier name_in among doc s n
unfolding statements
earlier_in_block name_in among doc s n =
    let zero_more : 0 + s.index ≡ s.index = omega arith in
    sym (any_same (λ e. (nat_lt e.index s.index && among e) && is_called name_in n e)
    (λ e. nat_lt e.index s.index && (among e && is_called name_in n e))
    (λ e. and_assoc (nat_lt e.index s.index) (among e) (is_called name_in n e)) (statements doc)
    ∙ ap (λ (j : ℕ). list_any (λ e. nat_lt e.index j && (among e && is_called name_in n e))
    (statements doc)) (sym zero_more)
    ∙ before_first (λ e. among e && is_called name_in n e) doc s.index 0 None doc.items)

pub earlier_anywhere : (name_in : Item → Option Bytes) (doc : Doc) (s : Statement) (n : Bytes)
    → option_map_or (λ j. nat_lt j s.index)
    (option_map (λ t. t.index) (find (is_called name_in n) (statements doc))) false
    ≡ has_earlier name_in anywhere doc s n
unfolding statements
earlier_anywhere name_in doc s n =
    sym (any_same (λ e. (nat_lt e.index s.index && true) && is_called name_in n e)
    (λ e. nat_lt e.index s.index && is_called name_in n e)
    (λ e. anywhere_is (nat_lt e.index s.index) (is_called name_in n e)) (statements doc)
    ∙ first_before (is_called name_in n) doc s.index 0 None doc.items)

pub declared_before : (doc : Doc) (s : Statement) (n : Bytes)
    → (is_among n predefined_names || option_map_or (λ j. nat_lt j s.index)
    (option_map (λ t. t.index) (declared doc n)) false)
    ≡ (is_among n predefined_names || has_earlier outer_name anywhere doc s n)
unfolding declared
declared_before doc s n = by (is_among n predefined_names)
  where
    by : (b : Bool) → (b || option_map_or (λ j. nat_lt j s.index) (option_map (λ t. t.index)
        (if b then None else find (is_called outer_name n) (statements doc))) false)
        ≡ (b || has_earlier outer_name anywhere doc s n)
    by true = refl
    by false = earlier_anywhere outer_name doc s n

-- ---- parameters

any_push : {A : Type 0} (p : A → Bool) (xs : List A) (x : A)
    → list_any p (xs ++ x ∷ []) ≡ (p x || list_any p xs)
any_push p [] x = refl
any_push p (y ∷ ys) x = ap (λ (b : Bool). p y || b) (any_push p ys x)
    ∙ turned (p y) (p x) (list_any p ys)
  where
    turned : (a b c : Bool) → (a || (b || c)) ≡ (b || (a || c))
    turned true true c = refl
    turned true false c = refl
    turned false b c = refl

-- the parameters before a place are looked at
pub record RepeatsOn (s : Statement) (params : List Param) (place : ℕ) (old new : List Violation)
    : Type 0 where
  pub earlier : List Bytes
  pub seen : (n : Bytes) → is_among n earlier ≡ is_param (take place params) n
  pub added : new ++ map (at_line rule.DuplicateName s)
      (repeated_among earlier (map (λ p. p.name) (drop place params)))
      ≡ old ++ map (at_line rule.DuplicateName s)
      (repeated_among [] (map (λ p. p.name) params))

pub repeats_first : (s : Statement) (params : List Param) (old : List Violation)
    → RepeatsOn s params 0 old old
repeats_first s params old = record { earlier = []; seen = λ n. refl; added = refl }

one_name : (s : Statement) (again : Bool) (n : Bytes) (rest : List Bytes) (mid : List Violation)
    → (mid ++ map (at_line rule.DuplicateName s) (if again then n ∷ [] else []))
    ++ map (at_line rule.DuplicateName s) rest
    ≡ mid ++ map (at_line rule.DuplicateName s) ((if again then n ∷ [] else []) ++ rest)
one_name s true n rest mid = append_assoc mid (at_line rule.DuplicateName s n ∷ [])
    (map (at_line rule.DuplicateName s) rest)
one_name s false n rest mid = ap (λ (vs : List Violation). vs ++ map (at_line rule.DuplicateName s) rest)
    (append-nil mid)

pub repeats_next : (s : Statement) (params : List Param) (place : ℕ) (p : Param) (again : Bool)
    (old mid new : List Violation) → place < length params → p ≡ get_or params place p
    → again ≡ is_param (take place params) p.name
    → new ≡ mid ++ map (at_line rule.DuplicateName s) (if again then p.name ∷ [] else [])
    → RepeatsOn s params place old mid → RepeatsOn s params (place + 1) old new
repeats_next s params place p again old mid new lt is tested is_new before =
    let next : place + 1 ≡ suc place = omega arith in
    let taken : take (place + 1) params ≡ take place params ++ p ∷ [] =
    ap (λ (k : ℕ). take k params) next ∙ take-suc params place p lt
    ∙ ap (λ (q : Param). take place params ++ q ∷ []) (sym is) in
    let left : drop place params ≡ p ∷ drop (place + 1) params = at_place params place p lt is in
    record {
      earlier = p.name ∷ before.earlier;
      seen = λ n. ap (λ (b : Bool). bytes_eq n p.name || b) (before.seen n)
          ∙ ap (λ (b : Bool). b || is_param (take place params) n) (bytes_eq_turned n p.name)
          ∙ sym (ap (λ (ps : List Param). is_param ps n) taken
          ∙ any_push (λ (q : Param). bytes_eq q.name n) (take place params) p);
      added = ap (λ (vs : List Violation). vs ++ map (at_line rule.DuplicateName s)
          (repeated_among (p.name ∷ before.earlier) (map (λ q. q.name) (drop (place + 1) params)))) is_new
          ∙ one_name s again p.name
          (repeated_among (p.name ∷ before.earlier) (map (λ q. q.name) (drop (place + 1) params))) mid
          ∙ ap (λ (b : Bool). mid ++ map (at_line rule.DuplicateName s) ((if b then p.name ∷ [] else [])
          ++ repeated_among (p.name ∷ before.earlier) (map (λ q. q.name) (drop (place + 1) params))))
          (tested ∙ sym (before.seen p.name))
          ∙ ap (λ (ps : List Param). mid ++ map (at_line rule.DuplicateName s)
          (repeated_among before.earlier (map (λ q. q.name) ps))) (sym left)
          ∙ before.added;
    }

pub repeats_all : (s : Statement) (params : List Param) (place : ℕ) (old new : List Violation)
    → drop place params ≡ [] → RepeatsOn s params place old new
    → new ≡ old ++ map (at_line rule.DuplicateName s) (repeated_among [] (map (λ p. p.name) params))
repeats_all s params place old new none all =
    sym (append-nil new)
    ∙ ap (λ (ps : List Param). new ++ map (at_line rule.DuplicateName s)
    (repeated_among all.earlier (map (λ p. p.name) ps))) (sym none)
    ∙ all.added

-- ---- all kinds of names

pub four_more : (s : Statement) (old a b c d : List Violation) (ks ls ms ns : List Bytes)
    → a ≡ old ++ map (at_line rule.DuplicateName s) ks
    → b ≡ a ++ map (at_line rule.DuplicateName s) ls
    → c ≡ b ++ map (at_line rule.DuplicateName s) ms
    → d ≡ c ++ map (at_line rule.DuplicateName s) ns
    → d ≡ old ++ map (at_line rule.DuplicateName s) (ks ++ ls ++ ms ++ ns)
four_more s old a b c d ks ls ms ns ka lb mc nd =
    joins old c d (ks ++ ls ++ ms) ns (joins old b c (ks ++ ls) ms (joins old a b ks ls ka lb) mc) nd
  where
    joins : (old mid new : List Violation) (xs ys : List Bytes)
        → mid ≡ old ++ map (at_line rule.DuplicateName s) xs
        → new ≡ mid ++ map (at_line rule.DuplicateName s) ys
        → new ≡ old ++ map (at_line rule.DuplicateName s) (xs ++ ys)
    joins old mid new xs ys first second =
        second ∙ ap (λ (vs : List Violation). vs ++ map (at_line rule.DuplicateName s) ys) first
        ∙ append_assoc old (map (at_line rule.DuplicateName s) xs)
        (map (at_line rule.DuplicateName s) ys)
        ∙ ap (λ (vs : List Violation). old ++ vs)
        (sym (map-append (at_line rule.DuplicateName s) xs ys))

pub duplicates_are : (doc : Doc) (s : Statement)
    → map (at_line rule.DuplicateName s)
    (repeated_outer doc s ++ repeated_member doc s ++ repeated_params s ++ repeated_instance doc s)
    ≡ duplicate_name doc s
unfolding duplicate_name
duplicates_are doc s = refl

-- ---- one name, or none

pub kept_one : (test : Bytes → Bool) (o : Option Bytes) (n : Bytes) (b : Bool) → Some n ≡ o
    → b ≡ test n → (if b then n ∷ [] else []) ≡ filter test (option_to_list o)
kept_one test o n b is tested = ap (λ (t : Bool). if t then n ∷ [] else []) tested
    ∙ ap (λ (p : Option Bytes). filter test (option_to_list p)) is

pub kept_none : (s : Statement) (old : List Violation) (test : Bytes → Bool) (o : Option Bytes)
    → None ≡ o
    → old ≡ old ++ map (at_line rule.DuplicateName s) (filter test (option_to_list o))
kept_none s old test o is = sym (append-nil old)
    ∙ ap (λ (p : Option Bytes). old ++ map (at_line rule.DuplicateName s)
    (filter test (option_to_list p))) is

-- nothing is added for a statement that is no member
pub none_more : (s : Statement) (again : Bool) (old : List Violation) → None ≡ member_name s.item
    → old ≡ old ++ map (at_line rule.DuplicateName s)
    (if again then option_to_list (member_name s.item) else [])
none_more s again old is = by again
    ∙ ap (λ (o : Option Bytes). old ++ map (at_line rule.DuplicateName s)
    (if again then option_to_list o else [])) is
  where
    by : (b : Bool) → old ≡ old ++ map (at_line rule.DuplicateName s)
        (if b then option_to_list None else [])
    by true = sym (append-nil old)
    by false = sym (append-nil old)

pub ok_as : {V E : Type 0} (r : Result V E) (s : Statement) (old new : List Violation)
    (ks ls : List Bytes) → ks ≡ ls
    → OnOk r (new ≡ old ++ map (at_line rule.DuplicateName s) ks)
    → OnOk r (new ≡ old ++ map (at_line rule.DuplicateName s) ls)
ok_as (Ok x) s old new ks ls are added =
    added ∙ ap (λ (ns : List Bytes). old ++ map (at_line rule.DuplicateName s) ns) are
ok_as (Err e) s old new ks ls are added = tt

-- a member's name, where it is told that it is declared again
pub told_again : (doc : Doc) (s : Statement) (again : Bool) → again ≡ is_member_again doc s
    → (if again then option_to_list (member_name s.item) else []) ≡ repeated_member doc s
told_again doc s again tells =
    ap (λ (b : Bool). if b then option_to_list (member_name s.item) else []) tells
    ∙ by (member_name s.item)
  where
    by : (o : Option Bytes) → (if option_map_or (has_earlier member_name
        (λ e. same_block e.block s.block) doc s) o false then option_to_list o else [])
        ≡ filter (has_earlier member_name (λ e. same_block e.block s.block) doc s) (option_to_list o)
    by None = refl
    by (Some n) = refl
