-- Texts that are appended one behind another.
use Rattle.std.proofs.Common.{◌≡◌, ℕ, zero, suc, Bool, true, false, List, [], ◌∷◌, ◌++◌, length, map, drop, Option, Some, None, slice_get, codes, decimal, refl, sym, ap, ◌∙◌}
use Rattle.dg_lex.specs.Bytes.{Bytes}
use Rattle.dg_types.specs.declared.key.MapKeyVal.{MapKeyVal}
use Rattle.dg_types.specs.Texts.{map_key_text}
use Rattle.dg_decl.specs.declared.document.Doc.{Doc}
use Rattle.dg_decl.specs.declared.item.Param.{Param}
use Rattle.dg_value.specs.declared.place.Place.{Place}
use Rattle.dg_eval.specs.Report.{Printing, Printed, as_it_is, behind, between, listed, field_text, fields_text, entry_text, object_text, seen_at, value_class_name, value_fields}
use Rattle.dg_report.proofs.TakenLemmas.{taken_none, taken_both}
use Rattle.dg_report.specs.Output.{Output, followed, with_text, with_members, with_set, with_map, with_entry, is_new, noted, with_number, with_fields, with_object}

abbrev output : Bytes → List Place → List Place → Option ℕ → Output
output t s b l = record { text = t; seen = s; before = b; limit = l }

-- ---- one behind another

pub followed_text : (o : Output) (t : Bytes) → followed o (as_it_is t) ≡ with_text o t
unfolding with_text
followed_text o t = refl

pub followed_behind : (o : Output) (p q : Printing)
    → followed o (behind p q) ≡ followed (followed o p) q
followed_behind o p q =
    let x : Printed = p o.seen in
    let y : Printed = q x.seen in
    λ i. output (sym (taken_both o.limit o.text x.text y.text) i) y.seen o.before o.limit

pub followed_none : (o : Output) → followed o (as_it_is []) ≡ o
followed_none o = λ i. output (taken_none o.limit o.text i) o.seen o.before o.limit

pub followed_between : (o : Output) (front : Bytes) (p : Printing) (back : Bytes)
    → followed o (between front p back) ≡ with_text (followed (with_text o front) p) back
unfolding with_text
followed_between o front p back =
    followed_behind o (as_it_is front) (behind p (as_it_is back))
    ∙ followed_behind (followed o (as_it_is front)) p (as_it_is back)

pub two_texts : (o : Output) (s t : Bytes) → with_text (with_text o s) t ≡ with_text o (s ++ t)
unfolding with_text
two_texts o s t =
    λ i. output (taken_both o.limit o.text s t i) o.seen o.before o.limit

pub three_texts : (o : Output) (s t u : Bytes)
    → with_text (with_text (with_text o s) t) u ≡ with_text o (s ++ (t ++ u))
three_texts o s t u = two_texts (with_text o s) t u ∙ two_texts o s (t ++ u)

-- a text in two parts before what is printed
behind_two : (o : Output) (s t : Bytes) (p : Printing)
    → followed (with_text (with_text o s) t) p ≡ followed o (behind (as_it_is (s ++ t)) p)
behind_two o s t p =
    ap (λ (n : Output). followed n p) (two_texts o s t ∙ sym (followed_text o (s ++ t)))
    ∙ sym (followed_behind o (as_it_is (s ++ t)) p)

-- ---- members

-- further members, behind one
tail : {A : Type 0} (f : A → Printing) (g : Output → A → Output)
    → ((o : Output) (x : A) → g o x ≡ followed o (f x))
    → (k : ℕ) (o : Output) (p : Printing) (xs : List A)
    → with_members g (suc k) (followed o p) xs ≡ followed o (listed (p ∷ map f xs))
tail f g same k o p [] = refl
tail f g same k o p (x ∷ xs) =
    ap (λ (n : Output). with_members g (suc (suc k)) n xs) (same (with_text (followed o p) (codes ",")) x)
    ∙ tail f g same (suc k) (with_text (followed o p) (codes ",")) (f x) xs
    ∙ sym (followed_behind o p (behind (as_it_is (codes ",")) (listed (f x ∷ map f xs)))
    ∙ followed_behind (followed o p) (as_it_is (codes ",")) (listed (f x ∷ map f xs))
    ∙ ap (λ (n : Output). followed n (listed (f x ∷ map f xs)))
    (followed_text (followed o p) (codes ",")))

pub members_listed : {A : Type 0} (f : A → Printing) (g : Output → A → Output)
    → ((o : Output) (x : A) → g o x ≡ followed o (f x))
    → (o : Output) (xs : List A) → with_members g 0 o xs ≡ followed o (listed (map f xs))
members_listed f g same o [] = sym (followed_none o)
members_listed f g same o (x ∷ xs) =
    ap (λ (n : Output). with_members g 1 n xs) (same o x) ∙ tail f g same 0 o (f x) xs

pub set_listed : {A : Type 0} (f : A → Printing) (g : Output → A → Output)
    → ((o : Output) (x : A) → g o x ≡ followed o (f x))
    → (o : Output) (xs : List A)
    → followed o (between (codes "[") (listed (map f xs)) (codes "]")) ≡ with_set g o xs
set_listed f g same o xs =
    followed_between o (codes "[") (listed (map f xs)) (codes "]")
    ∙ ap (λ (n : Output). with_text n (codes "]"))
    (sym (members_listed f g same (with_text o (codes "[")) xs))

entry_followed : {V : Type 0} (f : V → Printing) (g : Output → V → Output)
    → ((o : Output) (v : V) → g o v ≡ followed o (f v))
    → (o : Output) (e : MapKeyVal × V)
    → with_entry g o e ≡ followed o (entry_text (e.0, f e.1))
entry_followed f g same o e =
    same (with_text (with_text o (map_key_text e.0)) (codes ":")) e.1
    ∙ behind_two o (map_key_text e.0) (codes ":") (f e.1)

map_entries : {V : Type 0} (f : V → Printing) (es : List (MapKeyVal × V))
    → map entry_text (map (λ e. (e.0, f e.1)) es) ≡ map (λ e. entry_text (e.0, f e.1)) es
map_entries f [] = refl
map_entries f (e ∷ es) = ap (λ (ps : List Printing). entry_text (e.0, f e.1) ∷ ps) (map_entries f es)

pub map_listed : {V : Type 0} (f : V → Printing) (g : Output → V → Output)
    → ((o : Output) (v : V) → g o v ≡ followed o (f v))
    → (o : Output) (es : List (MapKeyVal × V))
    → followed o (between (codes "{") (listed (map entry_text (map (λ e. (e.0, f e.1)) es))) (codes "}"))
    ≡ with_map g o es
map_listed f g same o es =
    followed_between o (codes "{") (listed (map entry_text (map (λ e. (e.0, f e.1)) es))) (codes "}")
    ∙ ap (λ (ps : List Printing). with_text (followed (with_text o (codes "{")) (listed ps)) (codes "}"))
    (map_entries f es)
    ∙ ap (λ (n : Output). with_text n (codes "}"))
    (sym (members_listed (λ e. entry_text (e.0, f e.1)) (with_entry g) (entry_followed f g same)
    (with_text o (codes "{")) es))

-- ---- fields

got_none : {A : Type 0} (xs : List A) (k : ℕ) → drop k xs ≡ [] → slice_get xs k ≡ None
got_none [] k e = refl
got_none (x ∷ xs) zero e = cc
got_none (x ∷ xs) (suc k) e = got_none xs k e

got_some : {A : Type 0} (xs : List A) (k : ℕ) (y : A) (ys : List A) → drop k xs ≡ y ∷ ys
    → (slice_get xs k ≡ Some y) × (drop (suc k) xs ≡ ys)
got_some [] zero y ys e = cc
got_some [] (suc k) y ys e = cc
got_some (x ∷ xs) zero y ys e = (cc, cc)
got_some (x ∷ xs) (suc k) y ys e = got_some xs k y ys e

-- a field behind a comma, or the first
field_followed : {V : Type 0} (f : V → Printing) (g : Output → V → Output)
    → ((o : Output) (v : V) → g o v ≡ followed o (f v))
    → (o : Output) (p : Param) (v : V)
    → g (with_text (with_text o p.name) (codes "=")) v ≡ followed o (field_text p (f v))
field_followed f g same o p v =
    same (with_text (with_text o p.name) (codes "=")) v ∙ behind_two o p.name (codes "=") (f v)

more_fields : {V : Type 0} (f : V → Printing) (g : Output → V → Output)
    → ((o : Output) (v : V) → g o v ≡ followed o (f v))
    → (params : List Param) (k : ℕ) (ps : List Param) → drop (suc k) params ≡ ps
    → (o : Output) (p : Printing) (vs : List V)
    → with_fields g params (suc k) (followed o p) vs
    ≡ followed o (listed (p ∷ fields_text ps (map f vs)))
more_fields f g same params k [] left o p [] = refl
more_fields f g same params k [] left o p (v ∷ vs) = rw (got_none params (suc k) left) refl
more_fields f g same params k (q ∷ ps) left o p [] = refl
more_fields f g same params k (q ∷ ps) left o p (v ∷ vs) =
    let got = got_some params (suc k) q ps left in
    let next : Output = with_text (followed o p) (codes ",") in
    let this : Printing = field_text q (f v) in
    let more : List Printing = fields_text ps (map f vs) in
    rw got.0 (ap (λ (n : Output). with_fields g params (suc (suc k)) n vs)
    (field_followed f g same next q v)
    ∙ more_fields f g same params (suc k) ps got.1 next this vs
    ∙ sym (followed_behind o p (behind (as_it_is (codes ",")) (listed (this ∷ more)))
    ∙ followed_behind (followed o p) (as_it_is (codes ",")) (listed (this ∷ more))
    ∙ ap (λ (n : Output). followed n (listed (this ∷ more))) (followed_text (followed o p) (codes ","))))

pub fields_listed : {V : Type 0} (f : V → Printing) (g : Output → V → Output)
    → ((o : Output) (v : V) → g o v ≡ followed o (f v))
    → (params : List Param) (o : Output) (vs : List V)
    → with_fields g params 0 o vs ≡ followed o (listed (fields_text params (map f vs)))
fields_listed f g same [] o [] = sym (followed_none o)
fields_listed f g same [] o (v ∷ vs) = sym (followed_none o)
fields_listed f g same (p ∷ ps) o [] = sym (followed_none o)
fields_listed f g same (p ∷ ps) o (v ∷ vs) =
    ap (λ (n : Output). with_fields g (p ∷ ps) 1 n vs) (field_followed f g same o p v)
    ∙ more_fields f g same (p ∷ ps) 0 ps refl o (field_text p (f v)) vs

-- ---- objects

object_new : (fields : Output → Output) (p : Printing)
    → ((o : Output) → fields o ≡ followed o p)
    → (name : Bytes) (number : Bytes) (o : Output)
    → with_text (fields (with_text (with_text (with_text (with_text o name) (codes "#")) number)
    (codes "{"))) (codes "}")
    ≡ followed o (between ((name ++ (codes "#" ++ number)) ++ codes "{") p (codes "}"))
object_new fields p same name number o =
    let front : Output = with_text (with_text (with_text o name) (codes "#")) number in
    ap (λ (n : Output). with_text n (codes "}"))
    (same (with_text front (codes "{"))
    ∙ ap (λ (n : Output). followed n p)
    (ap (λ (n : Output). with_text n (codes "{")) (three_texts o name (codes "#") number)
    ∙ two_texts o (name ++ (codes "#" ++ number)) (codes "{")))
    ∙ sym (followed_between o ((name ++ (codes "#" ++ number)) ++ codes "{") p (codes "}"))

pub object_followed : {V : Type 0} (f : V → Printing) (g : Output → V → Output)
    → ((o : Output) (v : V) → g o v ≡ followed o (f v))
    → (doc : Doc) (class : ℕ) (ident : Place) (vs : List V) (o : Output)
    → followed o (object_text doc class ident (map f vs))
    ≡ with_object doc (λ n. with_fields g (value_fields doc class) 0 n vs) class ident o
unfolding with_text with_number
object_followed f g same doc class ident vs o = by (seen_at ident o.seen) refl
  where
    by : (r : Option ℕ) → seen_at ident o.seen ≡ r
        → followed o (object_text doc class ident (map f vs))
        ≡ with_object doc (λ n. with_fields g (value_fields doc class) 0 n vs) class ident o
    by None e =
        rw e (sym (object_new (λ n. with_fields g (value_fields doc class) 0 n vs)
        (listed (fields_text (value_fields doc class) (map f vs)))
        (λ n. fields_listed f g same (value_fields doc class) n vs)
        (value_class_name doc class) (decimal (suc (length o.seen))) (noted o ident)))
    by (Some k) e =
        rw e (sym (three_texts o (value_class_name doc class) (codes "#") (decimal (suc k))))

pub object_entered : (doc : Doc) (fields : Output → Output) (class : ℕ) (ident : Place)
    (name : Bytes) (old a b c d e new : Output) (is : Bool)
    → name ≡ value_class_name doc class
    → a ≡ with_text old name → b ≡ with_text a (codes "#") → c ≡ with_number b ident
    → is ≡ is_new b ident → is ≡ true → d ≡ with_text c (codes "{") → e ≡ fields d
    → new ≡ with_text e (codes "}") → new ≡ with_object doc fields class ident old
unfolding with_text
object_entered doc fields class ident name old a b c d e new is en ea eb ec ei told ed ee e_new =
    let named : b ≡ with_text (with_text old (value_class_name doc class)) (codes "#") =
    eb ∙ ap (λ (o : Output). with_text o (codes "#"))
    (ea ∙ ap (λ (t : Bytes). with_text old t) en) in
    let fresh : is_new old ident ≡ true = sym (ap (λ (o : Output). is_new o ident) named) ∙ sym ei ∙ told in
    rw fresh (e_new ∙ ap (λ (o : Output). with_text o (codes "}")) (ee
    ∙ ap fields (ed ∙ ap (λ (o : Output). with_text o (codes "{")) (ec
    ∙ ap (λ (o : Output). with_number o ident) named))))

pub object_named : (doc : Doc) (fields : Output → Output) (class : ℕ) (ident : Place)
    (name : Bytes) (old a b new : Output) (is : Bool)
    → name ≡ value_class_name doc class
    → a ≡ with_text old name → b ≡ with_text a (codes "#") → new ≡ with_number b ident
    → is ≡ is_new b ident → is ≡ false → new ≡ with_object doc fields class ident old
unfolding with_text
object_named doc fields class ident name old a b new is en ea eb ec ei told =
    let named : b ≡ with_text (with_text old (value_class_name doc class)) (codes "#") =
    eb ∙ ap (λ (o : Output). with_text o (codes "#"))
    (ea ∙ ap (λ (t : Bytes). with_text old t) en) in
    let known : is_new old ident ≡ false = sym (ap (λ (o : Output). is_new o ident) named) ∙ sym ei ∙ told in
    rw known (ec ∙ ap (λ (o : Output). with_number o ident) named)
