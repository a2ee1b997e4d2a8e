-- The component classes of a document by the indices of their headers.
use Rattle.std.proofs.Common.{◌≡◌, ◌<◌, ◌≤◌, ◌==◌, ℕ, ◌+◌, ◌-◌, Bool, true, false, List, [], ◌∷◌, map, length, Option, Some, None, if◌then◌else◌, refl, sym, ap, ◌∙◌}
use Rattle.std.specs.List.{position, position_from, slice_get}
use Rattle.std.specs.Option.{option_map, option_or, option_and_then}
use Rattle.std.specs.Str.{bytes_eq}
use Rattle.std.proofs.lemmas.Bool.{lt-ltb, le-ltb}
use Rattle.std.proofs.lemmas.Iterator.Adapters.{position_from-zero}
use Rattle.std.proofs.lemmas.Option.{slice_get-map}
use Rattle.std.proofs.lemmas.List.{length-map}
use Rattle.dg_lex.specs.Bytes.{Bytes}
use Rattle.dg_hilt.specs.declared.class.HiltClass.{HiltClass}
use Rattle.dg_hilt.specs.declared.class.HiltClass.TheVariants.{SingletonComponent, ActivityRetainedComponent, ServiceComponent, ViewModelComponent, ActivityComponent, FragmentComponent, ViewComponent, ViewWithFragmentComponent}
use Rattle.dg_hilt.specs.Table.{HiltRow, hilt_classes}
use Rattle.dg_hilt.specs.Classes.{components, number_of, has_name, row_of}
use Rattle.dg_hilt.specs.Classes as hilt
use Rattle.dg_decl.specs.declared.document.Doc.{Doc}
use Rattle.dg_decl.specs.Document.{Statement, statements}
use Rattle.dg_decl.specs.Names.{declared}
use Rattle.dg_decl.specs.Components.{component_headers, class_count, number_of_header, class_named, header_of}
use Rattle.dg_names.proofs.TableLemmas.{bytes_eq_turned}
use Rattle.dg_names.proofs.StatementLemmas.{at_its_place}

abbrev pub AreHeaders : Doc → List ℕ → Type 0
AreHeaders doc headers = headers ≡ map (λ s. s.index) (component_headers doc)

pub counted : (doc d : Doc) (headers : List ℕ) → d ≡ doc → AreHeaders d headers
    → 8 + length headers ≡ class_count doc
unfolding class_count
counted doc d headers same is =
    ap (λ (hs : List ℕ). 8 + length hs) is
    ∙ ap (λ (e : Doc). 8 + length (map (λ (s : Statement). s.index) (component_headers e))) same
    ∙ ap (λ (k : ℕ). 8 + k) (length-map (component_headers doc) (λ (s : Statement). s.index))

pub header_at : (doc d : Doc) (headers : List ℕ) (c : ℕ) → d ≡ doc → AreHeaders d headers
    → 8 ≤ c → slice_get headers (c - 8) ≡ option_map (λ h. h.index) (header_of doc c)
unfolding header_of
header_at doc d headers c same is le =
    ap (λ (hs : List ℕ). slice_get hs (c - 8)) is
    ∙ ap (λ (e : Doc). slice_get (map (λ (s : Statement). s.index) (component_headers e)) (c - 8)) same
    ∙ slice_get-map (λ (s : Statement). s.index) (component_headers doc) (c - 8)
    ∙ ap (λ (b : Bool). option_map (λ (s : Statement). s.index)
    (if b then None else slice_get (component_headers doc) (c - 8))) (sym (le-ltb c 8 le))

pub no_header : (doc : Doc) (c : ℕ) → c < 8 → None ≡ option_map (λ h. h.index) (header_of doc c)
unfolding header_of
no_header doc c lt =
    ap (λ (b : Bool). option_map (λ (s : Statement). s.index)
    (if b then None else slice_get (component_headers doc) (c - 8))) (sym (lt-ltb c 8 lt))

position_from-map : {A : Type 0} (p : ℕ → Bool) (f : A → ℕ) (i : ℕ) (xs : List A)
    → position_from p i (map f xs) ≡ position_from (λ x. p (f x)) i xs
position_from-map p f i [] = refl
position_from-map p f i (x ∷ xs) =
    ap (λ o. if p (f x) then Some i else o) (position_from-map p f (i + 1) xs)

position-map : {A : Type 0} (p : ℕ → Bool) (f : A → ℕ) (xs : List A)
    → position p (map f xs) ≡ position (λ x. p (f x)) xs
position-map p f xs = position_from-zero p (map f xs) ∙ position_from-map p f 0 xs
    ∙ sym (position_from-zero (λ x. p (f x)) xs)

pub number_there : (doc d : Doc) (headers : List ℕ) (s : Statement) (index : ℕ) → d ≡ doc
    → AreHeaders d headers → Some s ≡ slice_get (statements doc) index
    → option_map (λ k. 8 + k) (position (λ h. h == index) headers)
    ≡ option_and_then (number_of_header doc) (slice_get (statements doc) index)
number_there doc d headers s index same is there =
    ap (λ (hs : List ℕ). option_map (λ k. 8 + k) (position (λ h. h == index) hs)) is
    ∙ ap (λ (e : Doc). option_map (λ k. 8 + k) (position (λ h. h == index)
    (map (λ (t : Statement). t.index) (component_headers e)))) same
    ∙ ap (option_map (λ k. 8 + k))
    (position-map (λ h. h == index) (λ (t : Statement). t.index) (component_headers doc))
    ∙ ap (λ (i : ℕ). option_map (λ k. 8 + k)
    (position (λ (h : Statement). h.index == i) (component_headers doc)))
    (sym (at_its_place doc index s (sym there)))
    ∙ ap (option_and_then (number_of_header doc)) there

-- ---- Hilt's

-- one row
row : (b : Bool) (k : ℕ) (c : HiltClass) (f : Option HiltClass) (o : Option ℕ) → number_of c ≡ k
    → option_map number_of f ≡ o
    → option_map number_of (if b then Some c else f) ≡ (if b then Some k else o)
row true k c f o number rest = ap Some number
row false k c f o number rest = rest

turned : (n : Bytes) (i : ℕ) (rows : List HiltRow)
    → position_from (λ r. bytes_eq n r.class) i rows ≡ position_from (λ r. bytes_eq r.class n) i rows
turned n i [] = refl
turned n i (r ∷ rs) =
    ap (λ (b : Bool). if b then Some i else position_from (λ q. bytes_eq n q.class) (i + 1) rs)
    (bytes_eq_turned n r.class)
    ∙ ap (λ o. if bytes_eq r.class n then Some i else o) (turned n (i + 1) rs)

-- a component that is found by its name has the index of the row of that name
numbered : (n : Bytes) → option_map number_of (hilt.class_named n)
    ≡ position_from (λ r. bytes_eq n r.class) 0 hilt_classes
numbered n =
    row _ 0 SingletonComponent _ _ refl (
    row _ 1 ActivityRetainedComponent _ _ refl (
    row _ 2 ServiceComponent _ _ refl (
    row _ 3 ViewModelComponent _ _ refl (
    row _ 4 ActivityComponent _ _ refl (
    row _ 5 FragmentComponent _ _ refl (
    row _ 6 ViewComponent _ _ refl (
    row _ 7 ViewWithFragmentComponent None None refl refl)))))))

pub class_is : (doc : Doc) (n : Bytes) (o : Option HiltClass) → o ≡ hilt.class_named n
    → option_or (option_map number_of o) (option_and_then (number_of_header doc) (declared doc n))
    ≡ class_named doc n
unfolding class_named
class_is doc n o is =
    ap (λ (p : Option ℕ). option_or p (option_and_then (number_of_header doc) (declared doc n)))
    (ap (option_map number_of) is ∙ numbered n ∙ turned n 0 hilt_classes
    ∙ sym (position_from-zero (λ r. bytes_eq r.class n) hilt_classes))
