-- The order of statements, and the modules that are installed in a class.
use Rattle.std.proofs.Common.{◌≡◌, inl, inr, ℕ, zero, suc, ◌+◌, ◌<◌, ◌≤◌, ◌==◌, Bool, true, false, cond, ◌&&◌, not, List, [], ◌∷◌, ◌++◌, length, map, filter, filter_map, flat_map, slice_get, Contains, Option, Some, None, option_map, option_and_then, if◌then◌else◌, refl, sym, ap, subst, ◌∙◌, arith}
use Rattle.std.specs.List.{find, range_with_len}
use Rattle.std.specs.Option.{option_map_or}
use Rattle.std.proofs.lemmas.Bool.{ne_eqb, eq-eqb, true≢false, false≢true}
use Rattle.std.proofs.lemmas.Bool.Decides.{Decides-eqb}
use Rattle.std.proofs.lemmas.List.{append-nil}
use Rattle.std.proofs.lemmas.List.Elements.{Contains-append_cases}
use Rattle.std.proofs.lemmas.Option.{none-some, same_Some}
use Rattle.dg_lex.specs.Bytes.{Bytes, is_among}
use Rattle.dg_hilt.specs.Names.{predefined_names}
use Rattle.dg_decl.specs.declared.document.Doc.{Doc}
use Rattle.dg_decl.specs.declared.component.Class.{Class}
use Rattle.dg_decl.specs.declared.item.Item.{Item}
use Rattle.dg_decl.specs.declared.item.Item.TheVariants as item
use Rattle.dg_decl.specs.Document.{Statement, statements, statements_from, open_behind}
use Rattle.dg_decl.specs.Names.{outer_name, is_called, declared, is_module, module_named, item_at}
use Rattle.dg_decl.specs.Walks.{IsReached, root, step}
use Rattle.dg_decl.specs.Components.{is_number, install_in, includes_in, modules_in, class_named, header_item, is_replaced, modules_named, modules_installed_by_annotation, seeds, included, Reached, is_reached, is_installed, installed, ancestors, class_count, class_of_number, component_classes}
use Rattle.dg_decl.proofs.ComponentLemmas.{reached_by_short_walks}
use Rattle.dg_decl.proofs.MemberLemmas.{in_front, none_in, first_or_rest, out_map, out_filter, out_filter_map, out_and_then, out_range}
use Rattle.dg_decl.proofs.NodeEquality.{first_so, second_so, both_so}
use Rattle.dg_decl.proofs.NodeWalks.{in_rest}
use Rattle.dg_resolve.specs.Members.{modules_at, among_modules, AreModules, AreInstallers}
use Rattle.dg_resolve.specs.Tables.{Numbers, of_number}
use Rattle.dg_resolve.proofs.ListLemmas.{flat_map_same, at_range}

-- ---- the order of statements

-- the indices rise, and the first is at least this number
abbrev pub Rises : ℕ → List Statement → Type 0
Rises low [] = Unit {0}
Rises low (s ∷ ss) = (low ≤ s.index) × Rises (suc s.index) ss

from_rises : (doc : Doc) (index : ℕ) (block : Option ℕ) (items : List Item)
    → Rises index (statements_from doc index block items)
from_rises doc index block [] = tt
from_rises doc index block (x ∷ xs) =
    (omega arith, from_rises doc (suc index) (open_behind block index x) xs)

pub statements_rise : (doc : Doc) → Rises 0 (statements doc)
unfolding statements
statements_rise doc = from_rises doc 0 None doc.items

-- one of them has at least this index
pub at_least : (low : ℕ) (ss : List Statement) (s : Statement) → Rises low ss → Contains ss s
    → low ≤ s.index
at_least low [] s rises c = absurd (none_in s c)
at_least low (t ∷ ts) s rises c =
    elim (first_or_rest s t ts c) [
      | inl e ↦ (let first : low ≤ t.index = rises.0 in
          let same : t.index ≡ s.index = ap (λ (x : Statement). x.index) e in omega arith)
      | inr r ↦ (let first : low ≤ t.index = rises.0 in
          let later : suc t.index ≤ s.index = at_least (suc t.index) ts s rises.1 r in omega arith)
    ]

-- ---- one index

module _ (p : Statement → Bool) (m c : ℕ) where
  abbrev found : List Statement → List ℕ
  found ss = flat_map (λ k. if m == k then c ∷ [] else []) (map (λ s. s.index) (filter p ss))

  -- the first may be left out where it isn't the one
  passed : (b : Bool) (s : Statement) (ss : List Statement) → (b ≡ true → s.index ≡ m → ⊥)
      → flat_map (λ k. if m == k then c ∷ [] else []) (map (λ s. s.index) (cond b (s ∷ filter p ss) (filter p ss)))
      ≡ found ss
  passed false s ss ne = refl
  passed true s ss ne =
      ap (λ (t : Bool). (if t then c ∷ [] else []) ++ found ss)
      (ne_eqb m s.index (λ e. ne refl (sym e)))

  -- no statement has the index and passes
  found_none : (ss : List Statement) → ((s : Statement) → Contains ss s → p s ≡ true → s.index ≡ m → ⊥)
      → found ss ≡ []
  found_none [] no_one = refl
  found_none (s ∷ ss) no_one =
      passed (p s) s ss (λ b e. no_one s (in_front s ss) b e)
      ∙ found_none ss (λ t r b e. no_one t (in_rest t s ss r) b e)

  -- one does
  found_one : (low : ℕ) (ss : List Statement) (s : Statement) → Rises low ss → Contains ss s
      → p s ≡ true → s.index ≡ m → found ss ≡ c ∷ []
  found_one low [] s rises h passes e = absurd (none_in s h)
  found_one low (t ∷ ts) s rises h passes e =
      elim (first_or_rest s t ts h) [
        | inl same ↦ (
            let here : t.index ≡ m = ap (λ (x : Statement). x.index) same ∙ e in
            ap (λ (b : Bool). flat_map (λ k. if m == k then c ∷ [] else []) (map (λ s. s.index) (cond b (t ∷ filter p ts) (filter p ts)))) (ap p same ∙ passes)
            ∙ ap (λ (b : Bool). (if b then c ∷ [] else []) ++ found ts) (eq-eqb m t.index (sym here))
            ∙ ap (λ (l : List ℕ). c ∷ l) (found_none ts (λ u r b f.
            (let later : suc t.index ≤ u.index = at_least (suc t.index) ts u rises.1 r in omega (arith, here, f))))
            )
        | inr r ↦ (
            let later : suc t.index ≤ s.index = at_least (suc t.index) ts s rises.1 r in
            passed (p t) t ts (λ b f. omega (arith, e, f))
            ∙ found_one (suc t.index) ts s rises.1 r passes e
            )
      ]

-- ---- installed modules are modules

abbrev pub IsModule : Doc → ℕ → Type 0
IsModule doc m = (s : Statement) × Contains (statements doc) s × (s.index ≡ m) × (is_module s.item ≡ true)

out_find : (p : Statement → Bool) (ss : List Statement) (s : Statement) → find p ss ≡ Some s
    → Contains ss s
out_find p [] s e = absurd (none-some s e)
out_find p (t ∷ ts) s e = by (p t) (out_find p ts s) e
  where
    by : (b : Bool) → (find p ts ≡ Some s → Contains ts s) → cond b (Some t) (find p ts) ≡ Some s
        → Contains (t ∷ ts) s
    by true rest e = subst (Contains (t ∷ ts)) (same_Some t s e) (in_front t ts)
    by false rest e = in_rest s t ts (rest e)

declared_stands : (doc : Doc) (n : Bytes) (s : Statement) → declared doc n ≡ Some s
    → Contains (statements doc) s
unfolding declared
declared_stands doc n s e = by (is_among n predefined_names) e
  where
    by : (b : Bool) → cond b None (find (is_called outer_name n) (statements doc)) ≡ Some s
        → Contains (statements doc) s
    by true e = absurd (none-some s e)
    by false e = out_find (is_called outer_name n) (statements doc) s e

named_is : (doc : Doc) (n : Bytes) (m : ℕ) → module_named doc n ≡ Some m → IsModule doc m
unfolding module_named
named_is doc n m e =
    let o = out_and_then (λ (s : Statement). if is_module s.item then Some s.index else None) (declared doc n) m e in
    by o.0 (declared_stands doc n o.0 o.1) (is_module o.0.item) refl o.2
  where
    by : (s : Statement) → Contains (statements doc) s → (b : Bool) → is_module s.item ≡ b
        → (if b then Some s.index else None) ≡ Some m → IsModule doc m
    by s stands true is e = (s, stands, same_Some s.index m e, is)
    by s stands false is e = absurd (none-some m e)

list_is : (doc : Doc) (ns : List Bytes) (m : ℕ) → Contains (modules_named doc ns) m → IsModule doc m
list_is doc ns m h =
    let f = out_filter (λ m. not (is_replaced doc m)) (filter_map (module_named doc) ns) m h in
    let n = out_filter_map (module_named doc) ns m f.0 in
    named_is doc n.0 m n.2

installs : (x : Item) (f : Bytes → Option ℕ) (c : ℕ) → is_number c (option_and_then f (install_in x)) ≡ true
    → is_module x ≡ true
installs (item.Module install n includes) f c e = refl
installs (item.TestModule install n replaces includes) f c e = refl
installs other f c e = absurd (false≢true e)

seed_is : (doc : Doc) (c m : ℕ) → Contains (seeds doc c) m → IsModule doc m
unfolding seeds
seed_is doc c m h =
    elim (Contains-append_cases _ (modules_installed_by_annotation doc c) m h) [
      | inl n ↦ list_is doc _ m n
      | inr a ↦ (
          let f = out_filter (λ m. not (is_replaced doc m)) _ m a in
          let g = out_map (λ (s : Statement). s.index) _ m f.0 in
          let s = out_filter (λ (s : Statement). is_number c (option_and_then (class_named doc) (install_in s.item))) (statements doc) g.0 g.1 in
          (g.0, s.0, g.2, installs g.0.item (class_named doc) c s.1)
          )
    ]

reached_is : (doc : Doc) (c m : ℕ) → Reached doc c m → IsModule doc m
unfolding included
reached_is doc c m (root n h) = seed_is doc c n h
reached_is doc c m (step k n r h) = list_is doc _ n h

pub installed_is : (doc : Doc) (c m : ℕ) → is_installed doc c m ≡ true → IsModule doc m
unfolding is_installed
installed_is doc c m e = reached_is doc c m ((reached_by_short_walks doc c m).0 (first_so _ _ e))

-- ---- the classes in which a module is installed

-- a class once, where the module is installed in it
pub installed_once : (doc : Doc) (c m : ℕ)
    → flat_map (λ k. if m == k then c ∷ [] else []) (installed doc c)
    ≡ (if is_installed doc c m then c ∷ [] else [])
unfolding installed
installed_once doc c m = by (is_installed doc c m) refl
  where
    by : (b : Bool) → is_installed doc c m ≡ b
        → found (λ s. is_module s.item && is_installed doc c s.index) m c (statements doc) ≡ (if b then c ∷ [] else [])
    by true e =
        let s = installed_is doc c m e in
        found_one (λ s. is_module s.item && is_installed doc c s.index) m c 0 (statements doc) s.0 (statements_rise doc) s.1
        (both_so _ _ s.3 (ap (is_installed doc c) s.2 ∙ e)) s.2
    by false e =
        found_none (λ s. is_module s.item && is_installed doc c s.index) m c (statements doc)
        (λ s h passes same. true≢false (sym (second_so _ _ passes) ∙ ap (is_installed doc c) same ∙ e))

pub modules_are : (doc : Doc) (classes : List Class) (c : ℕ) → classes ≡ component_classes doc
    → c < class_count doc → modules_at classes c ≡ installed doc c
unfolding component_classes
modules_are doc classes c e lt =
    ap (λ (l : List Class). modules_at l c) e
    ∙ ap (λ (o : Option Class). option_map_or (λ x. x.modules) o []) (at_range (class_of_number doc) (class_count doc) c lt)

pub installers_are : (doc : Doc) (classes : List Class) (table : Numbers) → classes ≡ component_classes doc
    → AreModules classes (class_count doc) table → AreInstallers doc table
installers_are doc classes table e are = record {
  each = λ m.
      are.each m
      ∙ flat_map_same (among_modules classes m) (λ c. if is_installed doc c m then c ∷ [] else []) (range_with_len 0 (class_count doc))
      (λ c h.
      (ap (λ (ms : List ℕ). flat_map (λ k. if m == k then c ∷ [] else []) ms)
      (modules_are doc classes c e (out_range (class_count doc) c h))
      ∙ installed_once doc c m));
}
