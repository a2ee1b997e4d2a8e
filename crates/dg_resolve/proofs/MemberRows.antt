-- The tables of members are those of the bindings that act in each class.
use Rattle.std.proofs.Common.{◌≡◌, ℕ, ◌<◌, ◌==◌, Bool, true, false, ◌&&◌, List, [], ◌∷◌, map, filter, flat_map, if◌then◌else◌, refl, sym, ap, ◌∙◌}
use Rattle.std.specs.List.{range_with_len}
use Rattle.std.proofs.lemmas.Bool.{eq-eqb}
use Rattle.dg_types.specs.declared.key.Key.{Key}
use Rattle.dg_types.specs.Equality.{same_key}
use Rattle.dg_types.proofs.EqualityLemmas.{key_decides}
use Rattle.dg_decl.specs.declared.document.Doc.{Doc}
use Rattle.dg_decl.specs.declared.binding.Bind.{Bind}
use Rattle.dg_decl.specs.declared.binding.BindRef.TheVariants as ref
use Rattle.dg_decl.specs.declared.binding.Owned.{Owned}
use Rattle.dg_decl.specs.Components.{class_count, is_installed}
use Rattle.dg_decl.specs.Lookup.{owned, acts_in, bindings}
use Rattle.dg_resolve.specs.declared.members.Wanted.{Wanted}
use Rattle.dg_resolve.specs.Known.{HaveMembers}
use Rattle.dg_resolve.specs.Members.{takes, rows_of_member, rows_of_members, AreInstallers}
use Rattle.dg_resolve.specs.Tables.{Numbers, Rows, of_number, row, Holds}
use Rattle.dg_resolve.proofs.ListLemmas.{pick, flat_map_same, filter_as}
use Rattle.dg_resolve.proofs.TableLemmas.{symmetric}

-- a row of a class, at the class itself and elsewhere
pub row_elsewhere : (x : ℕ) (key : Key) (o : Owned) (c : ℕ) (k : Key) → (c == x) ≡ false
    → row x key o c k ≡ []
row_elsewhere x key o c k e = ap (λ (b : Bool). if b && same_key k key then o ∷ [] else []) e

pub row_here : (key : Key) (o : Owned) (c : ℕ) (k : Key)
    → row c key o c k ≡ (if same_key key k then o ∷ [] else [])
row_here key o c k =
    ap (λ (b : Bool). if b && same_key k key then o ∷ [] else []) (eq-eqb c c refl)
    ∙ ap (λ (b : Bool). if b then o ∷ [] else []) (symmetric same_key key_decides (λ (x : List Owned). x) k key)

tests : (t s i : Bool) (o : Owned)
    → (if t then (if i then (if s then o ∷ [] else []) else []) else [])
    ≡ (if t && s && i then o ∷ [] else [])
tests true true true o = refl
tests true true false o = refl
tests true false true o = refl
tests true false false o = refl
tests false true i o = refl
tests false false i o = refl

pub member_row : (doc : Doc) (installers : Numbers) (w : Wanted) (b : Bind) (c : ℕ) (k : Key)
    → AreInstallers doc installers → c < class_count doc
    → rows_of_member installers w b c k
    ≡ (if acts_in doc c (takes w) k b then owned c (ref.Member b.item) ∷ [] else [])
member_row doc installers w b c k are lt =
    let f : ℕ → List Owned = λ x. row x b.key (owned x (ref.Member b.item)) c k in
    let rows = ap (λ (l : List ℕ). flat_map f l) (are.each b.module)
    ∙ pick (λ x. is_installed doc x b.module) f c (λ x e. row_elsewhere x b.key (owned x (ref.Member b.item)) c k e) (class_count doc) lt
    ∙ ap (λ (l : List Owned). if is_installed doc c b.module then l else []) (row_here b.key (owned c (ref.Member b.item)) c k) in
    ap (λ (l : List Owned). if takes w b.kind then l else []) rows
    ∙ tests (takes w b.kind) (same_key b.key k) (is_installed doc c b.module) (owned c (ref.Member b.item))

pub members_are : (doc : Doc) (installers : Numbers) (w : Wanted) (tables : List Rows) (count : ℕ) (bs : List Bind)
    → AreInstallers doc installers → count ≡ class_count doc → bs ≡ bindings doc
    → Holds count (rows_of_members installers w bs) tables
    → HaveMembers doc w tables
members_are doc installers w tables count bs are size all holds = record {
  each = λ c k lt.
      holds.each c k (rw size lt)
      ∙ ap (λ (l : List Bind). flat_map (λ b. rows_of_member installers w b c k) l) all
      ∙ flat_map_same (λ b. rows_of_member installers w b c k)
      (λ b. if acts_in doc c (takes w) k b then owned c (ref.Member b.item) ∷ [] else []) (bindings doc)
      (λ b h. member_row doc installers w b c k are lt)
      ∙ filter_as (acts_in doc c (takes w) k) (λ b. owned c (ref.Member b.item)) (bindings doc);
}
