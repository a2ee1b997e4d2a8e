-- The tests of equality are true exactly where the two are equal.
use Rattle.std.proofs.Common.{◌≡◌, ◌↔◌, ◌&&◌, ℕ, List, Bool, true, false, Option, Some, None, IsTrue, Decides, refl, ap, sym, ◌∙◌}
use Rattle.std.specs.Cmp.{first_so, second_so}
use Rattle.std.specs.Cmp.Lexicographic.{bytes_decides}
use Rattle.std.specs.Option.{option_eq}
use Rattle.std.specs.Str.{bytes_eq}
use Rattle.std.proofs.lemmas.Bool.Decides.{Decides-int_eq}
use Rattle.std.proofs.lemmas.Bool.{true≢false}
use denote.Enum.Bare.{same_true}
use Rattle.dg_types.specs.contracts.key.Inner as inner_type
use Rattle.dg_types.specs.contracts.key.MapKind as kind_type
use Rattle.dg_types.specs.contracts.key.Mode as mode_type
use Rattle.dg_types.specs.contracts.key.InnerPartialEq.TheImpl as of_forms
use Rattle.dg_types.specs.contracts.key.MapKindPartialEq.TheImpl as of_kinds
use Rattle.dg_types.specs.contracts.key.ModePartialEq.TheImpl as of_modes
use Rattle.dg_types.specs.contracts.key.BaseEq.TheImpl.Laws as base_laws
use Rattle.dg_types.specs.contracts.key.CoreEq.TheImpl.Laws as core_laws
use Rattle.dg_types.specs.contracts.key.KeyEq.TheImpl.Laws as key_laws
use Rattle.dg_types.specs.contracts.key.RequestEq.TheImpl.Laws as request_laws
use Rattle.dg_types.specs.contracts.key.MapKeyValEq.TheImpl.Laws as map_key_laws
use Rattle.dg_types.specs.contracts.shape.QualifierEq.TheImpl.Laws as qualifier_laws
use Rattle.dg_types.specs.declared.key.Base.{Base}
use Rattle.dg_types.specs.declared.key.Base.TheVariants as base
use Rattle.dg_types.specs.declared.key.Core.{Core}
use Rattle.dg_types.specs.declared.key.Core.TheVariants as core
use Rattle.dg_types.specs.declared.key.Inner.{Inner}
use Rattle.dg_types.specs.declared.key.Key.{Key}
use Rattle.dg_types.specs.declared.key.MapKind.{MapKind}
use Rattle.dg_types.specs.declared.key.MapKeyVal.{MapKeyVal}
use Rattle.dg_types.specs.declared.key.MapKeyVal.TheVariants as map_key
use Rattle.dg_types.specs.declared.key.Mode.{Mode}
use Rattle.dg_types.specs.declared.key.Request.{Request}
use Rattle.dg_types.specs.declared.shape.Qualifier.{Qualifier}
use Rattle.dg_types.specs.Equality.{same_base, same_core, same_key, same_map_key, same_qualifier, same_request}

inner_same : (a b : Inner) → of_forms.ghosts.eq a b ≡ true → a ≡ b
inner_same = same_true inner_type.the_type tt

kind_same : (a b : MapKind) → of_kinds.ghosts.eq a b ≡ true → a ≡ b
kind_same = same_true kind_type.the_type tt

mode_same : (a b : Mode) → of_modes.ghosts.eq a b ≡ true → a ≡ b
mode_same = same_true mode_type.the_type tt

base_same : (a b : Base) → same_base a b ≡ true → a ≡ b
unfolding same_base
base_same base.Text base.Text h = refl
base_same base.Int base.Int h = refl
base_same (base.Named a) (base.Named b) h = ap base.Named ((bytes_decides a b).0 h)
base_same a b h = absurd (true≢false (sym h))

pub base_decides : (a b : Base) → Decides (same_base a b) (a ≡ b)
unfolding same_base
base_decides a b = (base_same a b, λ e. ap (same_base a) (sym e) ∙ base_laws.laws-law.refl a)

option_same : {T : Type 0} (E : T → T → Bool) (same : (a b : T) → E a b ≡ true → a ≡ b) (x y : Option T) → option_eq E x y ≡ true → x ≡ y
option_same E same None None h = refl
option_same E same (Some x) (Some y) h = ap Some (same x y h)
option_same E same None (Some y) h = absurd (true≢false (sym h))
option_same E same (Some x) None h = absurd (true≢false (sym h))

qualifier_same : (a b : Qualifier) → same_qualifier a b ≡ true → a ≡ b
unfolding same_qualifier
qualifier_same a b h =
    let name : a.name ≡ b.name = (bytes_decides a.name b.name).0 (first_so _ _ h) in
    let member : a.member ≡ b.member = option_same bytes_eq (λ x y. (bytes_decides x y).0) a.member b.member (second_so _ _ h) in
    λ i. record { name = name i; member = member i }

pub qualifier_decides : (a b : Qualifier) → Decides (same_qualifier a b) (a ≡ b)
unfolding same_qualifier
qualifier_decides a b = (qualifier_same a b, λ e. ap (same_qualifier a) (sym e) ∙ qualifier_laws.laws-law.refl a)

core_same : (a b : Core) → same_core a b ≡ true → a ≡ b
unfolding same_core same_base
core_same (core.One a) (core.One b) h = ap core.One (base_same a b h)
core_same (core.Set a x) (core.Set b y) h =
    let d = base_same a b (first_so _ _ h) in
    let f = inner_same x y (second_so _ _ h) in
    λ i. core.Set (d i) (f i)
core_same (core.Map k a x) (core.Map l b y) h =
    let d = kind_same k l (first_so _ _ h) in
    let e = base_same a b (first_so _ _ (second_so _ _ h)) in
    let f = inner_same x y (second_so _ _ (second_so _ _ h)) in
    λ i. core.Map (d i) (e i) (f i)
core_same (core.Optional a x) (core.Optional b y) h =
    let d = base_same a b (first_so _ _ h) in
    let f = inner_same x y (second_so _ _ h) in
    λ i. core.Optional (d i) (f i)
core_same a b h = absurd (true≢false (sym h))

pub core_decides : (a b : Core) → Decides (same_core a b) (a ≡ b)
unfolding same_core
core_decides a b = (core_same a b, λ e. ap (same_core a) (sym e) ∙ core_laws.laws-law.refl a)

key_same : (a b : Key) → same_key a b ≡ true → a ≡ b
unfolding same_key same_qualifier same_core
key_same a b h =
    let q : a.qualifier ≡ b.qualifier = option_same same_qualifier qualifier_same a.qualifier b.qualifier (first_so _ _ h) in
    let c : a.core ≡ b.core = core_same a.core b.core (second_so _ _ h) in
    λ i. record { qualifier = q i; core = c i }

pub key_decides : (a b : Key) → Decides (same_key a b) (a ≡ b)
unfolding same_key
key_decides a b = (key_same a b, λ e. ap (same_key a) (sym e) ∙ key_laws.laws-law.refl a)

request_same : (a b : Request) → same_request a b ≡ true → a ≡ b
unfolding same_request same_key
request_same a b h =
    let m : a.mode ≡ b.mode = mode_same a.mode b.mode (first_so _ _ h) in
    let k : a.key ≡ b.key = key_same a.key b.key (second_so _ _ h) in
    λ i. record { mode = m i; key = k i }

pub request_decides : (a b : Request) → Decides (same_request a b) (a ≡ b)
unfolding same_request
request_decides a b = (request_same a b, λ e. ap (same_request a) (sym e) ∙ request_laws.laws-law.refl a)

map_key_same : (a b : MapKeyVal) → same_map_key a b ≡ true → a ≡ b
unfolding same_map_key
map_key_same (map_key.Text a) (map_key.Text b) h = ap map_key.Text ((bytes_decides a b).0 h)
map_key_same (map_key.Int a) (map_key.Int b) h = ap map_key.Int ((Decides-int_eq a b).0 h)
map_key_same a b h = absurd (true≢false (sym h))

pub map_key_decides : (a b : MapKeyVal) → Decides (same_map_key a b) (a ≡ b)
unfolding same_map_key
map_key_decides a b = (map_key_same a b, λ e. ap (same_map_key a) (sym e) ∙ map_key_laws.laws-law.refl a)
