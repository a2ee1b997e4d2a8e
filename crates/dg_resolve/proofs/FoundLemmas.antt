-- What is found for a key without explicit bindings, by the form of the key.
use Rattle.std.proofs.Common.{◌≡◌, ℕ, Bool, true, false, not, ◌||◌, List, [], ◌∷◌, Option, Some, None, if◌then◌else◌, refl, sym, subst, ◌∙◌}
use Rattle.std.specs.Option.{option_map_or}
use Rattle.dg_types.specs.declared.key.Base.{Base}
use Rattle.dg_types.specs.declared.key.Core.{Core}
use Rattle.dg_types.specs.declared.key.Core.TheVariants as core
use Rattle.dg_types.specs.declared.key.Inner.{Inner}
use Rattle.dg_types.specs.declared.key.Key.{Key}
use Rattle.dg_types.specs.declared.key.MapKind.{MapKind}
use Rattle.dg_types.specs.declared.shape.Qualifier.{Qualifier}
use Rattle.dg_decl.specs.declared.document.Doc.{Doc}
use Rattle.dg_decl.specs.declared.binding.Owned.{Owned}
use Rattle.dg_decl.specs.declared.binding.Found.{Found}
use Rattle.dg_decl.specs.declared.binding.Found.TheVariants as found
use Rattle.dg_decl.specs.Lookup.{multi, injected, is_declaration, is_optional as declares_optional, acts_in_chain, is_declared, is_optional_declared, contributions, find_without_explicit}
use Rattle.dg_resolve.specs.Keys.{opening_key}
use Rattle.dg_resolve.specs.Known.{opened, contributions_to}

-- what is found where contributions are there or not
abbrev pub found_as : (List Owned → Found) → Option (List Owned) → Found
found_as f o = option_map_or f o found.Nothing

multi_as : (there : Bool) (f : List Owned → Found) (os : List Owned)
    → multi there f os ≡ found_as f (opened there os)
multi_as true f [] = refl
multi_as true f (o ∷ os) = refl
multi_as false f [] = refl
multi_as false f (o ∷ os) = refl

abbrev pub opened_for : Doc → ℕ → Key → Option (List Owned)
opened_for doc c k =
    opened (acts_in_chain doc c is_declaration (opening_key k)) (contributions_to doc c (opening_key k))

abbrev Of : Option Qualifier → Core → Key
Of q x = record { qualifier = q; core = x }

set_of : (doc : Doc) (c : ℕ) (q : Option Qualifier) (b : Base) (i : Inner)
    → find_without_explicit doc c (Of q (core.Set b i)) ≡ found_as found.SetOf (opened_for doc c (Of q (core.Set b i)))
unfolding find_without_explicit is_declared contributions
set_of doc c q b i = multi_as _ found.SetOf _

map_of : (doc : Doc) (c : ℕ) (q : Option Qualifier) (m : MapKind) (b : Base) (i : Inner)
    → find_without_explicit doc c (Of q (core.Map m b i)) ≡ found_as found.MapOf (opened_for doc c (Of q (core.Map m b i)))
unfolding find_without_explicit is_declared contributions
map_of doc c q m b i = multi_as _ found.MapOf _

optional_of : (doc : Doc) (c : ℕ) (q : Option Qualifier) (b : Base) (i : Inner)
    → find_without_explicit doc c (Of q (core.Optional b i))
    ≡ (if acts_in_chain doc c declares_optional (opening_key (Of q (core.Optional b i))) then found.OptionalOf else found.Nothing)
unfolding find_without_explicit is_optional_declared
optional_of doc c q b i = refl

one_of : (doc : Doc) (c : ℕ) (q : Option Qualifier) (b : Base)
    → find_without_explicit doc c (Of q (core.One b)) ≡ injected doc c q b
unfolding find_without_explicit
one_of doc c q b = refl

pub one_found : (doc : Doc) (c : ℕ) (k : Key) (b : Base) → k.core ≡ core.One b
    → find_without_explicit doc c k ≡ injected doc c k.qualifier b
one_found doc c k b e =
    subst (λ (x : Core). find_without_explicit doc c (Of k.qualifier x) ≡ injected doc c k.qualifier b) (sym e)
    (one_of doc c k.qualifier b)

pub set_found : (doc : Doc) (c : ℕ) (k : Key) (b : Base) (i : Inner) → k.core ≡ core.Set b i
    → find_without_explicit doc c k ≡ found_as found.SetOf (opened_for doc c k)
set_found doc c k b i e =
    subst (λ (x : Core). find_without_explicit doc c (Of k.qualifier x) ≡ found_as found.SetOf (opened_for doc c (Of k.qualifier x))) (sym e)
    (set_of doc c k.qualifier b i)

pub map_found : (doc : Doc) (c : ℕ) (k : Key) (m : MapKind) (b : Base) (i : Inner) → k.core ≡ core.Map m b i
    → find_without_explicit doc c k ≡ found_as found.MapOf (opened_for doc c k)
map_found doc c k m b i e =
    subst (λ (x : Core). find_without_explicit doc c (Of k.qualifier x) ≡ found_as found.MapOf (opened_for doc c (Of k.qualifier x))) (sym e)
    (map_of doc c k.qualifier m b i)

pub optional_found : (doc : Doc) (c : ℕ) (k : Key) (b : Base) (i : Inner) → k.core ≡ core.Optional b i
    → find_without_explicit doc c k
    ≡ (if acts_in_chain doc c declares_optional (opening_key k) then found.OptionalOf else found.Nothing)
optional_found doc c k b i e =
    subst (λ (x : Core). find_without_explicit doc c (Of k.qualifier x) ≡ (if acts_in_chain doc c declares_optional (opening_key (Of k.qualifier x)) then found.OptionalOf else found.Nothing)) (sym e)
    (optional_of doc c k.qualifier b i)
