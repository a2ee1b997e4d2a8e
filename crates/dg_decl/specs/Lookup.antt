-- What binds a key in a component class.
use Rattle.std.specs.Prelude.{ℕ, ◌==◌, Bool, true, false, not, ◌&&◌, ◌||◌, if◌then◌else◌, List, [], ◌∷◌, ◌++◌, map, Option, Some, None, is_some, option_map, option_and_then, option_to_list, slice_index}
use Rattle.std.specs.List.{filter, filter_map, flat_map, list_any, find as find_first, position}
use Rattle.dg_lex.specs.Bytes.{Bytes}
use Rattle.dg_types.specs.declared.shape.TypeUse.{TypeUse}
use Rattle.dg_types.specs.declared.shape.Qualifier.{Qualifier}
use Rattle.dg_types.specs.declared.key.Key.{Key}
use Rattle.dg_types.specs.declared.key.Base.{Base}
use Rattle.dg_types.specs.declared.key.Base.TheVariants as base
use Rattle.dg_types.specs.declared.key.Core.{Core}
use Rattle.dg_types.specs.declared.key.Core.TheVariants as core
use Rattle.dg_types.specs.declared.key.Inner.TheVariants as inner
use Rattle.dg_types.specs.declared.key.MapKind.{MapKind}
use Rattle.dg_types.specs.declared.key.MapKind.TheVariants as map_kind
use Rattle.dg_types.specs.declared.key.MapKeyVal.{MapKeyVal}
use Rattle.dg_types.specs.declared.key.MapKeyVal.TheVariants as map_key
use Rattle.dg_types.specs.Requests.{core_of}
use Rattle.dg_types.specs.Equality.{same_key}
use Rattle.dg_decl.specs.declared.document.Doc.{Doc}
use Rattle.dg_decl.specs.declared.item.Mark.{Mark}
use Rattle.dg_decl.specs.declared.item.Mark.TheVariants as mark
use Rattle.dg_decl.specs.declared.item.Item.{Item}
use Rattle.dg_decl.specs.declared.item.Item.TheVariants as item
use Rattle.dg_decl.specs.declared.component.Bound.{Bound}
use Rattle.dg_decl.specs.declared.binding.Bind.{Bind}
use Rattle.dg_decl.specs.declared.binding.BindKind.{BindKind}
use Rattle.dg_decl.specs.declared.binding.BindKind.TheVariants as kind
use Rattle.dg_decl.specs.declared.binding.BindRef.{BindRef}
use Rattle.dg_decl.specs.declared.binding.BindRef.TheVariants as ref
use Rattle.dg_decl.specs.declared.binding.Owned.{Owned}
use Rattle.dg_decl.specs.declared.binding.Found.{Found}
use Rattle.dg_decl.specs.declared.binding.Found.TheVariants as found
use Rattle.dg_decl.specs.Document.{Statement, statements}
use Rattle.dg_decl.specs.Names.{class_item_named, item_at}
use Rattle.dg_decl.specs.Components.{is_number, hilt_row, default_bound, header_of, chain, root_first, carries, is_installed, own_members, bound_in, exposed_of}

-- ---- module members as bindings

-- the key of a use of a core type
abbrev pub key_of_use : TypeUse → Option Key
key_of_use t = option_map (λ c. record { qualifier = t.qualifier; core = c }) (core_of t.shape)

-- the core type of the set to which elements of this core type belong
abbrev pub set_of : Core → Option Core
set_of (core.One b) = Some (core.Set b inner.Plain)
set_of other = None

abbrev pub kind_of_map_key : MapKeyVal → MapKind
kind_of_map_key (map_key.Text t) = map_kind.Text
kind_of_map_key (map_key.Int n) = map_kind.Int

-- the core type of the map to which values of this core type belong with such a key
abbrev pub map_of : MapKeyVal → Core → Option Core
map_of key (core.One b) = Some (core.Map (kind_of_map_key key) b inner.Plain)
map_of key other = None

-- the core type that a member of this result binds or adds to, by its mark
abbrev pub marked_core : Option Mark → Core → Option Core
marked_core None c = Some c
marked_core (Some mark.IntoSet) c = set_of c
marked_core (Some mark.ElementsIntoSet) c = Some c
marked_core (Some (mark.IntoMap key)) c = map_of key c

abbrev pub kind_of_mark : Option Mark → BindKind
kind_of_mark None = kind.Explicit
kind_of_mark (Some mark.IntoSet) = kind.IntoSet
kind_of_mark (Some mark.ElementsIntoSet) = kind.Elements
kind_of_mark (Some (mark.IntoMap key)) = kind.IntoMap key

-- what a module member does with the key of its result, after its mark
pub record Role : Type 0 where
  pub mark : Option Mark
  pub kind : BindKind
  pub result : TypeUse

abbrev pub bound_by_mark : Option Mark → TypeUse → Option Role
bound_by_mark m t = Some (record { mark = m; kind = kind_of_mark m; result = t })

abbrev pub role_of : Item → Option Role
role_of (item.Provides mark scope n params result body) = bound_by_mark mark result
role_of (item.Binds mark scope n param result) = bound_by_mark mark result
role_of (item.Produces mark n params result body) = bound_by_mark mark result
role_of (item.OptionalOf n result) =
    Some (record { mark = None; kind = kind.OptionalOf; result = result })
role_of (item.Multibinds n result) =
    Some (record { mark = None; kind = kind.Declares; result = result })
role_of other = None

-- the key that a member binds, adds to or declares
abbrev pub key_of_role : Role → Option Key
key_of_role r =
    option_map (λ c. record { qualifier = r.result.qualifier; core = c })
    (option_and_then (marked_core r.mark) (core_of r.result.shape))

-- a module member of this module as a binding
abbrev pub binding_in : Statement → ℕ → Option Bind
binding_in s m = option_and_then as_bind (role_of s.item)
  where
    as_bind : Role → Option Bind
    as_bind r =
        option_map (λ k. record { item = s.index; «module» = m; key = k; kind = r.kind })
        (key_of_role r)

abbrev pub binding_of : Statement → Option Bind
binding_of s = option_and_then (binding_in s) s.block

-- the bindings of a document: one for each module member, in order
unfoldable pub bindings : Doc → List Bind
bindings doc = filter_map binding_of (statements doc)

abbrev pub is_explicit : BindKind → Bool
is_explicit kind.Explicit = true
is_explicit other = false

abbrev pub is_contribution : BindKind → Bool
is_contribution kind.IntoSet = true
is_contribution kind.Elements = true
is_contribution (kind.IntoMap key) = true
is_contribution other = false

abbrev pub is_declaration : BindKind → Bool
is_declaration kind.Declares = true
is_declaration other = false

abbrev pub is_optional : BindKind → Bool
is_optional kind.OptionalOf = true
is_optional other = false

-- a binding of this kind and key stands in a module that is installed in a class
abbrev pub acts_in : Doc → ℕ → (BindKind → Bool) → Key → Bind → Bool
acts_in doc c is_kind k b = is_kind b.kind && same_key b.key k && is_installed doc c b.module

abbrev pub owned : ℕ → BindRef → Owned
owned c r = record { owner = c; binding = r }

-- ---- explicit bindings

-- a use has this key
abbrev pub has_key : Key → TypeUse → Bool
has_key k t = is_it (key_of_use t)
  where
    is_it : Option Key → Bool
    is_it None = false
    is_it (Some other) = same_key other k

-- the default binding of one of Hilt's classes, where it has this key
abbrev pub explicit_default : Doc → ℕ → Key → List Owned
explicit_default doc c k =
    map (λ b. owned c ref.Default)
    (filter (λ b. has_key k b.shape) (option_to_list (option_and_then default_bound (hilt_row c))))

-- what the dependencies of a class expose for this key
abbrev pub explicit_exposed : Doc → ℕ → Key → List Owned
explicit_exposed doc c k =
    map (λ e. owned c (ref.Exposed e.dep e.entry))
    (filter (λ e. same_key e.key k) (exposed_of doc c))

-- a statement is the header of a class
abbrev pub is_header_of : Doc → ℕ → Statement → Bool
is_header_of doc c s = is_number s.index (option_map (λ h. h.index) (header_of doc c))

-- the bound arguments of the block of a class, as statements
abbrev pub bound_lines : Doc → ℕ → List Statement
bound_lines doc c = filter (λ s. is_some (bound_in s.item)) (own_members doc c)

-- the bound argument of a class of this key that a statement declares, by its index among those of
-- the class
abbrev pub explicit_argument : Doc → ℕ → Key → Statement → List Owned
explicit_argument doc c k s =
    if has_bound (bound_in s.item)
    then map (λ k. owned c (ref.Arg k)) (option_to_list index_of)
    else []
  where
    index_of : Option ℕ
    index_of = position (λ b. b.index == s.index) (bound_lines doc c)

    has_bound : Option Bound → Bool
    has_bound None = false
    has_bound (Some b) = has_key k b.shape

-- the module member that a statement is, where it binds this key in a class
abbrev pub explicit_member : Doc → ℕ → Key → Statement → List Owned
explicit_member doc c k s =
    map (λ b. owned c (ref.Member b.item))
    (filter (acts_in doc c is_explicit k) (option_to_list (binding_of s)))

-- What a statement binds to a key in a class. The entries that its dependencies expose stand at its
-- header.
abbrev pub explicit_at : Doc → ℕ → Key → Statement → List Owned
explicit_at doc c k s =
    (if is_header_of doc c s then explicit_exposed doc c k else [])
    ++ explicit_argument doc c k s ++ explicit_member doc c k s

-- the explicit bindings of a key in a class: Hilt's default binding, and then the others in order
-- of lines
unfoldable pub explicit : Doc → ℕ → Key → List Owned
explicit doc c k = explicit_default doc c k ++ flat_map (explicit_at doc c k) (statements doc)

-- those of all classes of the chain, the root's first
unfoldable pub explicit_in_chain : Doc → ℕ → Key → List Owned
explicit_in_chain doc c k = flat_map (λ o. explicit doc o k) (root_first doc c)

-- ---- sets, maps and optionals

abbrev pub plain_core : Core → Core
plain_core (core.Set b i) = core.Set b inner.Plain
plain_core (core.Map k b i) = core.Map k b inner.Plain
plain_core other = other

-- the key of the set or map of the values themselves, where a key is one of ways to them
abbrev pub plain_key : Key → Key
plain_key k = record { qualifier = k.qualifier; core = plain_core k.core }

abbrev pub inside_core : Core → Core
inside_core (core.Optional b i) = core.One b
inside_core other = other

-- the key of what is inside an optional
abbrev pub inside_key : Key → Key
inside_key k = record { qualifier = k.qualifier; core = inside_core k.core }

-- the contributions to a set or map that stand in modules installed in one class
abbrev pub contributions_in : Doc → Key → ℕ → List Owned
contributions_in doc k o =
    map (λ b. owned o (ref.Member b.item))
    (filter (acts_in doc o is_contribution (plain_key k)) (bindings doc))

-- the contributions to a set or map that a class sees, those of the root class first
unfoldable pub contributions : Doc → ℕ → Key → List Owned
contributions doc c k = flat_map (contributions_in doc k) (root_first doc c)

-- a binding of this kind and key acts in a class of the chain
abbrev pub acts_in_chain : Doc → ℕ → (BindKind → Bool) → Key → Bool
acts_in_chain doc c is_kind k =
    list_any (λ o. list_any (acts_in doc o is_kind k) (bindings doc)) (chain doc c)

-- a `multibinds` line of the set or map stands in a module that is installed in the chain
unfoldable pub is_declared : Doc → ℕ → Key → Bool
is_declared doc c k = acts_in_chain doc c is_declaration (plain_key k)

-- a `bindsOptionalOf` line of the inside of an optional stands in a module that is installed in the
-- chain
unfoldable pub is_optional_declared : Doc → ℕ → Key → Bool
is_optional_declared doc c k = acts_in_chain doc c is_optional (inside_key k)

-- a binding contributes to or declares a set or map, or declares an optional, in a class
abbrev pub opens_in : Doc → Key → ℕ → Bind → Bool
opens_in doc k o b =
    if is_optional_core k.core then acts_in doc o is_optional (inside_key k) b
    else acts_in doc o (λ does. is_contribution does || is_declaration does) (plain_key k) b
  where
    is_optional_core : Core → Bool
    is_optional_core (core.Optional b i) = true
    is_optional_core other = false

-- The line of a set, map or optional: that of its first contribution or declaration in the first
-- class of the chain, from the root on, that has one. It is 0 where none has.
unfoldable pub line_of_multi : Doc → ℕ → Key → ℕ
line_of_multi doc c k =
    line_of (flat_map (λ o. filter (opens_in doc k o) (bindings doc)) (root_first doc c))
  where
    line_of : List Bind → ℕ
    line_of [] = 0
    line_of (b ∷ bs) = slice_index doc.lines b.item

-- ---- classes with `@Inject`

-- the scope that an item is written with, where it is a class with `@Inject`
abbrev pub injected_scope : Item → Option (Option Bytes)
injected_scope (item.Class true scope n params interfaces) = Some scope
injected_scope other = None

-- A class of this item with `@Inject`, as a component class finds it: its own where it has no
-- scope, and else that of the nearest class of the chain that carries the scope.
abbrev pub injected_with : Doc → ℕ → ℕ → Option Bytes → Found
injected_with doc c i None = found.One c (ref.ClassItem i)
injected_with doc c i (Some scope) = carried_by (find_first (carries doc scope) (chain doc c))
  where
    carried_by : Option ℕ → Found
    carried_by None = found.BadScope i
    carried_by (Some o) = found.One o (ref.ClassItem i)

-- the item of this index, where it is a class with `@Inject`
abbrev pub injected_item : Doc → ℕ → Option ℕ → Found
injected_item doc c None = found.Nothing
injected_item doc c (Some i) = injected_where (option_and_then injected_scope (item_at doc i))
  where
    injected_where : Option (Option Bytes) → Found
    injected_where None = found.Nothing
    injected_where (Some scope) = injected_with doc c i scope

-- the class of a base type
abbrev pub injected_base : Doc → ℕ → Base → Found
injected_base doc c (base.Named n) = injected_item doc c (class_item_named doc n)
injected_base doc c other = found.Nothing

-- a qualified key is bound by no class
abbrev pub injected : Doc → ℕ → Option Qualifier → Base → Found
injected doc c None b = injected_base doc c b
injected doc c (Some q) b = found.Nothing

-- ---- what a class finds

-- a set or map is there where it has a contribution or a declaration
abbrev pub multi : Bool → (List Owned → Found) → List Owned → Found
multi is_there found_as owned =
    if is_there || not (is_empty owned) then found_as owned else found.Nothing
  where
    is_empty : List Owned → Bool
    is_empty [] = true
    is_empty (o ∷ os) = false

-- what a class finds for a key without an explicit binding
abbrev pub found_of_core : Doc → ℕ → Key → Core → Found
found_of_core doc c k (core.Set b i) =
    multi (is_declared doc c k) found.SetOf (contributions doc c k)
found_of_core doc c k (core.Map m b i) =
    multi (is_declared doc c k) found.MapOf (contributions doc c k)
found_of_core doc c k (core.Optional b i) =
    if is_optional_declared doc c k then found.OptionalOf else found.Nothing
found_of_core doc c k (core.One b) = injected doc c k.qualifier b

unfoldable pub find_without_explicit : Doc → ℕ → Key → Found
find_without_explicit doc c k = found_of_core doc c k k.core

-- one explicit binding is what is found, and two or more are many
abbrev pub found_among : List Owned → Found → Found
found_among [] otherwise = otherwise
found_among (o ∷ []) otherwise = found.One o.owner o.binding
found_among (o ∷ p ∷ os) otherwise = found.Many (o ∷ p ∷ os)

-- what a class finds for a key
unfoldable pub find : Doc → ℕ → Key → Found
find doc c k = found_among (explicit_in_chain doc c k) (find_without_explicit doc c k)
