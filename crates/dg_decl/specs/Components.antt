-- The component classes of a document by number, and what each holds. Hilt's are the first, and
-- then come those that the document declares, in order.
use Rattle.std.specs.Prelude.{◌≡◌, ◌↔◌, IsTrue, ℕ, zero, suc, ◌+◌, ◌-◌, ◌==◌, nat_lt, nat_eq, Bool, true, false, not, ◌&&◌, if◌then◌else◌, List, [], ◌∷◌, ◌++◌, length, map, reverse, Option, Some, None, option_map, option_and_then, option_to_list, unwrap_or, slice_get, Contains}
use Rattle.std.specs.Option.{option_or}
use Rattle.std.specs.Str.{bytes_eq}
use Rattle.std.specs.List.{filter, filter_map, flat_map, list_any, position, range_with_len, enumerate_from}
use Rattle.dg_lex.specs.Bytes.{Bytes, is_among}
use Rattle.dg_types.specs.declared.shape.Shape.TheVariants as shape
use Rattle.dg_types.specs.declared.key.Key.{Key}
use Rattle.dg_types.specs.declared.key.Core.{Core}
use Rattle.dg_types.specs.declared.key.Core.TheVariants as core
use Rattle.dg_types.specs.declared.key.Mode.{Mode}
use Rattle.dg_types.specs.declared.key.Mode.TheVariants as mode
use Rattle.dg_types.specs.declared.key.Request.{Request}
use Rattle.dg_types.specs.Requests.{request_of}
use Rattle.dg_hilt.specs.Table.{HiltRow, HiltDefaultRow, hilt_classes}
use Rattle.dg_decl.specs.declared.document.Doc.{Doc}
use Rattle.dg_decl.specs.declared.component.Bound.{Bound}
use Rattle.dg_decl.specs.declared.component.Class.{Class}
use Rattle.dg_decl.specs.declared.component.Exposed.{Exposed}
use Rattle.dg_decl.specs.declared.item.Item.{Item}
use Rattle.dg_decl.specs.declared.item.Item.TheVariants as item
use Rattle.dg_decl.specs.Document.{Statement, statements, members}
use Rattle.dg_decl.specs.Walks.{IsReached, is_within}
use Rattle.dg_decl.specs.Names.{outer_name, declared, is_module, module_named, item_at, result_of}

-- a number is this one, where there is one
abbrev pub is_number : ℕ → Option ℕ → Bool
is_number n None = false
is_number n (Some m) = m == n

-- ---- the classes and their numbers

abbrev pub hilt_count : ℕ
hilt_count = length hilt_classes

abbrev pub hilt_row : ℕ → Option HiltRow
hilt_row c = slice_get hilt_classes c

-- the item is the header of a component class that the document declares
abbrev pub is_component : Item → Bool
is_component (item.Component scopes n parent modules) = true
is_component (item.DefineComponent scopes n parent) = true
is_component other = false

-- the headers of the classes that the document declares, in order
abbrev pub component_headers : Doc → List Statement
component_headers doc = filter (λ s. is_component s.item) (statements doc)

unfoldable pub class_count : Doc → ℕ
class_count doc = hilt_count + length (component_headers doc)

-- the number of the class of which this statement is the header
abbrev pub number_of_header : Doc → Statement → Option ℕ
number_of_header doc s =
    option_map (λ k. hilt_count + k)
    (position (λ h. h.index == s.index) (component_headers doc))

-- the number of the class of this name
unfoldable pub class_named : Doc → Bytes → Option ℕ
class_named doc n =
    option_or (position (λ row. bytes_eq row.class n) hilt_classes)
    (option_and_then (number_of_header doc) (declared doc n))

-- the header of a class; Hilt's have none
unfoldable pub header_of : Doc → ℕ → Option Statement
header_of doc c =
    if nat_lt c hilt_count then None else slice_get (component_headers doc) (c - hilt_count)

-- the header of a class has the number of the class
abbrev pub HeadersHaveTheirNumbers : Type 0
HeadersHaveTheirNumbers =
    (doc : Doc) (c : ℕ) (h : Statement) → header_of doc c ≡ Some h → number_of_header doc h ≡ Some c

-- the item of the header of a class
abbrev pub header_item : Doc → ℕ → Option Item
header_item doc c = option_map (λ h. h.item) (header_of doc c)

unfoldable pub class_name : Doc → ℕ → Bytes
class_name doc c =
    unwrap_or (option_or (option_map (λ row. row.class) (hilt_row c)) declared_name) []
  where
    declared_name : Option Bytes
    declared_name = option_and_then outer_name (header_item doc c)

-- ---- parents

abbrev pub parent_in : Item → Option Bytes
parent_in (item.Component scopes n parent modules) = parent
parent_in (item.DefineComponent scopes n parent) = Some parent
parent_in other = None

-- the class whose subcomponent a class is
unfoldable pub parent_of : Doc → ℕ → Option ℕ
parent_of doc c =
    option_or (option_and_then (λ row. row.parent) (hilt_row c))
    (option_and_then (class_named doc) (option_and_then parent_in (header_item doc c)))

-- at most so many steps of a walk from one to the next, its start included
abbrev pub walk : (ℕ → Option ℕ) → ℕ → Option ℕ → List ℕ
walk next zero at = []
walk next (suc steps) None = []
walk next (suc steps) (Some c) = c ∷ walk next steps (next c)

-- the ancestors of a class, its parent first: as many as there are classes, where its walk of
-- parents has no end
unfoldable pub ancestors : Doc → ℕ → List ℕ
ancestors doc c = walk (parent_of doc) (class_count doc) (parent_of doc c)

-- a class and its ancestors, the root last
unfoldable pub chain : Doc → ℕ → List ℕ
chain doc c = c ∷ ancestors doc c

-- the same, the root first
abbrev pub root_first : Doc → ℕ → List ℕ
root_first doc c = reverse (chain doc c)

-- a class is its own ancestor
unfoldable pub is_own_ancestor : Doc → ℕ → Bool
is_own_ancestor doc c = list_any (nat_eq c) (ancestors doc c)

-- the parent of a class, as the one step of a walk
abbrev pub parents : Doc → ℕ → List ℕ
parents doc c = option_to_list (parent_of doc c)

-- the ancestors of a class are those to which a walk of parents leads from its parent, cycle or not
abbrev pub AncestorsAreWalks : Type 0
AncestorsAreWalks =
    (doc : Doc) (c a : ℕ) → Contains (ancestors doc c) a ↔ IsReached (parents doc) (parents doc c) a

-- the classes from a class to its root, by parents
pub data IsChain (doc : Doc) : ℕ → List ℕ → Type 0 where
  at_root : (c : ℕ) → parent_of doc c ≡ None → IsChain doc c (c ∷ [])
  under : (c p : ℕ) (ps : List ℕ) → parent_of doc c ≡ Some p → IsChain doc p ps
      → IsChain doc c (c ∷ ps)

-- a walk of parents from a class comes to no class again
abbrev pub has_root : Doc → ℕ → Bool
has_root doc c = not (list_any (is_own_ancestor doc) (chain doc c))

-- the chain of a class whose walk of parents meets no cycle is the whole walk
abbrev pub ChainsAreWhole : Type 0
ChainsAreWhole = (doc : Doc) (c : ℕ) → IsTrue (has_root doc c) → IsChain doc c (chain doc c)

-- ---- scopes

abbrev pub scopes_in : Item → List Bytes
scopes_in (item.Component scopes n parent modules) = scopes
scopes_in (item.DefineComponent scopes n parent) = scopes
scopes_in other = []

-- the scopes that a class carries: those that are written on it, or Hilt's one
unfoldable pub scopes_of : Doc → ℕ → List Bytes
scopes_of doc c =
    option_to_list (option_map (λ row. row.scope) (hilt_row c))
    ++ unwrap_or (option_map scopes_in (header_item doc c)) []

abbrev pub carries : Doc → Bytes → ℕ → Bool
carries doc scope c = is_among scope (scopes_of doc c)

-- ---- modules

abbrev pub replaces_in : Item → List Bytes
replaces_in (item.TestModule install n replaces includes) = replaces
replaces_in other = []

abbrev pub includes_in : Item → List Bytes
includes_in (item.Module install n includes) = includes
includes_in (item.TestModule install n replaces includes) = includes
includes_in other = []

abbrev pub modules_in : Item → List Bytes
modules_in (item.Component scopes n parent modules) = modules
modules_in other = []

-- the class in which a module is installed by an annotation
abbrev pub install_in : Item → Option Bytes
install_in (item.Module install n includes) = install
install_in (item.TestModule install n replaces includes) = Some install
install_in other = None

-- a `replaces` list of the document names the module of this index
unfoldable pub is_replaced : Doc → ℕ → Bool
is_replaced doc m =
    list_any (λ s. list_any (λ n. is_number m (module_named doc n)) (replaces_in s.item))
    (statements doc)

-- the modules of these names that aren't replaced
abbrev pub modules_named : Doc → List Bytes → List ℕ
modules_named doc ns = filter (λ m. not (is_replaced doc m)) (filter_map (module_named doc) ns)

-- the modules that an annotation of their own installs in a class and that aren't replaced
abbrev pub modules_installed_by_annotation : Doc → ℕ → List ℕ
modules_installed_by_annotation doc c =
    filter (λ m. not (is_replaced doc m))
    (map (λ s. s.index) (filter (λ s. is_number c (class_in s.item)) (statements doc)))
  where
    class_in : Item → Option ℕ
    class_in x = option_and_then (class_named doc) (install_in x)

-- the modules with which the walks of `includes` of a class begin
unfoldable pub seeds : Doc → ℕ → List ℕ
seeds doc c =
    modules_named doc (unwrap_or (option_map modules_in (header_item doc c)) [])
    ++ modules_installed_by_annotation doc c

-- the modules that a module includes, without those that are replaced
unfoldable pub included : Doc → ℕ → List ℕ
included doc m = modules_named doc (unwrap_or (option_map includes_in (item_at doc m)) [])

-- a walk of `includes`, also one of no step, leads to a module from a seed of the class and touches
-- no replaced module
abbrev pub Reached : Doc → ℕ → ℕ → Type 0
Reached doc c m = IsReached (included doc) (seeds doc c) m

-- the same, by walks of at most as many steps as the document has items
unfoldable pub is_reached : Doc → ℕ → ℕ → Bool
is_reached doc c m = is_within nat_eq (included doc) (length doc.items) (seeds doc c) m

-- as many steps as there are items are enough for any walk of `includes`
abbrev pub ReachedByShortWalks : Type 0
ReachedByShortWalks = (doc : Doc) (c m : ℕ) → IsTrue (is_reached doc c m) ↔ Reached doc c m

-- a module is reached from a class, and from no ancestor of it
unfoldable pub is_installed : Doc → ℕ → ℕ → Bool
is_installed doc c m =
    is_reached doc c m && not (list_any (λ a. is_reached doc a m) (ancestors doc c))

-- the modules that are installed in a class, in order
unfoldable pub installed : Doc → ℕ → List ℕ
installed doc c =
    map (λ s. s.index)
    (filter (λ s. is_module s.item && is_installed doc c s.index) (statements doc))

-- ---- what stands in the blocks of a class

-- the members of the block of a class's header
abbrev pub own_members : Doc → ℕ → List Statement
own_members doc c = flat_map (λ h. members doc h.index) (option_to_list (header_of doc c))

abbrev pub bound_in : Item → Option Bound
bound_in (item.BindsInstance n result) = Some (record { name = n; shape = result })
bound_in other = None

-- the value that each instance of one of Hilt's classes has bound
abbrev pub default_bound : HiltRow → Option Bound
default_bound row = option_map as_bound row.default
  where
    as_bound : HiltDefaultRow → Bound
    as_bound d =
        record { name = d.arg; shape = record { qualifier = None; shape = shape.Named d.class } }

-- the bound arguments of a class: its `bindsInstance` lines in order, or Hilt's default binding
unfoldable pub bound_of : Doc → ℕ → List Bound
bound_of doc c =
    option_to_list (option_and_then default_bound (hilt_row c))
    ++ filter_map (λ s. bound_in s.item) (own_members doc c)

abbrev pub entry_point_class : Item → Option Bytes
entry_point_class (item.EntryPoint install n) = Some install
entry_point_class other = None

-- the class to which the block of a header belongs: its own, or that in which an entry point is
-- installed
abbrev pub class_of_block : Doc → Statement → Option ℕ
class_of_block doc h =
    option_or (number_of_header doc h)
    (option_and_then (class_named doc) (entry_point_class h.item))

-- the class in one of whose blocks a statement stands
unfoldable pub class_around : Doc → Statement → Option ℕ
class_around doc s =
    option_and_then (class_of_block doc) (option_and_then (slice_get (statements doc)) s.block)

abbrev pub is_entry : Item → Bool
is_entry (item.Entry n result) = true
is_entry other = false

-- a statement is an entry of a class
abbrev pub is_entry_of : Doc → ℕ → Statement → Bool
is_entry_of doc c s = is_entry s.item && is_number c (class_around doc s)

-- the entries of a class in all its blocks, in order of lines
unfoldable pub entries_of : Doc → ℕ → List ℕ
entries_of doc c = map (λ s. s.index) (filter (is_entry_of doc c) (statements doc))

-- ---- dependencies

abbrev pub dependency_in : Item → Option Bytes
dependency_in (item.DependsOn n) = Some n
dependency_in other = None

-- the classes that the `dependsOn` lines of a class name, in order
unfoldable pub deps_of : Doc → ℕ → List ℕ
deps_of doc c =
    filter_map (λ s. option_and_then (class_named doc) (dependency_in s.item)) (own_members doc c)

-- the key of a request for an instance of a base type
abbrev pub plain_instance : Request → Option Key
plain_instance r = key_in r.mode r.key.core r.key
  where
    key_in : Mode → Core → Key → Option Key
    key_in mode.Instance (core.One b) k = Some k
    key_in m other k = None

-- the key that an entry exposes to the classes that depend on its class
abbrev pub exposed_key : Doc → ℕ → Option Key
exposed_key doc entry =
    option_and_then plain_instance
    (option_and_then request_of (option_and_then result_of (item_at doc entry)))

-- an entry as the dependency of this index exposes it
abbrev pub exposed_as : Doc → ℕ → ℕ → Option Exposed
exposed_as doc index entry =
    option_map (λ k. record { dep = index; entry = entry; key = k }) (exposed_key doc entry)

-- what the dependencies of a class expose, by dependency and then by entry
unfoldable pub exposed_of : Doc → ℕ → List Exposed
exposed_of doc c =
    flat_map (λ d. filter_map (exposed_as doc d.0) (entries_of doc d.1))
    (enumerate_from 0 (deps_of doc c))

-- the same of each class, in the order of their numbers
unfoldable pub exposed_by_class : Doc → List (List Exposed)
exposed_by_class doc = map (exposed_of doc) (range_with_len 0 (class_count doc))

-- ---- the whole tree

abbrev pub class_of_number : Doc → ℕ → Class
class_of_number doc c = record {
  name = class_name doc c;
  parent = parent_of doc c;
  scopes = scopes_of doc c;
  modules = installed doc c;
  bound = bound_of doc c;
  entries = entries_of doc c;
  deps = deps_of doc c;
}

unfoldable pub component_classes : Doc → List Class
component_classes doc = map (class_of_number doc) (range_with_len 0 (class_count doc))
