-- The stage of types: each type is allowed in its place, and each body has the type of its result.
use Rattle.std.specs.Prelude.{Bool, true, false, not, ◌&&◌, if◌then◌else◌, List, [], ◌∷◌, ◌++◌, map, filter, flat_map, Option, Some, None, is_some, is_none, option_and_then}
use Rattle.std.specs.Option.{option_map_or}
use Rattle.dg_lex.specs.Bytes.{Bytes}
use Rattle.dg_types.specs.declared.shape.Shape.{Shape, out-Shape}
use Rattle.dg_types.specs.declared.shape.Shape.TheOpen.{Shape-F}
use Rattle.dg_types.specs.declared.shape.TypeUse.{TypeUse}
use Rattle.dg_types.specs.Requests.{Layer, base_of, kind_of, is_plain_use, is_use}
use Rattle.dg_types.specs.Texts.{shape_text}
use Rattle.dg_decl.specs.declared.document.Doc.{Doc}
use Rattle.dg_decl.specs.declared.item.Item.{Item}
use Rattle.dg_decl.specs.declared.item.Item.TheVariants as item
use Rattle.dg_decl.specs.declared.item.Mark.{Mark}
use Rattle.dg_decl.specs.declared.item.Mark.TheVariants as mark
use Rattle.dg_decl.specs.declared.item.Param.{Param}
use Rattle.dg_decl.specs.declared.violation.Rule.TheVariants as rule
use Rattle.dg_decl.specs.declared.violation.Violation.{Violation}
use Rattle.dg_decl.specs.Document.{Statement, statements}
use Rattle.dg_decl.specs.Sites.{site_of_line}
use Rattle.dg_decl.specs.Names.{class_item_named, item_at}
use Rattle.dg_decl.specs.Typing.{is_assignable, checks, tree_checks}
use Rattle.dg_decl.specs.Stages.Components.{at_line}

-- ---- types in their places

-- a type in its place, and whether it is allowed there
pub record Placed : Type 0 where
  pub shape : Shape
  pub allowed : Bool

abbrev pub placed : (TypeUse → Bool) → TypeUse → Placed
placed is_allowed u = record { shape = u.shape; allowed = is_allowed u }

-- `Text`, `Int`, a class or an interface
abbrev pub is_base_use : TypeUse → Bool
is_base_use u = is_some (base_of u.shape)

abbrev pub is_base_set_at : Layer → Bool
is_base_set_at (Shape-F.Set t) = is_some (base_of t)
is_base_set_at other = false

-- `Set<B>`
abbrev pub is_base_set_use : TypeUse → Bool
is_base_set_use u = is_base_set_at (out-Shape u.shape)

abbrev pub is_multi_at : Layer → Bool
is_multi_at (Shape-F.Set t) = is_some (base_of t)
is_multi_at (Shape-F.Map k t) = is_some (kind_of k) && is_some (base_of t)
is_multi_at other = false

-- `Set<B>` or `Map<K,B>`
abbrev pub is_multi_use : TypeUse → Bool
is_multi_use u = is_multi_at (out-Shape u.shape)

-- a member whose members are elements gives a set, and any other a base type
abbrev pub is_result_use : Option Mark → TypeUse → Bool
is_result_use (Some mark.ElementsIntoSet) u = is_base_set_use u
is_result_use other u = is_base_use u

abbrev pub each_placed : (TypeUse → Bool) → List Param → List Placed
each_placed is_allowed ps = map (λ p. placed is_allowed p.shape) ps

-- the types of an item, each in its place: those of parameters, and then that of the result
unfoldable pub types_of : Item → List Placed
types_of (item.Class inject scope n params interfaces) = each_placed is_plain_use params
types_of (item.Provides m scope n params result body) =
    each_placed is_plain_use params ++ placed (is_result_use m) result ∷ []
types_of (item.Binds m scope n param result) =
    placed is_base_use param.shape ∷ placed (is_result_use m) result ∷ []
types_of (item.Produces m n params result body) =
    each_placed is_use params ++ placed (is_result_use m) result ∷ []
types_of (item.OptionalOf n result) = placed is_base_use result ∷ []
types_of (item.Multibinds n result) = placed is_multi_use result ∷ []
types_of (item.BindsInstance n result) = placed is_base_use result ∷ []
types_of (item.Entry n result) = placed is_plain_use result ∷ []
types_of other = []

-- a type isn't allowed in its place
unfoldable pub bad_type : Doc → Statement → List Violation
bad_type doc s =
    map (λ p. at_line rule.BadType s (shape_text p.shape))
    (filter (λ p. not p.allowed) (types_of s.item))

-- ---- optionals of classes

-- the class of an unqualified type
abbrev pub unqualified_class : TypeUse → Option Bytes
unqualified_class u = if is_none u.qualifier then class_at (out-Shape u.shape) else None
  where
    class_at : Layer → Option Bytes
    class_at (Shape-F.Named n) = Some n
    class_at other = None

abbrev pub is_injected : Item → Bool
is_injected (item.Class inject scope n params interfaces) = inject
is_injected other = false

abbrev pub optional_use : Item → Option TypeUse
optional_use (item.OptionalOf n result) = Some result
optional_use other = None

-- `bindsOptionalOf` of an unqualified class with `@Inject`: the class is bound anyway
unfoldable pub optional_of_inject : Doc → Statement → List Violation
optional_of_inject doc s =
    option_map_or broken (option_and_then unqualified_class (optional_use s.item)) []
  where
    broken : Bytes → List Violation
    broken class =
        if option_map_or is_injected
        (option_and_then (item_at doc) (class_item_named doc class)) false
        then at_line rule.OptionalOfInject s class ∷ [] else []

-- ---- bodies

-- a body checks against the type of its result; the parameter of `binds` is assignable to it
abbrev pub has_its_type : Doc → Item → Bool
has_its_type doc (item.Provides m scope n params result body) = checks doc params body result.shape
has_its_type doc (item.Binds m scope n param result) =
    is_assignable doc param.shape.shape result.shape
has_its_type doc (item.Produces m n params result body) = tree_checks doc params body result.shape
has_its_type doc other = true

-- a body hasn't the type of its result
unfoldable pub type_mismatch : Doc → Statement → List Violation
type_mismatch doc s =
    if has_its_type doc s.item then []
    else record { rule = rule.TypeMismatch; site = site_of_line s.line; detail = None } ∷ []

-- the stage, by line and then by rule
unfoldable pub types_stage : Doc → List Violation
types_stage doc =
    flat_map (λ s. bad_type doc s ++ optional_of_inject doc s ++ type_mismatch doc s)
    (statements doc)
