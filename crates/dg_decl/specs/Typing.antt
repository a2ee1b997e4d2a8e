-- Which type an expression gives, and against which types it checks. The types are those of
-- Dagger's documents; the language of bodies is this project's own.
use Rattle.std.specs.Prelude.{Bool, true, false, ◌&&◌, ◌||◌, if◌then◌else◌, List, [], ◌∷◌, Option, Some, None, is_some, option_map, option_and_then}
use Rattle.std.specs.List.{find, list_all}
use Rattle.std.specs.Option.{option_map_or}
use Rattle.std.specs.Str.{bytes_eq}
use Rattle.dg_lex.specs.Bytes.{Bytes, is_among}
use Rattle.dg_types.specs.declared.shape.Shape.{Shape, out-Shape}
use Rattle.dg_types.specs.declared.shape.Shape.TheVariants as shape
use Rattle.dg_types.specs.declared.shape.Shape.TheOpen.{Shape-F}
use Rattle.dg_types.specs.Requests.{Layer, base_of, kind_of}
use Rattle.dg_types.specs.Equality.{same_shape}
use Rattle.dg_decl.specs.declared.document.Doc.{Doc}
use Rattle.dg_decl.specs.declared.item.Item.{Item}
use Rattle.dg_decl.specs.declared.item.Item.TheVariants as item
use Rattle.dg_decl.specs.declared.item.Param.{Param}
use Rattle.dg_decl.specs.declared.expression.CallName.{CallName}
use Rattle.dg_decl.specs.declared.expression.CallName.TheVariants as call
use Rattle.dg_decl.specs.declared.expression.ParamCall.{ParamCall}
use Rattle.dg_decl.specs.declared.expression.ParamCall.TheVariants as by_name
use Rattle.dg_decl.specs.declared.expression.Cond.TheOpen.{Cond-F, Expr-F}
use Rattle.dg_decl.specs.declared.expression.Cond.{Cond, fold-Cond}
use Rattle.dg_decl.specs.declared.expression.Expr.{Expr, fold-Expr}
use Rattle.dg_decl.specs.declared.expression.Tree.TheOpen.{Tree-F}
use Rattle.dg_decl.specs.declared.expression.Tree.{Tree, fold-Tree}
use Rattle.dg_decl.specs.Names.{class_item_named, item_at, fields_of}

-- ---- assignable types

abbrev pub interfaces_in : Item → List Bytes
interfaces_in (item.Class inject scope n params interfaces) = interfaces
interfaces_in other = []

-- the interfaces that a class lists
abbrev pub interfaces_of : Doc → Bytes → List Bytes
interfaces_of doc class =
    option_map_or interfaces_in (option_and_then (item_at doc) (class_item_named doc class)) []

-- the one is a class whose list has the other
abbrev pub implements : Doc → Layer → Layer → Bool
implements doc (Shape-F.Named class) (Shape-F.Named interface) =
    is_among interface (interfaces_of doc class)
implements doc other type = false

-- a value of the one type may stand where the other is wanted: they are equal, or a class has the
-- interface
unfoldable pub is_assignable : Doc → Shape → Shape → Bool
is_assignable doc from to = same_shape from to || implements doc (out-Shape from) (out-Shape to)

-- ---- the types of parameters

abbrev pub is_named : Bytes → Param → Bool
is_named name p = bytes_eq p.name name

-- the type of a parameter, among those of its line
abbrev pub type_of_param : List Param → Bytes → Option Shape
type_of_param params name = option_map (λ p. p.shape.shape) (find (is_named name) params)

-- the type of a field of a class
abbrev pub type_of_field : Doc → Layer → Bytes → Option Shape
type_of_field doc (Shape-F.Named class) field =
    option_and_then (λ fields. type_of_param fields field) (fields_of doc class)
type_of_field doc other field = None

-- ---- parts of types

-- a type, where it is a base type
abbrev pub as_base : Shape → Option Shape
as_base t = if is_some (base_of t) then Some t else None

-- what `get` gives: the X of `Provider<X>` and of `Lazy<X>`
abbrev pub got_at : Layer → Option Shape
got_at (Shape-F.Provider t) = Some t
got_at (Shape-F.Lazy t) = Some t
got_at other = None

-- the B of `Produced<B>`
abbrev pub produced_at : Layer → Option Shape
produced_at (Shape-F.Produced t) = as_base t
produced_at other = None

-- the B of `Set<B>`
abbrev pub element_at : Layer → Option Shape
element_at (Shape-F.Set t) = as_base t
element_at other = None

-- the B of `Optional<B>`
abbrev pub inside_at : Layer → Option Shape
inside_at (Shape-F.Optional t) = as_base t
inside_at other = None

-- the V of `Producer<V>`
abbrev pub awaited_at : Layer → Option Shape
awaited_at (Shape-F.Producer t) = Some t
awaited_at other = None

-- what `values` gives: `Set<B>` of `Set<Produced<B>>`, and `Map<K,B>` of `Map<K,Produced<B>>`
abbrev pub values_at : Layer → Option Shape
values_at (Shape-F.Set t) = option_map shape.Set (produced_at (out-Shape t))
values_at (Shape-F.Map k t) =
    if is_some (kind_of k) then option_map (shape.Map k) (produced_at (out-Shape t)) else None
values_at other = None

abbrev pub is_optional_at : Layer → Bool
is_optional_at (Shape-F.Optional t) = true
is_optional_at other = false

-- `size` is that of a text, a set or a map
abbrev pub has_size_at : Layer → Bool
has_size_at Shape-F.Text = true
has_size_at (Shape-F.Set t) = true
has_size_at (Shape-F.Map k t) = true
has_size_at other = false

-- ---- expressions

-- what typing says of an expression: the type that it gives by itself, where it has one, and
-- against which types it checks
pub record Typed : Type 0 where
  pub gives : Option Shape
  pub checks : Shape → Bool

-- an expression that gives a type checks against each type to which that is assignable
abbrev pub giving : Doc → Option Shape → Typed
giving doc type =
    record {
      gives = type;
      checks = λ wanted. option_map_or (λ t. is_assignable doc t wanted) type false;
    }

-- an expression that has no type by itself
abbrev pub checking : (Shape → Bool) → Typed
checking checks = record { gives = None; checks = checks }

-- a type, where a condition holds
abbrev pub if_so : Bool → Shape → Option Shape
if_so holds t = if holds then Some t else None

-- a type of which a part is known
abbrev pub part : (Layer → Option Shape) → Option Shape → Option Shape
part at type = option_and_then (λ t. at (out-Shape t)) type

-- as many arguments as fields, and each checks against its field's type
abbrev pub arguments_check : List Typed → List Param → Bool
arguments_check [] [] = true
arguments_check (x ∷ xs) (p ∷ ps) = x.checks p.shape.shape && arguments_check xs ps
arguments_check xs ps = false

abbrev pub only : List Typed → Option Typed
only (x ∷ []) = Some x
only other = None

-- the one argument checks against a type
abbrev pub one_checks : List Typed → Shape → Bool
one_checks args t = option_map_or (λ x. x.checks t) (only args) false

-- the one argument gives a text, a set or a map
abbrev pub one_has_size : List Typed → Bool
one_has_size args = option_map_or (λ t. has_size_at (out-Shape t)) (given args) false
  where
    given : List Typed → Option Shape
    given xs = option_and_then (λ x. x.gives) (only xs)

-- each of the members checks against the base type of the set
abbrev pub members_check : List Typed → Option Shape → Bool
members_check args base = option_map_or (λ b. list_all (λ x. x.checks b) args) base false

abbrev pub typed_call : Doc → CallName → List Typed → Typed
typed_call doc call.Cat args =
    giving doc (if_so (list_all (λ x. x.checks shape.Text) args) shape.Text)
typed_call doc call.TextOf args = giving doc (if_so (one_checks args shape.Int) shape.Text)
typed_call doc call.Size args = giving doc (if_so (one_has_size args) shape.Int)
typed_call doc call.SetOf args =
    checking (λ wanted. members_check args (element_at (out-Shape wanted)))
typed_call doc call.Fail args = checking (λ wanted. one_checks args shape.Text)

abbrev pub type_by_name : List Param → ParamCall → Bytes → Option Shape
type_by_name params by_name.Get p = part got_at (type_of_param params p)
type_by_name params by_name.Value p = part produced_at (type_of_param params p)
type_by_name params by_name.Values p = part values_at (type_of_param params p)
type_by_name params by_name.Failure p =
    option_map (λ b. shape.Text) (part produced_at (type_of_param params p))

-- the B of an optional parameter, where the other checks against it
abbrev pub typed_or_else : Option Shape → Typed → Option Shape
typed_or_else base other = option_and_then (λ b. if_so (other.checks b) b) base

-- a condition is typed, where what typing says of its parts is known
abbrev pub is_typed_at : Doc → List Param → Cond-F Bool Typed → Bool
is_typed_at doc params (Cond-F.Equal a b) =
    (a.checks shape.Text && b.checks shape.Text) || (a.checks shape.Int && b.checks shape.Int)
is_typed_at doc params (Cond-F.Less a b) = a.checks shape.Int && b.checks shape.Int
is_typed_at doc params (Cond-F.Has p) =
    option_map_or (λ t. is_optional_at (out-Shape t)) (type_of_param params p) false
is_typed_at doc params (Cond-F.IsOk p) = is_some (part produced_at (type_of_param params p))

-- what typing says of an expression of a line with these parameters, where it is known of its parts
abbrev pub typed_at : Doc → List Param → Expr-F Bool Typed → Typed
typed_at doc params (Expr-F.Text t) = giving doc (Some shape.Text)
typed_at doc params (Expr-F.Int n) = giving doc (Some shape.Int)
typed_at doc params (Expr-F.Param p) = giving doc (type_of_param params p)
typed_at doc params (Expr-F.New class args) =
    giving doc (if_so (option_map_or (arguments_check args) (fields_of doc class) false)
    (shape.Named class))
typed_at doc params (Expr-F.Field of field) =
    giving doc (part (λ t. type_of_field doc t field) of.gives)
typed_at doc params (Expr-F.Sum a b) =
    giving doc (if_so (a.checks shape.Int && b.checks shape.Int) shape.Int)
typed_at doc params (Expr-F.If cond first other) =
    checking (λ wanted. cond && first.checks wanted && other.checks wanted)
typed_at doc params (Expr-F.Call f args) = typed_call doc f args
typed_at doc params (Expr-F.ByName f p) = giving doc (type_by_name params f p)
typed_at doc params (Expr-F.OrElse p other) =
    giving doc (typed_or_else (part inside_at (type_of_param params p)) other)

unfoldable pub typed : Doc → List Param → Expr → Typed
typed doc params = fold-Expr Bool Typed (is_typed_at doc params) (typed_at doc params)

-- the type that an expression gives by itself
abbrev pub synth : Doc → List Param → Expr → Option Shape
synth doc params e = (typed doc params e).gives

-- an expression checks against a type
abbrev pub checks : Doc → List Param → Expr → Shape → Bool
checks doc params e wanted = (typed doc params e).checks wanted

-- a condition is typed
unfoldable pub is_typed_condition : Doc → List Param → Cond → Bool
is_typed_condition doc params = fold-Cond Bool Typed (is_typed_at doc params) (typed_at doc params)

-- ---- trees

abbrev pub tree_checks_at : Doc → List Param → Tree-F (Shape → Bool) → Shape → Bool
tree_checks_at doc params (Tree-F.Leaf e) wanted = checks doc params e wanted
tree_checks_at doc params (Tree-F.Await p) wanted =
    option_map_or (λ t. is_assignable doc t wanted) (part awaited_at (type_of_param params p)) false
tree_checks_at doc params (Tree-F.If cond first other) wanted =
    is_typed_condition doc params cond && first wanted && other wanted

-- a tree checks against a type: its conditions are typed, and its leaves and what it awaits check
unfoldable pub tree_checks : Doc → List Param → Tree → Shape → Bool
tree_checks doc params = fold-Tree (Shape → Bool) (tree_checks_at doc params)
