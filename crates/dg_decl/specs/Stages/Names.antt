-- The stage of names: each name is declared once, and each mention has a declaration of the kind
-- that it wants.
use Rattle.std.specs.Prelude.{ℕ, nat_lt, Bool, true, false, not, ◌&&◌, ◌||◌, ◌==◌, if◌then◌else◌, List, [], ◌∷◌, ◌++◌, map, filter, flat_map, Option, Some, None, is_some, option_to_list}
use Rattle.std.specs.List.{list_any}
use Rattle.std.specs.Option.{option_map_or}
use Rattle.std.specs.Str.{bytes_eq}
use Rattle.dg_lex.specs.Bytes.{Bytes, is_among}
use Rattle.dg_types.specs.declared.shape.Shape.{Shape, fold-Shape}
use Rattle.dg_types.specs.declared.shape.Shape.TheOpen.{Shape-F}
use Rattle.dg_types.specs.declared.shape.Qualifier.{Qualifier}
use Rattle.dg_types.specs.declared.shape.TypeUse.{TypeUse}
use Rattle.dg_hilt.specs.Table.{hilt_names, default_classes}
use Rattle.dg_hilt.specs.Names.{qualifier_names, scope_names, predefined_names}
use Rattle.dg_decl.specs.declared.document.Doc.{Doc}
use Rattle.dg_decl.specs.declared.item.Item.{Item}
use Rattle.dg_decl.specs.declared.item.Item.TheVariants as item
use Rattle.dg_decl.specs.declared.item.Param.{Param}
use Rattle.dg_decl.specs.declared.expression.Cond.TheOpen.{Cond-F, Expr-F}
use Rattle.dg_decl.specs.declared.expression.Cond.{Cond, fold-Cond}
use Rattle.dg_decl.specs.declared.expression.Expr.{Expr, fold-Expr}
use Rattle.dg_decl.specs.declared.expression.Tree.TheOpen.{Tree-F}
use Rattle.dg_decl.specs.declared.expression.Tree.{Tree, fold-Tree}
use Rattle.dg_decl.specs.declared.violation.Rule.TheVariants as rule
use Rattle.dg_decl.specs.declared.violation.Violation.{Violation}
use Rattle.dg_decl.specs.Document.{Statement, statements}
use Rattle.dg_decl.specs.Names.{outer_name, member_name, is_called, is_module, is_class, declared, params_of}
use Rattle.dg_decl.specs.Stages.Components.{at_line}

-- ---- declared names

abbrev pub instance_name : Item → Option Bytes
instance_name (item.OpenLine n class parent args) = Some n
instance_name other = None

abbrev pub stands_before : Statement → Statement → Bool
stands_before earlier s = nat_lt earlier.index s.index

abbrev pub same_block : Option ℕ → Option ℕ → Bool
same_block None None = true
same_block (Some a) (Some b) = a == b
same_block a b = false

-- an earlier statement has the same name of this kind
abbrev pub has_earlier : (Item → Option Bytes) → (Statement → Bool) → Doc → Statement → Bytes → Bool
has_earlier name_in among doc s n =
    list_any (λ e. stands_before e s && among e && is_called name_in n e) (statements doc)

abbrev pub anywhere : Statement → Bool
anywhere e = true

-- the name that a statement declares outside blocks, where it is predefined or an earlier one
-- declares it
abbrev pub repeated_outer : Doc → Statement → List Bytes
repeated_outer doc s =
    filter (λ n. is_among n predefined_names || has_earlier outer_name anywhere doc s n)
    (option_to_list (outer_name s.item))

-- the name of a member, where an earlier member of its block has it
abbrev pub repeated_member : Doc → Statement → List Bytes
repeated_member doc s =
    filter (has_earlier member_name (λ e. same_block e.block s.block) doc s)
    (option_to_list (member_name s.item))

-- the names of parameters that earlier ones of their list have
abbrev pub repeated_among : List Bytes → List Bytes → List Bytes
repeated_among earlier [] = []
repeated_among earlier (n ∷ ns) =
    (if is_among n earlier then n ∷ [] else []) ++ repeated_among (n ∷ earlier) ns

abbrev pub repeated_params : Statement → List Bytes
repeated_params s = repeated_among [] (map (λ p. p.name) (params_of s.item))

-- the name of an instance, where an earlier `open` line opens one of this name
abbrev pub repeated_instance : Doc → Statement → List Bytes
repeated_instance doc s =
    filter (has_earlier instance_name anywhere doc s) (option_to_list (instance_name s.item))

-- a name is declared again
unfoldable pub duplicate_name : Doc → Statement → List Violation
duplicate_name doc s =
    map (at_line rule.DuplicateName s)
    (repeated_outer doc s ++ repeated_member doc s ++ repeated_params s ++ repeated_instance doc s)

-- ---- mentions

-- what a mention wants its name to be
pub data Wanted : Type 0 where
  scope : Wanted
  qualifier : Wanted
  qualifier_with_member : Wanted
  type : Wanted
  interface : Wanted
  class : Wanted
  modules : Wanted
  component : Wanted
  install_target : Wanted
  component_class : Wanted
  parameter : Wanted

-- a name that a line mentions, with what it wants
pub record Mention : Type 0 where
  pub wanted : Wanted
  pub name : Bytes

abbrev pub mention : Wanted → Bytes → Mention
mention w n = record { wanted = w; name = n }

-- the classes and interfaces in a type, in order
abbrev pub named_at : Shape-F (List Mention) → List Mention
named_at Shape-F.Text = []
named_at Shape-F.Int = []
named_at (Shape-F.Named n) = mention type n ∷ []
named_at (Shape-F.Set t) = t
named_at (Shape-F.Map k t) = k ++ t
named_at (Shape-F.Optional t) = t
named_at (Shape-F.Provider t) = t
named_at (Shape-F.Lazy t) = t
named_at (Shape-F.Producer t) = t
named_at (Shape-F.Produced t) = t

abbrev pub in_shape : Shape → List Mention
in_shape = fold-Shape (List Mention) named_at

abbrev pub in_qualifier : Qualifier → Mention
in_qualifier q = mention (if is_some q.member then qualifier_with_member else qualifier) q.name

abbrev pub in_use : TypeUse → List Mention
in_use u = map in_qualifier (option_to_list u.qualifier) ++ in_shape u.shape

abbrev pub in_params : List Param → List Mention
in_params ps = flat_map (λ p. in_use p.shape) ps

abbrev pub joined : List (List Mention) → List Mention
joined = flat_map (λ ms. ms)

abbrev pub in_cond_at : Cond-F (List Mention) (List Mention) → List Mention
in_cond_at (Cond-F.Equal a b) = a ++ b
in_cond_at (Cond-F.Less a b) = a ++ b
in_cond_at (Cond-F.Has p) = mention parameter p ∷ []
in_cond_at (Cond-F.IsOk p) = mention parameter p ∷ []

abbrev pub in_expr_at : Expr-F (List Mention) (List Mention) → List Mention
in_expr_at (Expr-F.Text t) = []
in_expr_at (Expr-F.Int n) = []
in_expr_at (Expr-F.Param p) = mention parameter p ∷ []
in_expr_at (Expr-F.New c args) = mention class c ∷ joined args
in_expr_at (Expr-F.Field of field) = of
in_expr_at (Expr-F.Sum a b) = a ++ b
in_expr_at (Expr-F.If cond first other) = cond ++ first ++ other
in_expr_at (Expr-F.Call f args) = joined args
in_expr_at (Expr-F.ByName f p) = mention parameter p ∷ []
in_expr_at (Expr-F.OrElse p other) = mention parameter p ∷ other

abbrev pub in_expr : Expr → List Mention
in_expr = fold-Expr (List Mention) (List Mention) in_cond_at in_expr_at

abbrev pub in_cond : Cond → List Mention
in_cond = fold-Cond (List Mention) (List Mention) in_cond_at in_expr_at

abbrev pub in_tree_at : Tree-F (List Mention) → List Mention
in_tree_at (Tree-F.Leaf e) = in_expr e
in_tree_at (Tree-F.Await p) = mention parameter p ∷ []
in_tree_at (Tree-F.If cond first other) = in_cond cond ++ first ++ other

abbrev pub in_tree : Tree → List Mention
in_tree = fold-Tree (List Mention) in_tree_at

abbrev pub of_each : Wanted → List Bytes → List Mention
of_each w ns = map (mention w) ns

abbrev pub of_some : Wanted → Option Bytes → List Mention
of_some w n = map (mention w) (option_to_list n)

-- the names that an item mentions, in the order of its line
unfoldable pub mentions : Item → List Mention
mentions (item.Class inject s n params interfaces) =
    of_some scope s ++ in_params params ++ of_each interface interfaces
mentions (item.Module install n includes) =
    of_some install_target install ++ of_each modules includes
mentions (item.TestModule install n replaces includes) =
    mention install_target install ∷ of_each modules replaces ++ of_each modules includes
mentions (item.Component scopes n parent ms) =
    of_each scope scopes ++ of_some component parent ++ of_each modules ms
mentions (item.DefineComponent scopes n parent) =
    of_each scope scopes ++ mention install_target parent ∷ []
mentions (item.EntryPoint install n) = mention install_target install ∷ []
mentions (item.Provides mark s n params result body) =
    of_some scope s ++ in_params params ++ in_use result ++ in_expr body
mentions (item.Binds mark s n param result) = of_some scope s ++ in_use param.shape ++ in_use result
mentions (item.Produces mark n params result body) =
    in_params params ++ in_use result ++ in_tree body
mentions (item.OptionalOf n result) = in_use result
mentions (item.Multibinds n result) = in_use result
mentions (item.BindsInstance n result) = in_use result
mentions (item.DependsOn n) = mention component_class n ∷ []
mentions (item.Entry n result) = in_use result
mentions (item.OpenLine n c parent args) =
    mention component_class c ∷ flat_map (λ a. in_expr a.value) args
mentions other = []

-- ---- what a mention may stand for

abbrev pub is_scope_item : Item → Bool
is_scope_item (item.ScopeLine n) = true
is_scope_item other = false

-- a qualifier, and whether it has a member
abbrev pub is_qualifier_item : Bool → Item → Bool
is_qualifier_item wants_member (item.QualifierLine n member) =
    if member then wants_member else not wants_member
is_qualifier_item wants_member other = false

abbrev pub is_interface_item : Item → Bool
is_interface_item (item.Interface n) = true
is_interface_item other = false

abbrev pub is_component_item : Item → Bool
is_component_item (item.Component scopes n parent ms) = true
is_component_item other = false

abbrev pub is_defined_component_item : Item → Bool
is_defined_component_item (item.DefineComponent scopes n parent) = true
is_defined_component_item other = false

-- the first declaration of a name is of this kind
abbrev pub is_declared_as : (Item → Bool) → Doc → Bytes → Bool
is_declared_as is_kind doc n = option_map_or (λ s. is_kind s.item) (declared doc n) false

-- a name stands for what is wanted: it is predefined as such, or its first declaration is of that
-- kind
abbrev pub is_known : Doc → List Param → Wanted → Bytes → Bool
is_known doc params scope n = is_among n scope_names || is_declared_as is_scope_item doc n
is_known doc params qualifier n = is_declared_as (is_qualifier_item false) doc n
is_known doc params qualifier_with_member n =
    is_among n qualifier_names || is_declared_as (is_qualifier_item true) doc n
is_known doc params type n =
    is_among n default_classes || is_declared_as (λ i. is_class i || is_interface_item i) doc n
is_known doc params interface n = is_declared_as is_interface_item doc n
is_known doc params class n = is_among n default_classes || is_declared_as is_class doc n
is_known doc params modules n = is_declared_as is_module doc n
is_known doc params component n = is_declared_as is_component_item doc n
is_known doc params install_target n =
    is_among n hilt_names || is_declared_as is_defined_component_item doc n
is_known doc params component_class n =
    is_among n hilt_names
    || is_declared_as (λ i. is_component_item i || is_defined_component_item i) doc n
is_known doc params parameter n = list_any (λ p. bytes_eq p.name n) params

-- a mention has no declaration of the kind that it wants
unfoldable pub unknown_name : Doc → Statement → List Violation
unknown_name doc s =
    map (λ m. at_line rule.UnknownName s m.name)
    (filter (λ m. not (is_known doc (params_of s.item) m.wanted m.name)) (mentions s.item))

-- the stage, by line and then by rule
unfoldable pub names_stage : Doc → List Violation
names_stage doc = flat_map (λ s. duplicate_name doc s ++ unknown_name doc s) (statements doc)
