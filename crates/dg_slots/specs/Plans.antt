-- The plan of a document: what an accepted document evaluates, by number. Slot k is node k.
use Rattle.std.specs.Prelude.{ℕ, zero, suc, ◌==◌, Bool, true, false, not, List, [], ◌∷◌, length, map, Option, Some, None, is_some, option_map, option_and_then, unwrap_or}
use Rattle.std.specs.List.{filter_map, position, range_with_len}
use Rattle.std.specs.Option.{option_map_or}
use Rattle.dg_types.specs.declared.key.Key.{Key}
use Rattle.dg_types.specs.declared.key.Core.{Core}
use Rattle.dg_types.specs.declared.key.Core.TheVariants as core
use Rattle.dg_decl.specs.declared.document.Doc.{Doc}
use Rattle.dg_decl.specs.declared.binding.BindRef.{BindRef}
use Rattle.dg_decl.specs.declared.binding.BindRef.TheVariants as binding
use Rattle.dg_decl.specs.declared.binding.Owned.{Owned}
use Rattle.dg_decl.specs.declared.graph.Node.{Node}
use Rattle.dg_decl.specs.declared.graph.NodeKind.{NodeKind}
use Rattle.dg_decl.specs.declared.graph.NodeKind.TheVariants as node
use Rattle.dg_decl.specs.declared.item.Item.{Item}
use Rattle.dg_decl.specs.declared.item.Item.TheVariants as item
use Rattle.dg_decl.specs.declared.item.Mark.{Mark}
use Rattle.dg_decl.specs.declared.item.Mark.TheVariants as mark
use Rattle.dg_decl.specs.Names.{item_at}
use Rattle.dg_decl.specs.Components.{class_count, chain, entries_of}
use Rattle.dg_decl.specs.Lookup.{contributions}
use Rattle.dg_decl.specs.Graph.{Dependency, deps, target, nodes, node_of, number_of, node_text}
use Rattle.dg_decl.specs.Sizes.{scope_of, is_producer}
use Rattle.dg_decl.specs.Stages.Bindings.{map_keys_of}
use Rattle.dg_slots.specs.declared.body.NExpr.{NExpr}
use Rattle.dg_slots.specs.declared.body.NExpr.TheVariants as nexpr
use Rattle.dg_slots.specs.declared.body.NTree.TheVariants as ntree
use Rattle.dg_slots.specs.declared.plan.CellKind.{CellKind}
use Rattle.dg_slots.specs.declared.plan.CellKind.TheVariants as cell
use Rattle.dg_slots.specs.declared.plan.Body.{Body}
use Rattle.dg_slots.specs.declared.plan.Body.TheVariants as body
use Rattle.dg_slots.specs.declared.plan.Input.{Input}
use Rattle.dg_slots.specs.declared.plan.Slot.{Slot}
use Rattle.dg_slots.specs.declared.plan.Plan.{Plan}
use Rattle.dg_slots.specs.Numbered.{number_of_class_item, numbered_expr, numbered_tree}

-- ---- cells

-- a scoped binding and a `produces` line have a cell in each instance of their class
abbrev pub cell_of : Doc → Node → CellKind
cell_of doc n =
    option_map_or (λ scope. cell.Scoped)
    (scope_of doc n) (unscoped (is_producer doc n))
  where
    unscoped : Bool → CellKind
    unscoped true = cell.Producing
    unscoped false = cell.Plain

-- ---- inputs

-- how many parents up a class stands on the chain of another one
abbrev pub level_of : Doc → ℕ → ℕ → ℕ
level_of doc class above = unwrap_or (position (λ c. c == above) (chain doc class)) 0

-- the dependency of its class through which a node asks: that of an exposed entry
abbrev pub through : NodeKind → Option ℕ
through (node.Bound (binding.Exposed dep entry)) = Some dep
through other = None

-- what a slot takes for a dependency of its node
abbrev pub input_of : Doc → Node → Dependency → Option Input
input_of doc n d = option_and_then from (target d)
  where
    with_slot : Node → ℕ → Input
    with_slot t k = record {
      mode = d.mode;
      slot = k;
      level = level_of doc d.class t.class;
      dep = through n.kind;
    }

    from : Node → Option Input
    from t = option_map (with_slot t) (number_of (nodes doc) t)

-- in the order of the dependencies
abbrev pub inputs_of : Doc → Node → List Input
inputs_of doc n = filter_map (input_of doc n) (deps doc n)

-- ---- bodies

-- a body that gives the one parameter
abbrev pub one_param : Body
one_param = body.Run (ntree.Leaf (nexpr.Param 0))

-- an object of the class that the item of this index declares, from so many parameters
abbrev pub construction : Doc → ℕ → ℕ → Body
construction doc i count =
    body.Run
    (ntree.Leaf
    (nexpr.New (unwrap_or (number_of_class_item doc i) 0)
    (map nexpr.Param (range_with_len 0 count))))

abbrev pub body_of_item : Doc → ℕ → Item → Body
body_of_item doc i (item.Provides m scope n params result e) =
    body.Run (ntree.Leaf (numbered_expr doc params e))
body_of_item doc i (item.Produces m n params result t) = body.Run (numbered_tree doc params t)
body_of_item doc i (item.Class inject scope n params interfaces) =
    construction doc i (length params)
body_of_item doc i other = one_param

abbrev pub body_of_binding : Doc → BindRef → Body
body_of_binding doc (binding.Member i) = option_map_or (body_of_item doc i) (item_at doc i) one_param
body_of_binding doc (binding.ClassItem i) =
    option_map_or (body_of_item doc i) (item_at doc i) one_param
body_of_binding doc (binding.Arg a) = body.Arg a
body_of_binding doc binding.Default = body.Arg 0
body_of_binding doc (binding.Exposed dep entry) = one_param

abbrev pub is_elements_mark : Option Mark → Bool
is_elements_mark (Some mark.ElementsIntoSet) = true
is_elements_mark other = false

abbrev pub mark_of : Item → Option Mark
mark_of (item.Provides m scope n params result e) = m
mark_of (item.Binds m scope n param result) = m
mark_of (item.Produces m n params result t) = m
mark_of other = None

-- the members of what a contribution gives are elements of the set, and not what it gives itself
abbrev pub gives_elements : Doc → Owned → Bool
gives_elements doc o = of_ref o.binding
  where
    of_ref : BindRef → Bool
    of_ref (binding.Member i) =
        option_map_or (λ x. is_elements_mark (mark_of x)) (item_at doc i) false
    of_ref other = false

-- the body of a set or map
abbrev pub body_of_multi : Doc → ℕ → Key → Core → Body
body_of_multi doc class key (core.Map k b form) = body.Map (map_keys_of doc class key)
body_of_multi doc class key other =
    body.Set (map (gives_elements doc) (contributions doc class key))

abbrev pub is_empty : List Dependency → Bool
is_empty [] = true
is_empty (d ∷ ds) = false

abbrev pub body_of_node : Doc → Node → Body
body_of_node doc n = of_kind n.kind
  where
    of_kind : NodeKind → Body
    of_kind (node.Bound b) = body_of_binding doc b
    of_kind (node.Multi key) = body_of_multi doc n.class key key.core
    of_kind (node.Opt key) = body.Opt (not (is_empty (deps doc n)))
    of_kind (node.EntryOf i) = body.EntryOf

-- ---- the plan

abbrev pub slot_of : Doc → Node → Slot
slot_of doc n = record {
  class = n.class;
  name = node_text doc n;
  cell = cell_of doc n;
  inputs = inputs_of doc n;
  body = body_of_node doc n;
}

unfoldable pub slots_of : Doc → List Slot
slots_of doc = map (slot_of doc) (nodes doc)

-- the slots of the entries of a class, in order
abbrev pub entries_of_class : Doc → ℕ → List ℕ
entries_of_class doc class =
    filter_map (λ i. number_of (nodes doc) (node_of class (node.EntryOf i))) (entries_of doc class)

unfoldable pub entry_slots : Doc → List (List ℕ)
entry_slots doc = map (entries_of_class doc) (range_with_len 0 (class_count doc))

unfoldable pub plan_of : Doc → Plan
plan_of doc = record { slots = slots_of doc; entries = entry_slots doc }
