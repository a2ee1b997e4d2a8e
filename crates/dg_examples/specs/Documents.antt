-- Documents that are small enough to see what the definitions make of them. The text of each stands
-- at the law that speaks of it.
use Rattle.std.specs.Prelude.{ℕ, true, List, [], ◌∷◌, length, Option, Some, None, codes, pos}
use Rattle.std.specs.List.{range_with_len}
use Rattle.dg_lex.specs.Bytes.{Bytes}
use Rattle.dg_types.specs.declared.shape.Shape.{Shape}
use Rattle.dg_types.specs.declared.shape.Shape.TheVariants as shape
use Rattle.dg_types.specs.declared.shape.TypeUse.{TypeUse}
use Rattle.dg_decl.specs.declared.document.Doc.{Doc}
use Rattle.dg_decl.specs.declared.expression.CallName.TheVariants as call
use Rattle.dg_decl.specs.declared.expression.Cond.TheVariants as cond
use Rattle.dg_decl.specs.declared.expression.Expr.TheVariants as expr
use Rattle.dg_decl.specs.declared.expression.Tree.TheVariants as tree
use Rattle.dg_decl.specs.declared.item.AskStep.TheVariants as ask_step
use Rattle.dg_decl.specs.declared.item.Item.{Item}
use Rattle.dg_decl.specs.declared.item.Item.TheVariants as item
use Rattle.dg_decl.specs.declared.item.Mark.TheVariants as mark
use Rattle.dg_decl.specs.declared.item.Param.{Param}

-- ---- lines

-- these items on the lines 1, 2 and so on
abbrev pub doc_of : List Item → Doc
doc_of items = record { items = items; lines = range_with_len 1 (length items) }

-- a type without a qualifier
abbrev pub bare : Shape → TypeUse
bare s = record { qualifier = None; shape = s }

abbrev pub class_use : Bytes → TypeUse
class_use n = bare (shape.Named n)

abbrev pub parameter : Bytes → TypeUse → Param
parameter n t = record { name = n; shape = t }

-- `@Inject class N(..)`, with a scope or none
abbrev pub inject_line : Option Bytes → Bytes → List Param → Item
inject_line scope n params = item.Class true scope n params []

-- `@Inject class N() : Route`
abbrev pub route_line : Bytes → Item
route_line n = item.Class true None n [] (codes "Route" ∷ [])

-- `@IntoSet binds N(impl: C) : I`
abbrev pub element_line : Bytes → Bytes → Bytes → Item
element_line n class interface =
    item.Binds (Some mark.IntoSet) None n (parameter (codes "impl") (class_use class))
    (class_use interface)

-- `open N : C`
abbrev pub open_line : Bytes → Bytes → Item
open_line n class = item.OpenLine n class None []

-- `ask N.E`
abbrev pub ask_line : Bytes → Bytes → Item
ask_line n entry = item.AskLine n entry []

-- ---- documents

-- a class with this scope or none, and two asks for it
abbrev pool_with : Option Bytes → Doc
pool_with scope =
    doc_of (item.ScopeLine (codes "PerApp")
    ∷ inject_line scope (codes "Pool") []
    ∷ item.Component (codes "PerApp" ∷ []) (codes "App") None []
    ∷ item.Entry (codes "pool") (class_use (codes "Pool"))
    ∷ item.End
    ∷ open_line (codes "a") (codes "App")
    ∷ ask_line (codes "a") (codes "pool")
    ∷ ask_line (codes "a") (codes "pool")
    ∷ [])

unfoldable pub scoped_class : Doc
scoped_class = pool_with (Some (codes "PerApp"))

unfoldable pub unscoped_class : Doc
unscoped_class = pool_with None

-- a parent with two contributions, its child with a third, and two classes that ask for the set, of
-- which one has the scope of the parent
unfoldable pub parent_and_child : Doc
parent_and_child =
    doc_of (item.ScopeLine (codes "PerApp")
    ∷ item.Interface (codes "Route")
    ∷ route_line (codes "Home")
    ∷ route_line (codes "Cart")
    ∷ route_line (codes "Help")
    ∷ inject_line None (codes "Menu") (routes ∷ [])
    ∷ inject_line (Some (codes "PerApp")) (codes "Index") (routes ∷ [])
    ∷ item.Module None (codes "Base") []
    ∷ element_line (codes "home") (codes "Home") (codes "Route")
    ∷ element_line (codes "cart") (codes "Cart") (codes "Route")
    ∷ item.End
    ∷ item.Module None (codes "More") []
    ∷ element_line (codes "help") (codes "Help") (codes "Route")
    ∷ item.End
    ∷ item.Component (codes "PerApp" ∷ []) (codes "App") None (codes "Base" ∷ [])
    ∷ item.End
    ∷ item.Component [] (codes "Screen") (Some (codes "App")) (codes "More" ∷ [])
    ∷ item.Entry (codes "menu") (class_use (codes "Menu"))
    ∷ item.Entry (codes "index") (class_use (codes "Index"))
    ∷ item.End
    ∷ open_line (codes "app") (codes "App")
    ∷ item.OpenLine (codes "screen") (codes "Screen") (Some (codes "app")) []
    ∷ ask_line (codes "screen") (codes "menu")
    ∷ ask_line (codes "screen") (codes "index")
    ∷ [])
  where
    routes : Param
    routes = parameter (codes "routes") (bare (shape.Set (shape.Named (codes "Route"))))

-- a Provider and a Lazy of one class, each called twice
unfoldable pub provider_and_lazy : Doc
provider_and_lazy =
    doc_of (item.ScopeLine (codes "PerApp")
    ∷ inject_line None (codes "Tab") []
    ∷ inject_line (Some (codes "PerApp")) (codes "Bar")
    (parameter (codes "each") (bare (shape.Provider (shape.Named (codes "Tab"))))
    ∷ parameter (codes "one") (bare (shape.Lazy (shape.Named (codes "Tab")))) ∷ [])
    ∷ item.Component (codes "PerApp" ∷ []) (codes "App") None []
    ∷ item.Entry (codes "bar") (class_use (codes "Bar"))
    ∷ item.End
    ∷ open_line (codes "a") (codes "App")
    ∷ called (codes "each")
    ∷ called (codes "each")
    ∷ called (codes "one")
    ∷ called (codes "one")
    ∷ [])
  where
    called : Bytes → Item
    called field =
        item.AskLine (codes "a") (codes "bar") (ask_step.Field field ∷ ask_step.Get ∷ [])

-- an instance is tied to the second of two instances of the component on which its own depends
unfoldable pub exposed_entry : Doc
exposed_entry =
    doc_of (item.ScopeLine (codes "PerCore")
    ∷ inject_line (Some (codes "PerCore")) (codes "Log") []
    ∷ inject_line None (codes "Page") (parameter (codes "log") (class_use (codes "Log")) ∷ [])
    ∷ item.Component (codes "PerCore" ∷ []) (codes "Core") None []
    ∷ item.Entry (codes "log") (class_use (codes "Log"))
    ∷ item.End
    ∷ item.Component [] (codes "Feature") None []
    ∷ item.DependsOn (codes "Core")
    ∷ item.Entry (codes "page") (class_use (codes "Page"))
    ∷ item.End
    ∷ open_line (codes "first") (codes "Core")
    ∷ open_line (codes "second") (codes "Core")
    ∷ open_line (codes "feature") (codes "Feature")
    ∷ item.Link (codes "feature") (codes "second")
    ∷ ask_line (codes "feature") (codes "page")
    ∷ [])

-- a class with two parameters, whose evaluations both fail
unfoldable pub two_failures : Doc
two_failures =
    doc_of (item.ScopeLine (codes "PerApp")
    ∷ inject_line None (codes "Both") (parameter (codes "a") (bare shape.Text)
    ∷ parameter (codes "b") (bare shape.Int) ∷ [])
    ∷ item.Module None (codes "M") []
    ∷ failing (codes "a") shape.Text (codes "no a")
    ∷ failing (codes "b") shape.Int (codes "no b")
    ∷ item.End
    ∷ item.Component (codes "PerApp" ∷ []) (codes "App") None (codes "M" ∷ [])
    ∷ item.Entry (codes "both") (class_use (codes "Both"))
    ∷ item.End
    ∷ open_line (codes "x") (codes "App")
    ∷ ask_line (codes "x") (codes "both")
    ∷ [])
  where
    failing : Bytes → Shape → Bytes → Item
    failing n result message =
        item.Provides None (Some (codes "PerApp")) n [] (bare result)
        (expr.Call call.Fail (expr.Text message ∷ []))

-- `@Named("slow") T`
abbrev pub slow_use : Shape → TypeUse
slow_use t = record {
  qualifier = Some (record { name = codes "Named"; member = Some (codes "slow") });
  shape = t;
}

-- a producer that awaits another where this number is less than 2
abbrev pub awaits_where : ℕ → Doc
awaits_where n =
    doc_of (item.Module None (codes "M") []
    ∷ item.Produces None (codes "slow") [] (slow_use shape.Int) (tree.Leaf (expr.Int (pos 5)))
    ∷ item.Produces None (codes "pick") (parameter (codes "slow")
    (slow_use (shape.Producer shape.Int)) ∷ []) (bare shape.Int)
    (tree.If (cond.Less (expr.Int (pos n)) (expr.Int (pos 2))) (tree.Await (codes "slow"))
    (tree.Leaf (expr.Int (pos 0))))
    ∷ item.End
    ∷ item.Component [] (codes "App") None (codes "M" ∷ [])
    ∷ item.Entry (codes "pick") (bare shape.Int)
    ∷ item.End
    ∷ open_line (codes "a") (codes "App")
    ∷ ask_line (codes "a") (codes "pick")
    ∷ [])

unfoldable pub awaited : Doc
awaited = awaits_where 1

unfoldable pub unawaited : Doc
unawaited = awaits_where 3
