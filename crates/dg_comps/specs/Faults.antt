-- Why there is no component tree.
use Rattle.std.specs.Prelude.{◌≡◌, ◌≢◌, []}
use Rattle.dg_decl.specs.declared.document.Doc.{Doc}
use Rattle.dg_decl.specs.Stages.Components.{components_stage}
use Rattle.dg_comps.specs.declared.fault.TreeFault.{TreeFault}
use Rattle.dg_comps.specs.declared.fault.TreeFault.TheVariants as fault

-- a fault of this document: what is broken is the whole stage of components, and there is something
abbrev pub IsFaultOf : Doc → TreeFault → Type 0
IsFaultOf doc (fault.Broken broken) =
    (broken.items ≡ components_stage doc) × (components_stage doc ≢ [])
IsFaultOf doc fault.NoMemory = Unit {0}
