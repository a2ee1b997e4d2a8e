-- Why instances aren't linked.
use Rattle.std.specs.Prelude.{◌≡◌, ◌≢◌, []}
use Rattle.dg_decl.specs.declared.document.Doc.{Doc}
use Rattle.dg_decl.specs.Stages.Links.{links_stage}
use Rattle.dg_compdep.specs.declared.link_fault.LinkFault.{LinkFault}
use Rattle.dg_compdep.specs.declared.link_fault.LinkFault.TheVariants as fault

-- a fault of this document: what is broken is the whole stage of links, and there is something
abbrev pub IsLinkFaultOf : Doc → LinkFault → Type 0
IsLinkFaultOf doc (fault.Broken broken) =
    (broken.items ≡ links_stage doc) × (links_stage doc ≢ [])
IsLinkFaultOf doc fault.NoMemory = Unit {0}
