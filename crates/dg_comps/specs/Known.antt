-- What the tables of the stage know of a document.
use Rattle.std.specs.Prelude.{◌≡◌, map}
use Rattle.dg_decl.specs.declared.document.Doc.{Doc}
use Rattle.dg_decl.specs.Document.{statements}
use Rattle.dg_comps.specs.declared.stage_tables.StageTables.{StageTables}
use Rattle.dg_comps.specs.ClassTables.{KnowsCarriers}
use Rattle.dg_comps.specs.Entries.{is_repeated}
use Rattle.dg_comps.specs.Tables.{KnowsAncestors, KnowsCyclic}

pub record KnowsAll (doc : Doc) (tables : StageTables) : Type 0 where
  pub above : KnowsAncestors doc tables.above.items
  pub cyclic : KnowsCyclic doc tables.cyclic
  pub carriers : KnowsCarriers doc tables.carriers
  pub repeated : tables.repeated.items ≡ map (is_repeated doc) (statements doc)
