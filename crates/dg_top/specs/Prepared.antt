-- What the run of an accepted document is made from.
use Rattle.std.specs.Prelude.{◌≡◌}
use Rattle.dg_decl.specs.declared.document.Doc.{Doc}
use Rattle.dg_slots.specs.Links.{links_of}
use Rattle.dg_slots.specs.Plans.{plan_of}
use Rattle.dg_slots.specs.Sessions.{session_of}
use Rattle.dg_top.specs.declared.preparing.Prepared.{Prepared}

-- these are the plan, the session and the links of a document
pub record IsPrepared (doc : Doc) (p : Prepared) : Type 0 where
  pub plan : p.plan ≡ plan_of doc
  pub session : p.session ≡ session_of doc
  pub links : p.links.items ≡ links_of doc
