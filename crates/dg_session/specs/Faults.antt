-- Why there is no session.
use Rattle.std.specs.Prelude.{◌≡◌, ◌≢◌, []}
use Rattle.dg_decl.specs.declared.document.Doc.{Doc}
use Rattle.dg_decl.specs.Stages.Session.{session_stage}
use Rattle.dg_session.specs.declared.fault.SessionFault.{SessionFault}
use Rattle.dg_session.specs.declared.fault.SessionFault.TheVariants as fault

-- a fault of this document: what is broken is the whole stage of the session, and there is
-- something
abbrev pub IsFaultOf : Doc → SessionFault → Type 0
IsFaultOf doc (fault.Broken broken) =
    (broken.items ≡ session_stage doc) × (session_stage doc ≢ [])
IsFaultOf doc fault.NoMemory = Unit {0}
