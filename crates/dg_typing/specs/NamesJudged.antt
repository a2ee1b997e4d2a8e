-- What mentions of names break.
use Rattle.std.specs.Prelude.{not, List, map, filter}
use Rattle.dg_decl.specs.declared.document.Doc.{Doc}
use Rattle.dg_decl.specs.declared.violation.Rule.TheVariants as rule
use Rattle.dg_decl.specs.declared.violation.Violation.{Violation}
use Rattle.dg_decl.specs.Document.{Statement}
use Rattle.dg_decl.specs.Names.{params_of}
use Rattle.dg_decl.specs.Stages.Components.{at_line}
use Rattle.dg_decl.specs.Stages.Names.{Mention, is_known}

-- those of a statement that have no declaration of the kind that they want
unfoldable pub judged : Doc → Statement → List Mention → List Violation
judged doc s ms =
    map (λ m. at_line rule.UnknownName s m.name)
    (filter (λ m. not (is_known doc (params_of s.item) m.wanted m.name)) ms)
