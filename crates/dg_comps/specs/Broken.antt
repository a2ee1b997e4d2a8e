-- What single names break.
use Rattle.std.specs.Prelude.{ℕ, not, List, map, filter}
use Rattle.dg_lex.specs.Bytes.{Bytes}
use Rattle.dg_decl.specs.declared.document.Doc.{Doc}
use Rattle.dg_decl.specs.declared.violation.Rule.TheVariants as rule
use Rattle.dg_decl.specs.declared.violation.Violation.{Violation}
use Rattle.dg_decl.specs.Document.{Statement}
use Rattle.dg_decl.specs.Stages.Components.{at_line, ancestor_carries, may_be_replaced}

-- the scopes of these that an ancestor of a class carries
abbrev pub carried : Doc → ℕ → Statement → List Bytes → List Violation
carried doc class s scopes =
    map (at_line rule.AncestorScope s) (filter (ancestor_carries doc class) scopes)

-- the names of these that aren't those of modules with `@InstallIn`
abbrev pub badly_replaced : Doc → Statement → List Bytes → List Violation
badly_replaced doc s ns =
    map (at_line rule.BadReplace s) (filter (λ n. not (may_be_replaced doc n)) ns)
