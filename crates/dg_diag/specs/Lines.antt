-- How a violation is written.
use Rattle.std.specs.Prelude.{ℕ, List, [], ◌∷◌, ◌++◌, Option, Some, None, codes}
use Rattle.dg_decl.specs.declared.violation.Rule.{Rule}
use Rattle.dg_decl.specs.declared.violation.Rule.TheVariants as rule
use Rattle.dg_decl.specs.declared.violation.Violation.{Violation}

-- a list of bytes
abbrev pub Bytes : Type 0
Bytes = List ℕ

-- The head of a rule. Those of five are Dagger's; two rules on scopes have one, and so have two on
-- instances.
abbrev pub head_of : Rule → Bytes
head_of rule.DuplicateName = codes "[Own/DuplicateName]"
head_of rule.UnknownName = codes "[Own/UnknownName]"
head_of rule.BadType = codes "[Own/BadType]"
head_of rule.OptionalOfInject = codes "[Own/OptionalOfInject]"
head_of rule.TypeMismatch = codes "[Own/TypeMismatch]"
head_of rule.ParentCycle = codes "[Own/ParentCycle]"
head_of rule.AncestorScope = codes "[Own/AncestorScope]"
head_of rule.DuplicateEntry = codes "[Own/DuplicateEntry]"
head_of rule.BadReplace = codes "[Own/BadReplace]"
head_of rule.BadDependsOn = codes "[Own/BadDependsOn]"
head_of rule.MissingBinding = codes "[Dagger/MissingBinding]"
head_of rule.DuplicateBindings = codes "[Dagger/DuplicateBindings]"
head_of rule.IncompatiblyScopedBindings = codes "[Dagger/IncompatiblyScopedBindings]"
head_of rule.IncompatiblyScopedMember = codes "[Dagger/IncompatiblyScopedBindings]"
head_of rule.MapKeys = codes "[Dagger/MapKeys]"
head_of rule.DependsOnProduction = codes "[Own/DependsOnProduction]"
head_of rule.OptionalProduction = codes "[Own/OptionalProduction]"
head_of rule.DependencyCycle = codes "[Dagger/DependencyCycle]"
head_of rule.CallCycle = codes "[Own/CallCycle]"
head_of rule.TooDeep = codes "[Own/TooDeep]"
head_of rule.TooHeavy = codes "[Own/TooHeavy]"
head_of rule.UnknownInstance = codes "[Own/UnknownInstance]"
head_of rule.WrongParent = codes "[Own/WrongParent]"
head_of rule.BadArgument = codes "[Own/BadArgument]"
head_of rule.UnknownEntry = codes "[Own/UnknownEntry]"
head_of rule.BadPath = codes "[Own/BadPath]"
head_of rule.UnknownLinked = codes "[Own/UnknownInstance]"
head_of rule.WrongDependency = codes "[Own/WrongDependency]"
head_of rule.MissingLink = codes "[Own/MissingLink]"

-- a detail behind `: `, where there is one
abbrev pub detail_text : Option Bytes → Bytes
detail_text None = []
detail_text (Some detail) = codes ": " ++ detail

-- the line of a violation: its head, a space, its site, its detail, and LF
unfoldable pub line_of : Violation → Bytes
line_of v = head_of v.rule ++ codes " " ++ v.site ++ detail_text v.detail ++ (10 ∷ [])
