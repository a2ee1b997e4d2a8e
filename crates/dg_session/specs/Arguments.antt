-- The names of the arguments of `open` lines.
use Rattle.std.specs.Prelude.{List, map}
use Rattle.dg_lex.specs.Bytes.{Bytes}
use Rattle.dg_decl.specs.declared.item.OpenArg.{OpenArg}

-- the names of arguments
abbrev pub names_of : List OpenArg → List Bytes
names_of args = map (λ a. a.name) args
