-- Why a document isn't read.
use Rattle.dg_lex.specs.Bytes.{Bytes}
use Rattle.dg_decl.specs.Reading.{FirstBad}
use Rattle.dg_reader.specs.declared.fault.ReadDocFault.{ReadDocFault}
use Rattle.dg_reader.specs.declared.fault.ReadDocFault.TheVariants as fault

-- a fault of these bytes: the line that it names is the first bad one
abbrev pub IsFaultOf : Bytes → ReadDocFault → Type 0
IsFaultOf bytes (fault.BadLine line) = FirstBad bytes line
IsFaultOf bytes fault.NoMemory = Unit {0}
