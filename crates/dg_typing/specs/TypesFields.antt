-- The fields of a class as the stage of types finds them.
use Rattle.std.specs.Prelude.{List, Option, Some, None}
use Rattle.dg_decl.specs.declared.item.Param.{Param}
use Rattle.dg_decl.specs.Names.{default_fields}
use Rattle.std.specs.Borrow.{Bor}

-- those that a document declares, or else those of a class whose objects Hilt binds by default
abbrev pub fields_in : Option (Bor (List Param)) → List Param
fields_in None = default_fields
fields_in (Some ps) = ps.now
