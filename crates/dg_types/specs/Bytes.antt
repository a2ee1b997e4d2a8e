use Rattle.std.specs.Prelude.{ℕ, List}

-- a list of bytes; what contracts see of a name and of a text
abbrev pub Bytes : Type 0
Bytes = List ℕ
