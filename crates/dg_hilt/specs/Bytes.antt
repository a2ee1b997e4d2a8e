use Rattle.std.specs.Prelude.{ℕ, List}

-- a list of bytes
abbrev pub Bytes : Type 0
Bytes = List ℕ
