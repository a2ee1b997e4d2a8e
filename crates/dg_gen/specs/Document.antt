-- The document that is generated for a number of asks, as a list of lines.
use Rattle.std.specs.Prelude.{◌≡◌, ℕ, ◌-◌, ◌%◌, List, [], ◌∷◌, ◌++◌, map, codes, decimal}
use Rattle.std.specs.List.{flat_map, range_with_len}

abbrev pub Bytes : Type 0
Bytes = List ℕ

-- ---- how many there are of what

-- the most asks of a document
abbrev pub ask_limit : ℕ
ask_limit = 20000

-- the number of the last integer that has a scope; the first has the number 0
abbrev pub last_scoped : ℕ
last_scoped = 63

-- how many instances of the component are opened
abbrev pub instance_count : ℕ
instance_count = 16

-- how many entry points the component has
abbrev pub entry_count : ℕ
entry_count = 3

-- ---- lines without their ends

-- a member of a block stands behind two spaces
abbrev pub member : Bytes → Bytes
member text = codes "  " ++ text

-- an integer with a scope, which adds 1 to the one before it
unfoldable pub scoped_line : ℕ → Bytes
scoped_line number = member (codes "@G provides s" ++ decimal number
    ++ codes "(a: @Named(\"" ++ decimal (number - 1)
    ++ codes "\") Int) : @Named(\"" ++ decimal number ++ codes "\") Int = a + 1")

-- producers: one of the last integer, one that fails, and one that awaits both
unfoldable pub producer_lines : List Bytes
producer_lines = member (codes "produces q0(a: @Named(\"" ++ decimal last_scoped
    ++ codes "\") Int) : @Named(\"q0\") Int = a + 1")
    ∷ member (codes "produces q1() : @Named(\"q1\") Int = fail(\"q\")")
    ∷ member (codes "produces q2(a: @Named(\"q0\") Int, b: @Named(\"q1\") Produced<Int>) : "
    ++ codes "@Named(\"q2\") Int = if ok(b) then a else a + 1")
    ∷ []

-- the module, which has all bindings
unfoldable pub module_lines : List Bytes
module_lines = codes "scope G"
    ∷ codes "module Gm {"
    ∷ member (codes "@G provides s0() : @Named(\"0\") Int = 1")
    ∷ map scoped_line (range_with_len 1 last_scoped) ++ producer_lines ++ codes "}" ∷ []

-- the component, whose entry points are the last integer with a scope and two productions
unfoldable pub component_lines : List Bytes
component_lines = codes "@G component Root modules Gm {"
    ∷ member (codes "entry e0 : @Named(\"" ++ decimal last_scoped ++ codes "\") Int")
    ∷ member (codes "entry e1 : @Named(\"q2\") Int")
    ∷ member (codes "entry e2 : @Named(\"q1\") Int")
    ∷ codes "}"
    ∷ []

unfoldable pub open_line : ℕ → Bytes
open_line instance = codes "open i" ++ decimal instance ++ codes " : Root"

-- the asks take the instances in turn, and the entry points in turn
unfoldable pub ask_line : ℕ → Bytes
ask_line ask = codes "ask i" ++ decimal ((ask - 1) % instance_count)
    ++ codes ".e" ++ decimal ((ask - 1) % entry_count)

-- the lines of the document with this many asks
abbrev pub lines : ℕ → List Bytes
lines asks = module_lines ++ component_lines
    ++ map open_line (range_with_len 0 instance_count)
    ++ map ask_line (range_with_len 1 asks)

-- ---- the document

-- the text of lines, each of which ends by LF
unfoldable pub text_of : List Bytes → Bytes
text_of = flat_map (λ line. line ++ 10 ∷ [])

-- the document with this many asks
abbrev pub document : ℕ → Bytes
document asks = text_of (lines asks)

-- the text after has these lines behind the text before
pub record Adds (before : Bytes) (added : List Bytes) (after : Bytes) : Type 0 where
  pub text : after ≡ before ++ text_of added
