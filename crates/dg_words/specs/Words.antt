-- The forms of words that the programs read. A word is a list of bytes; the program's name isn't
-- one of them.
use Rattle.std.specs.Prelude.{◌≡◌, ℕ, ◌≤◌, ◌⊎◌, List, [], ◌∷◌, ◌++◌, Contains}
use Rattle.std.specs.Prelude.{Option, Some, None, unwrap_or, codes, decimal}
use Rattle.std.specs.List.{filter_map}
use Rattle.dg_words.specs.declared.flag.Flag.{Flag}
use Rattle.dg_words.specs.declared.flag.Flag.TheVariants as flag
use Rattle.dg_words.specs.declared.run.RunWords.{RunWords}
use Rattle.dg_words.specs.declared.check.CheckWords.{CheckWords}
use Rattle.dg_words.specs.declared.check.CheckWords.TheVariants.{Check, Plan, Print}

abbrev pub Bytes : Type 0
Bytes = List ℕ

-- ---- numbers

-- the most workers
abbrev pub worker_limit : ℕ
worker_limit = 64

-- the most asks of a generated document
abbrev pub ask_limit : ℕ
ask_limit = 20000

-- how many workers there are where no word says so
abbrev pub default_workers : ℕ
default_workers = 4

-- a word is a number from 1 to the limit: in decimal, without sign and without zeros in front
pub record IsNumber (limit : ℕ) (word : Bytes) (n : ℕ) : Type 0 where
  pub digits : word ≡ decimal n
  pub positive : 1 ≤ n
  pub within : n ≤ limit

-- ---- the words of a run

-- an option with its value
pub data Choice : Type 0 where
  Workers : ℕ → Choice
  Generate : ℕ → Choice

-- which option it is
abbrev pub flag_of : Choice → Flag
flag_of (Workers n) = flag.Workers
flag_of (Generate n) = flag.Generate

-- each option with its name and the values that it takes
abbrev pub IsOption : Choice → Bytes → Bytes → Type 0
IsOption (Workers n) name value = (name ≡ codes "--workers") × IsNumber worker_limit value n
IsOption (Generate n) name value = (name ≡ codes "--generate") × IsNumber ask_limit value n

-- an option and its value are two words, or one with `=` between
abbrev pub Spells : Choice → List Bytes → Type 0
Spells choice words = (name : Bytes) × (value : Bytes) × IsOption choice name value
    × ((words ≡ name ∷ value ∷ []) ⊎ (words ≡ (name ++ 61 ∷ value) ∷ []))

-- the words begin with this option, and the rest stands behind it
pub record BeginsWith (words : List Bytes) (choice : Choice) (rest : List Bytes) : Type 0 where
  pub front : List Bytes
  pub spelled : Spells choice front
  pub whole : words ≡ front ++ rest

-- the words are those of these options, one behind the other
pub data AreSpelled : List Choice → List Bytes → Type 0 where
  nothing : AreSpelled [] []
  first : {choice : Choice} {more : List Choice} {words rest : List Bytes}
      → BeginsWith words choice rest → AreSpelled more rest → AreSpelled (choice ∷ more) words

-- the number of workers, where that is the option
abbrev pub workers_in : Choice → Option ℕ
workers_in (Workers n) = Some n
workers_in choice = None

-- the number of asks to generate, where that is the option
abbrev pub generate_in : Choice → Option ℕ
generate_in (Generate n) = Some n
generate_in choice = None

-- the list has the one value, or nothing
abbrev pub IsOnly : List ℕ → Option ℕ → Type 0
IsOnly values None = values ≡ []
IsOnly values (Some n) = values ≡ n ∷ []

-- the words of a run: options in any order, each at most once
pub record IsRun (words : List Bytes) (run : RunWords) : Type 0 where
  pub choices : List Choice
  pub workers : Option ℕ
  pub spelled : AreSpelled choices words
  pub one_workers : IsOnly (filter_map workers_in choices) workers
  pub one_generate : IsOnly (filter_map generate_in choices) run.generate
  pub or_default : run.workers ≡ unwrap_or workers default_workers

-- ---- the words of a check

-- each word with what it asks for
abbrev pub check_table : List (Bytes × CheckWords)
check_table = (codes "check", Check) ∷ (codes "plan", Plan) ∷ (codes "print", Print) ∷ []

-- the words of a check: one of the table
abbrev pub IsCheck : List Bytes → CheckWords → Type 0
IsCheck words check = (word : Bytes) × Contains check_table (word, check) × (words ≡ word ∷ [])
