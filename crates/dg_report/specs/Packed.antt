-- Places in a form that takes little room: a root, a code for each step, and the numbers that the
-- codes don't tell.
use Rattle.std.specs.Prelude.{ℕ, ◌+◌, ◌-◌, ◌==◌, Bool, nat_lt, if◌then◌else◌, List, [], ◌∷◌, ◌++◌, map}
use Rattle.std.specs.Cmp.{IsEquivalence, and_equiv, on_equiv}
use Rattle.std.specs.Cmp.Lexicographic.{nat_list_eq_equiv, bytes_decides}
use Rattle.std.specs.Hash as fed
use Rattle.std.specs.Hash.{Alike, HashWrites, and-Alike, on_Alike, same_Alike}
use Rattle.std.specs.List.{flat_map}
use Rattle.std.specs.Ordering.{on, eq_of_both}
use Rattle.std.specs.Str.{bytes_eq}
use Rattle.dg_value.specs.contracts.place.PlaceRootPartialEq.TheImpl as of_roots
use Rattle.dg_value.specs.contracts.place.PlaceRootEq.TheImpl.Laws as root_laws
use Rattle.dg_value.specs.contracts.place.PlaceRootHash.TheImpl as fed_roots
use Rattle.dg_value.specs.contracts.place.PlaceRootHash.TheImpl.Laws as fed_laws
use Rattle.dg_value.specs.declared.place.Place.{Place}
use Rattle.dg_value.specs.declared.place.PlaceRoot.{PlaceRoot}
use Rattle.dg_value.specs.declared.place.PlaceStep.{PlaceStep}
use Rattle.dg_value.specs.declared.place.PlaceStep.TheVariants as step

-- ---- codes

-- the number of a step
abbrev pub number : PlaceStep → ℕ
number (step.Arg n) = n
number (step.New n) = n
number (step.Call n) = n
number (step.Elem n) = n
number (step.Step n) = n
number step.Inside = 0

-- a code that tells the number, where this is less than 32, and else the other code
abbrev pub code : ℕ → ℕ → ℕ → ℕ
code first other n = if nat_lt n 32 then first + n else other

abbrev pub step_code : PlaceStep → ℕ
step_code (step.Arg n) = code 0 192 n
step_code (step.New n) = code 32 193 n
step_code (step.Call n) = code 64 194 n
step_code (step.Elem n) = code 96 195 n
step_code (step.Step n) = code 128 196 n
step_code step.Inside = 160

-- the number that the code of a step doesn't tell
abbrev pub untold : ℕ → List ℕ
untold n = if nat_lt n 32 then [] else n ∷ []

unfoldable pub codes_of : List PlaceStep → List ℕ
codes_of steps = map step_code steps

unfoldable pub numbers_of : List PlaceStep → List ℕ
numbers_of steps = flat_map (λ s. untold (number s)) steps

-- ---- from codes

-- the step of a code that doesn't tell its number
abbrev pub numbered : ℕ → ℕ → PlaceStep
numbered c n =
    if c == 192 then step.Arg n else if c == 193 then step.New n else if c == 194 then step.Call n
    else if c == 195 then step.Elem n else step.Step n

-- the step of a code that tells its number
abbrev pub told : ℕ → PlaceStep
told c =
    if nat_lt c 32 then step.Arg c else if nat_lt c 64 then step.New (c - 32)
    else if nat_lt c 96 then step.Call (c - 64) else if nat_lt c 128 then step.Elem (c - 96)
    else if nat_lt c 160 then step.Step (c - 128) else step.Inside

abbrev pub first : List ℕ → ℕ
first [] = 0
first (n ∷ ns) = n

abbrev pub rest : List ℕ → List ℕ
rest [] = []
rest (n ∷ ns) = ns

-- the step of a code, where these numbers are left, and which are left then
abbrev pub step_of : ℕ → List ℕ → PlaceStep
step_of c ns = if nat_lt c 192 then told c else numbered c (first ns)

abbrev pub left_of : ℕ → List ℕ → List ℕ
left_of c ns = if nat_lt c 192 then ns else rest ns

abbrev pub all_steps : List ℕ → List ℕ → List PlaceStep
all_steps [] ns = []
all_steps (c ∷ cs) ns = step_of c ns ∷ all_steps cs (left_of c ns)

-- the steps of some codes and numbers
unfoldable pub steps_of : List ℕ → List ℕ → List PlaceStep
steps_of codes numbers = all_steps codes numbers

-- ---- which are equal, and what a hasher is fed

abbrev pub root_in : Place → PlaceRoot
root_in p = p.root

abbrev pub codes_in : Place → List ℕ
codes_in p = codes_of p.steps

abbrev pub numbers_in : Place → List ℕ
numbers_in p = numbers_of p.steps

abbrev pub packed_eq : Place → Place → Bool
packed_eq =
    eq_of_both (on root_in of_roots.ghosts.eq)
    (eq_of_both (on codes_in bytes_eq) (on numbers_in bytes_eq))

pub packed_equiv : IsEquivalence packed_eq
packed_equiv =
    and_equiv (on_equiv root_in root_laws.laws-law)
    (and_equiv (on_equiv codes_in nat_list_eq_equiv) (on_equiv numbers_in nat_list_eq_equiv))

abbrev pub packed_fed : Place → HashWrites
packed_fed p =
    fed_roots.ghosts.hash_input (root_in p)
    ++ (fed.slice fed.u8 (codes_in p) ++ fed.slice fed.u32 (numbers_in p))

pub packed_alike : Alike packed_eq packed_fed
packed_alike =
    and-Alike (on_Alike root_in (record { fed = fed_laws.respects_eq-law }))
    (and-Alike (on_Alike codes_in (same_Alike (fed.slice fed.u8) bytes_decides))
    (on_Alike numbers_in (same_Alike (fed.slice fed.u32) bytes_decides)))
