-- The rule of a deque: what was pushed to it is what its passes took, in one order, and then what
-- it holds.
use Rattle.std.specs.Prelude.{◌≡◌, ◌≢◌, ℕ, ◌+◌, ◌≤◌, List, [], ◌++◌, length, map, filter, nat_eq}
use Rattle.std.specs.Prelude.{count_by, slice_set}
use mathlib.Core.Option.{some}
use lib.ListN.{get_elem?}
use Rattle.dg_steal.specs.declared.tally.Tally.{Tally}

abbrev pub tally : ℕ → ℕ → List ℕ → List ℕ → Tally
tally number passes pushed taken =
    record { number = number; passes = passes; pushed = pushed; taken = taken }

-- the owner's pass of a deque to which nothing was pushed, where there are so many passes
abbrev pub owner : ℕ → Tally
owner passes = tally 0 passes [] []

-- the pass of another worker that took nothing
abbrev pub other : ℕ → Tally
other number = tally number 0 [] []

-- the pass after it pushed these asks
abbrev pub pushing : List ℕ → Tally → Tally
pushing asks t = tally t.number t.passes (t.pushed ++ asks) t.taken

-- the pass after it took these asks
abbrev pub taking : List ℕ → Tally → Tally
taking asks t = tally t.number t.passes t.pushed (t.taken ++ asks)

-- the owner's pass after it made another pass
abbrev pub opening : Tally → Tally
opening t = tally t.number (t.passes + 1) t.pushed t.taken

-- an ask that was taken, with the number of the pass that took it
abbrev pub Taking : Type 0
Taking = ℕ × ℕ

-- the asks that were taken
abbrev pub asks_of : List Taking → List ℕ
asks_of takings = map (λ t. t.1) takings

-- the asks that a pass took
abbrev pub taken_by : ℕ → List Taking → List ℕ
taken_by pass takings = asks_of (filter (λ t. nat_eq t.0 pass) takings)

-- how often an ask stands in a list
abbrev pub times : ℕ → List ℕ → ℕ
times ask asks = count_by (λ x. nat_eq x ask) asks

-- a pass knows its number and what it took. The owner's is the first, and knows what was pushed and
-- how many passes there are. The others push nothing
abbrev pub Fits : List ℕ → List Taking → ℕ → ℕ → Tally → Type 0
Fits pushed takings passes pass t =
    (t.number ≡ pass) × (t.taken ≡ taken_by pass takings)
    × (pass ≡ 0 → (t.pushed ≡ pushed) × (t.passes ≡ passes))
    × (pass ≢ 0 → t.pushed ≡ [])

-- what was pushed is what was taken, in the order of the takings, and then what the deque holds.
-- Each taking is by one of the passes, and each pass knows its own
abbrev pub Keeps : List ℕ → List Tally → Type 0
Keeps items tallies =
    (pushed : List ℕ) × (takings : List Taking)
    × (pushed ≡ asks_of takings ++ items)
    × ((pass : ℕ) (t : Tally) → get_elem? tallies pass ≡ some t
    → Fits pushed takings (length tallies) pass t)
    × ((pass : ℕ) → length tallies ≤ pass → taken_by pass takings ≡ [])

-- a step of a pass: the deque held the asks `before` and then the asks `after`, by its rule. The
-- pass that knew t knows u from then on, and no other pass knows more
abbrev pub Steps : List ℕ → List ℕ → Tally → Tally → Type 0
Steps before after t u =
    (tallies : List Tally) × (get_elem? tallies t.number ≡ some t)
    × Keeps before tallies × Keeps after (slice_set tallies t.number u)

-- in a step of the pass these asks came to the deque, at its back
unfoldable pub Adds : List ℕ → Tally → Tally → Type 0
Adds asks t u = (items : List ℕ) × Steps items (items ++ asks) t u

-- in a step of the pass these asks left the deque, of which they were the first
unfoldable pub Removes : List ℕ → Tally → Tally → Type 0
Removes asks t u = (items : List ℕ) × Steps (asks ++ items) items t u

-- the pass pushed these asks, and knows it
abbrev pub Pushed : List ℕ → Tally → Tally → Type 0
Pushed asks t u = (u ≡ pushing asks t) × Adds asks t u

-- the pass took these asks, and knows it
abbrev pub Took : List ℕ → Tally → Tally → Type 0
Took asks t u = (u ≡ taking asks t) × Removes asks t u

-- at one moment the deque of the pass held nothing, by its rule, and the pass knew this
unfoldable pub WasEmpty : Tally → Type 0
WasEmpty t = (tallies : List Tally) × (get_elem? tallies t.number ≡ some t) × Keeps [] tallies
