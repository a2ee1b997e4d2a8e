-- What the command of a run finds in words that are in a form of the table.
use Rattle.std.proofs.Common.{◌≡◌, ℕ, ◌<◌, ◌≤◌, ◌^◌, List, [], ◌∷◌, ◌++◌, length, get_or, slice_get, Option, Some, None, Result, Ok, Err, inl, inr, refl, ap, ◌∙◌, append-nil, arith}
use Rattle.std.specs.Prelude.{◌==◌, ◌⊎◌, codes, decimal, unwrap_or, option_map, option_and_then, find, true, false}
use Rattle.std.specs.List.{filter_map}
use Rattle.std.specs.Borrow.{Bor}
use Rattle.std.specs.Str.{bytes_eq}
use Rattle.std.specs.Str.Parse.{ParsesUnsigned}
use Rattle.std.proofs.lemmas.Bool.Decides.{eqb_tells}
use Rattle.std.proofs.lemmas.Fmt.{first_decimal, parse-decimal}
use Rattle.clap.specs.Words.{Row, Text, HasMatchesOf, ReadsOne, found_of, is_simple, matches_of, one_of, one_text, read_as, rows_of, takes}
use Rattle.clap.specs.Walk.{row_of, row_text, texts}
use Rattle.clap.specs.Facts.{Entry}
use Rattle.clap.specs.declared.parser.matches.ArgMatches.{ArgMatches}
use Rattle.clap.specs.declared.parser.matches.Found.{Found}
use Rattle.clap.specs.declared.parser.matches.MatchedArg.{MatchedArg}
use Rattle.clap.specs.declared.builder.value_parser.Reading.{Reading}
use Rattle.clap.proofs.OnLiterals.{clap_on_literals}
use Rattle.clap.proofs.WalkLemmas.{find-map}
use Rattle.dg_words.proofs.RunLemmas.{same_only, only_short}
use Rattle.dg_words.specs.declared.run.RunWords.{RunWords}
use Rattle.dg_words.specs.Reader.{run_command}
use Rattle.dg_words.specs.Words.{Bytes, Choice, Workers, Generate, IsNumber, Spells, BeginsWith, AreSpelled, nothing, first, workers_in, generate_in, IsOnly, IsRun, default_workers}

-- ---- the text that a getter reads, from the rows

first_text : (vals : List (Bor Text)) (how : Reading) → option_map (λ s. read_as how s.now) (slice_get vals 0) ≡ option_map (read_as how) (slice_get (texts vals) 0)
first_text [] how = refl
first_text (v ∷ vals) how = refl

text_of_entry : (found : Option Entry) → option_and_then (λ (a : MatchedArg). option_map (λ s. read_as a.reading s.now) (slice_get a.vals.items 0)) (option_map (λ (e : Entry). e.1) found) ≡ option_and_then row_text (option_map row_of found)
text_of_entry None = refl
text_of_entry (Some e) = first_text e.1.vals.items e.1.reading

one_text_is : (f : Found) (id : Text) → one_text f id ≡ one_of id (rows_of f)
one_text_is f id =
    text_of_entry (find (λ (e : Entry). bytes_eq e.0.now id) f.entries.items)
    ∙ ap (option_and_then row_text) (find-map (λ (r : Row). bytes_eq r.id id) row_of f.entries.items)

-- ---- what the command finds

-- the command takes the words, and these are the values of its options
pub record Gives (words : List Bytes) (workers generate : Option Bytes) : Type 0 where
  pub taken : takes run_command words ≡ true
  pub workers_text : one_of (codes "workers") (matches_of run_command words) ≡ workers
  pub generate_text : one_of (codes "generate") (matches_of run_command words) ≡ generate

-- two words or one, with this value
abbrev Form : Bytes → Bytes → List Bytes → Type 0
Form name value words = (words ≡ name ∷ value ∷ []) ⊎ (words ≡ (name ++ 61 ∷ value) ∷ [])

simple_command : is_simple run_command ≡ true
unfolding run_command clap_on_literals
simple_command = refl

gives_none : Gives [] None None
unfolding run_command clap_on_literals
gives_none = record { taken = refl; workers_text = refl; generate_text = refl }

workers_two : (x : ℕ) (d : Bytes) → (x == 45) ≡ false → Gives (codes "--workers" ∷ (x ∷ d) ∷ []) (Some (x ∷ d)) None
unfolding run_command clap_on_literals
workers_two x d e = record { taken = simp e; workers_text = simp e; generate_text = simp e }

workers_one : (d : Bytes) → Gives ((codes "--workers" ++ 61 ∷ d) ∷ []) (Some d) None
unfolding run_command clap_on_literals
workers_one d = record { taken = refl; workers_text = refl; generate_text = refl }

generate_two : (y : ℕ) (f : Bytes) → (y == 45) ≡ false → Gives (codes "--generate" ∷ (y ∷ f) ∷ []) None (Some (y ∷ f))
unfolding run_command clap_on_literals
generate_two y f g = record { taken = simp g; workers_text = simp g; generate_text = simp g }

generate_one : (f : Bytes) → Gives ((codes "--generate" ++ 61 ∷ f) ∷ []) None (Some f)
unfolding run_command clap_on_literals
generate_one f = record { taken = refl; workers_text = refl; generate_text = refl }

both_two_two : (x y : ℕ) (d f : Bytes) → (x == 45) ≡ false → (y == 45) ≡ false
    → Gives (codes "--workers" ∷ (x ∷ d) ∷ codes "--generate" ∷ (y ∷ f) ∷ []) (Some (x ∷ d)) (Some (y ∷ f))
unfolding run_command clap_on_literals
both_two_two x y d f e g = record { taken = simp (e, g); workers_text = simp (e, g); generate_text = simp (e, g) }

both_two_one : (x : ℕ) (d f : Bytes) → (x == 45) ≡ false
    → Gives (codes "--workers" ∷ (x ∷ d) ∷ (codes "--generate" ++ 61 ∷ f) ∷ []) (Some (x ∷ d)) (Some f)
unfolding run_command clap_on_literals
both_two_one x d f e = record { taken = simp e; workers_text = simp e; generate_text = simp e }

both_one_two : (y : ℕ) (d f : Bytes) → (y == 45) ≡ false
    → Gives ((codes "--workers" ++ 61 ∷ d) ∷ codes "--generate" ∷ (y ∷ f) ∷ []) (Some d) (Some (y ∷ f))
unfolding run_command clap_on_literals
both_one_two y d f g = record { taken = simp g; workers_text = simp g; generate_text = simp g }

both_one_one : (d f : Bytes) → Gives ((codes "--workers" ++ 61 ∷ d) ∷ (codes "--generate" ++ 61 ∷ f) ∷ []) (Some d) (Some f)
unfolding run_command clap_on_literals
both_one_one d f = record { taken = refl; workers_text = refl; generate_text = refl }

turned_two_two : (x y : ℕ) (d f : Bytes) → (x == 45) ≡ false → (y == 45) ≡ false
    → Gives (codes "--generate" ∷ (y ∷ f) ∷ codes "--workers" ∷ (x ∷ d) ∷ []) (Some (x ∷ d)) (Some (y ∷ f))
unfolding run_command clap_on_literals
turned_two_two x y d f e g = record { taken = simp (e, g); workers_text = simp (e, g); generate_text = simp (e, g) }

turned_two_one : (y : ℕ) (d f : Bytes) → (y == 45) ≡ false
    → Gives (codes "--generate" ∷ (y ∷ f) ∷ (codes "--workers" ++ 61 ∷ d) ∷ []) (Some d) (Some (y ∷ f))
unfolding run_command clap_on_literals
turned_two_one y d f g = record { taken = simp g; workers_text = simp g; generate_text = simp g }

turned_one_two : (x : ℕ) (d f : Bytes) → (x == 45) ≡ false
    → Gives ((codes "--generate" ++ 61 ∷ f) ∷ codes "--workers" ∷ (x ∷ d) ∷ []) (Some (x ∷ d)) (Some f)
unfolding run_command clap_on_literals
turned_one_two x d f e = record { taken = simp e; workers_text = simp e; generate_text = simp e }

turned_one_one : (d f : Bytes) → Gives ((codes "--generate" ++ 61 ∷ f) ∷ (codes "--workers" ++ 61 ∷ d) ∷ []) (Some d) (Some f)
unfolding run_command clap_on_literals
turned_one_one d f = record { taken = refl; workers_text = refl; generate_text = refl }

-- ---- the same, for values that are numbers

-- a value begins with a byte that isn't `-`
record IsValue (value : Bytes) : Type 0 where
  head : ℕ
  tail : Bytes
  whole : value ≡ head ∷ tail
  plain : (head == 45) ≡ false

not_minus : (x : ℕ) → 48 < x → (x == 45) ≡ false
not_minus x above = elim (eqb_tells x 45) [ inl same ↦ absurd (omega (arith, same.1)) | inr other ↦ other.0 ]

value_begins : (z : Bytes) → 48 < get_or z 0 0 → IsValue z
value_begins [] above = absurd (omega arith)
value_begins (x ∷ z) above = record { head = x; tail = z; whole = refl; plain = not_minus x above }

number_value : (limit n : ℕ) (value : Bytes) → limit < 2 ^ 32 → IsNumber limit value n → IsValue (decimal n)
number_value limit n value small is = value_begins (decimal n) (first_decimal n (omega (arith, is.positive)) (omega (arith, is.within)))

gives_workers : (v : Bytes) (words : List Bytes) → IsValue v → Form (codes "--workers") v words → Gives words (Some v) None
gives_workers v words is (inl two) = rw (two, is.whole) (workers_two is.head is.tail is.plain)
gives_workers v words is (inr one) = rw one (workers_one v)

gives_generate : (u : Bytes) (words : List Bytes) → IsValue u → Form (codes "--generate") u words → Gives words None (Some u)
gives_generate u words is (inl two) = rw (two, is.whole) (generate_two is.head is.tail is.plain)
gives_generate u words is (inr one) = rw one (generate_one u)

gives_both : (v u : Bytes) (a b : List Bytes) → IsValue v → IsValue u → Form (codes "--workers") v a → Form (codes "--generate") u b → Gives (a ++ b) (Some v) (Some u)
gives_both v u a b is also (inl p) (inl q) = rw (p, q, is.whole, also.whole) (both_two_two is.head also.head is.tail also.tail is.plain also.plain)
gives_both v u a b is also (inl p) (inr q) = rw (p, q, is.whole) (both_two_one is.head is.tail u is.plain)
gives_both v u a b is also (inr p) (inl q) = rw (p, q, also.whole) (both_one_two also.head v also.tail also.plain)
gives_both v u a b is also (inr p) (inr q) = rw (p, q) (both_one_one v u)

gives_turned : (v u : Bytes) (a b : List Bytes) → IsValue v → IsValue u → Form (codes "--workers") v a → Form (codes "--generate") u b → Gives (b ++ a) (Some v) (Some u)
gives_turned v u a b is also (inl p) (inl q) = rw (p, q, is.whole, also.whole) (turned_two_two is.head also.head is.tail also.tail is.plain also.plain)
gives_turned v u a b is also (inl p) (inr q) = rw (p, q, is.whole) (turned_one_two is.head is.tail u is.plain)
gives_turned v u a b is also (inr p) (inl q) = rw (p, q, also.whole) (turned_two_one also.head v also.tail also.plain)
gives_turned v u a b is also (inr p) (inr q) = rw (p, q) (turned_one_one v u)

-- ---- the words of a run

form_of : (name value name' value' : Bytes) (words : List Bytes) → name ≡ name' → value ≡ value' → (words ≡ name ∷ value ∷ []) ⊎ (words ≡ (name ++ 61 ∷ value) ∷ []) → Form name' value' words
form_of name value name' value' words p q form = rw (← p, ← q) form

workers_form : (n : ℕ) (words : List Bytes) → Spells (Workers n) words → Form (codes "--workers") (decimal n) words × IsValue (decimal n) × (n < 2 ^ 32)
workers_form n words (name, value, option, form) = (form_of name value (codes "--workers") (decimal n) words option.0 option.1.digits form, number_value _ n value (omega arith) option.1, omega (arith, option.1.within))

generate_form : (n : ℕ) (words : List Bytes) → Spells (Generate n) words → Form (codes "--generate") (decimal n) words × IsValue (decimal n) × (n < 2 ^ 32)
generate_form n words (name, value, option, form) = (form_of name value (codes "--generate") (decimal n) words option.0 option.1.digits form, number_value _ n value (omega arith) option.1, omega (arith, option.1.within))

no_words : (words : List Bytes) → AreSpelled [] words → words ≡ []
no_words words nothing = refl

some_words : (choice : Choice) (more : List Choice) (words : List Bytes) → AreSpelled (choice ∷ more) words → (rest : List Bytes) × BeginsWith words choice rest × AreSpelled more rest
some_words choice more words (first {rest} begins later) = (rest, begins, later)

-- the number, if there is one, fits 32 bits
abbrev pub IsSmall : Option ℕ → Type 0
IsSmall None = Unit {0}
IsSmall (Some n) = n < 2 ^ 32

-- what the command finds in the words of a run
pub record Finds (words : List Bytes) (workers generate : Option ℕ) : Type 0 where
  pub gives : Gives words (option_map decimal workers) (option_map decimal generate)
  pub small_workers : IsSmall workers
  pub small_generate : IsSmall generate

finds_one_workers : (n : ℕ) (words : List Bytes) → AreSpelled (Workers n ∷ []) words → Finds words (Some n) None
finds_one_workers n words spelled =
    let one = some_words (Workers n) [] words spelled in
    let whole : words ≡ one.1.front = one.1.whole ∙ ap (λ (r : List Bytes). one.1.front ++ r) (no_words one.0 one.2) ∙ append-nil one.1.front in
    let form = workers_form n one.1.front one.1.spelled in
    record { gives = rw whole (gives_workers (decimal n) one.1.front form.1 form.0); small_workers = form.2; small_generate = tt }

finds_one_generate : (n : ℕ) (words : List Bytes) → AreSpelled (Generate n ∷ []) words → Finds words None (Some n)
finds_one_generate n words spelled =
    let one = some_words (Generate n) [] words spelled in
    let whole : words ≡ one.1.front = one.1.whole ∙ ap (λ (r : List Bytes). one.1.front ++ r) (no_words one.0 one.2) ∙ append-nil one.1.front in
    let form = generate_form n one.1.front one.1.spelled in
    record { gives = rw whole (gives_generate (decimal n) one.1.front form.1 form.0); small_workers = tt; small_generate = form.2 }

-- the words of two options
two_fronts : (choice other : Choice) (words : List Bytes) → AreSpelled (choice ∷ other ∷ []) words → (a : List Bytes) × (b : List Bytes) × (words ≡ a ++ b) × Spells choice a × Spells other b
two_fronts choice other words spelled =
    let one = some_words choice (other ∷ []) words spelled in
    let two = some_words other [] one.0 one.2 in (
      one.1.front,
      two.1.front,
      one.1.whole ∙ ap (λ (r : List Bytes). one.1.front ++ r) (two.1.whole ∙ ap (λ (r : List Bytes). two.1.front ++ r) (no_words two.0 two.2) ∙ append-nil two.1.front),
      one.1.spelled,
      two.1.spelled,
    )

finds_both : (n m : ℕ) (words : List Bytes) → AreSpelled (Workers n ∷ Generate m ∷ []) words → Finds words (Some n) (Some m)
finds_both n m words spelled =
    let fronts = two_fronts (Workers n) (Generate m) words spelled in
    let form = workers_form n fronts.0 fronts.3 in
    let form' = generate_form m fronts.1 fronts.4 in
    record { gives = rw fronts.2 (gives_both (decimal n) (decimal m) fronts.0 fronts.1 form.1 form'.1 form.0 form'.0); small_workers = form.2; small_generate = form'.2 }

finds_turned : (n m : ℕ) (words : List Bytes) → AreSpelled (Generate m ∷ Workers n ∷ []) words → Finds words (Some n) (Some m)
finds_turned n m words spelled =
    let fronts = two_fronts (Generate m) (Workers n) words spelled in
    let form = workers_form n fronts.1 fronts.4 in
    let form' = generate_form m fronts.0 fronts.3 in
    record { gives = rw fronts.2 (gives_turned (decimal n) (decimal m) fronts.1 fronts.0 form.1 form'.1 form.0 form'.0); small_workers = form.2; small_generate = form'.2 }

two_are_too_many : (n m : ℕ) (more : List ℕ) (o : Option ℕ) → IsOnly (n ∷ m ∷ more) o → ⊥
two_are_too_many n m more o is = let short : length (n ∷ m ∷ more) ≤ 1 = only_short (n ∷ m ∷ more) o is in omega arith

finds_choices : (choices : List Choice) (words : List Bytes) (w g : Option ℕ) → AreSpelled choices words → IsOnly (filter_map workers_in choices) w → IsOnly (filter_map generate_in choices) g → Finds words w g
finds_choices [] words w g spelled p q =
    rw (same_only [] w None p refl, same_only [] g None q refl, no_words words spelled) record { gives = gives_none; small_workers = tt; small_generate = tt }
finds_choices (Workers n ∷ []) words w g spelled p q =
    rw (same_only (n ∷ []) w (Some n) p refl, same_only [] g None q refl) (finds_one_workers n words spelled)
finds_choices (Generate n ∷ []) words w g spelled p q =
    rw (same_only [] w None p refl, same_only (n ∷ []) g (Some n) q refl) (finds_one_generate n words spelled)
finds_choices (Workers n ∷ Generate m ∷ []) words w g spelled p q =
    rw (same_only (n ∷ []) w (Some n) p refl, same_only (m ∷ []) g (Some m) q refl) (finds_both n m words spelled)
finds_choices (Generate m ∷ Workers n ∷ []) words w g spelled p q =
    rw (same_only (n ∷ []) w (Some n) p refl, same_only (m ∷ []) g (Some m) q refl) (finds_turned n m words spelled)
finds_choices (Workers n ∷ Workers m ∷ more) words w g spelled p q = absurd (two_are_too_many n m (filter_map workers_in more) w p)
finds_choices (Generate n ∷ Generate m ∷ more) words w g spelled p q = absurd (two_are_too_many n m (filter_map generate_in more) g q)
finds_choices (Workers n ∷ Generate m ∷ Workers k ∷ more) words w g spelled p q = absurd (two_are_too_many n k (filter_map workers_in more) w p)
finds_choices (Workers n ∷ Generate m ∷ Generate k ∷ more) words w g spelled p q = absurd (two_are_too_many m k (filter_map generate_in more) g q)
finds_choices (Generate m ∷ Workers n ∷ Workers k ∷ more) words w g spelled p q = absurd (two_are_too_many n k (filter_map workers_in more) w p)
finds_choices (Generate m ∷ Workers n ∷ Generate k ∷ more) words w g spelled p q = absurd (two_are_too_many m k (filter_map generate_in more) g q)

pub finds_run : (words : List Bytes) (run : RunWords) (is : IsRun words run) → Finds words is.workers run.generate
finds_run words run is = finds_choices is.choices words is.workers run.generate is.spelled is.one_workers is.one_generate

-- ---- from the text to the number

same_ok : {E : Type 0} (r : Result ℕ E) (v n : ℕ) → r ≡ Ok v → r ≡ Ok n → v ≡ n
same_ok r v n p q = cc

reads_number : {E : Type 0} (G : Bytes → Result ℕ E → Type 0) (n : ℕ) (r : Option ℕ) → ((t : Bytes) (x : Result ℕ E) → G t x → ParsesUnsigned 32 10 t x) → n < 2 ^ 32 → ReadsOne G (decimal n) r → r ≡ Some n
reads_number G n None parses small (e, given) = absurd (let bad = parse-decimal 32 n (decimal n) (Err e) small (omega arith) refl (parses (decimal n) (Err e) given) in cc)
reads_number {E} G n (Some v) parses small given = ap Some (same_ok {E = E} (Ok v) v n refl (parse-decimal 32 n (decimal n) (Ok v) small (omega arith) refl (parses (decimal n) (Ok v) given)))

reads_option : {E : Type 0} (G : Bytes → Result ℕ E → Type 0) (o r : Option ℕ) (text : Option Bytes) → ((t : Bytes) (x : Result ℕ E) → G t x → ParsesUnsigned 32 10 t x) → IsSmall o → text ≡ option_map decimal o
    → (text ≡ None → r ≡ None) → ((t : Bytes) → text ≡ Some t → ReadsOne G t r) → r ≡ o
reads_option G None r text parses small is none some = none is
reads_option G (Some n) r text parses small is none some = reads_number G n r parses small (some (decimal n) is)

-- what the getters give
pub values_are : {E : Type 0} (G : Bytes → Result ℕ E → Type 0) → ((t : Bytes) (x : Result ℕ E) → G t x → ParsesUnsigned 32 10 t x)
    → (words : List Bytes) (m : ArgMatches) (w g : Option ℕ) (v : ℕ) → (run : RunWords) × IsRun words run → HasMatchesOf run_command words m
    → (one_text (found_of m) (codes "workers") ≡ None → w ≡ None) → ((t : Bytes) → one_text (found_of m) (codes "workers") ≡ Some t → ReadsOne G t w)
    → (one_text (found_of m) (codes "generate") ≡ None → g ≡ None) → ((t : Bytes) → one_text (found_of m) (codes "generate") ≡ Some t → ReadsOne G t g)
    → v ≡ unwrap_or w default_workers → IsRun words (record { workers = v; generate = g })
values_are G parses words m w g v run has none_w some_w none_g some_g default =
    let is = run.1 in
    let finds = finds_run words run.0 is in
    let rows = (has simple_command).0 in
    let text = λ (id : Bytes). one_text_is (found_of m) id ∙ ap (one_of id) rows in
    let workers = reads_option G is.workers w (one_text (found_of m) (codes "workers")) parses finds.small_workers (text (codes "workers") ∙ finds.gives.workers_text) none_w some_w in
    let generate = reads_option G run.0.generate g (one_text (found_of m) (codes "generate")) parses finds.small_generate (text (codes "generate") ∙ finds.gives.generate_text) none_g some_g in
    record {
      choices = is.choices;
      workers = is.workers;
      spelled = is.spelled;
      one_workers = is.one_workers;
      one_generate = rw generate is.one_generate;
      or_default = default ∙ ap (λ (o : Option ℕ). unwrap_or o default_workers) workers;
    }
