-- Which options words are, option by option.
use Rattle.std.proofs.Common.{◌≡◌, ℕ, ◌<◌, ◌≤◌, ◌+◌, ◌^◌, List, Bool, [], ◌∷◌, ◌++◌, length, get_or, Option, Some, None, inl, inr, refl, sym, ap, ap₂, subst, ◌∙◌, arith, length-append, append_assoc, append-nil, add-one, lit<}
use Rattle.std.specs.Prelude.{codes, unwrap_or, is_some, true, false}
use Rattle.std.proofs.lemmas.Bool.{false≢true}
use Rattle.std.specs.List.{filter_map}
use Rattle.std.proofs.lemmas.List.Elements.{filter_map-append}
use Rattle.std.proofs.lemmas.Fmt.{decimal_injective}
use Rattle.dg_words.specs.declared.flag.Flag.{Flag}
use Rattle.dg_words.specs.declared.flag.Flag.TheVariants as flag
use Rattle.dg_words.specs.declared.run.RunWords.{RunWords}
use Rattle.dg_words.specs.Words.{Bytes, Choice, Workers, Generate, flag_of, IsNumber, IsOption, BeginsWith, AreSpelled, nothing, first, workers_in, generate_in, IsOnly, IsRun, default_workers}
use Rattle.dg_words.proofs.ChoiceLemmas.{HasNone, none_in_name, one_in, none_at_end}

-- ---- words begin with one option at most

same_number : (limit n m : ℕ) (word : Bytes) → limit < 2 ^ 32 → IsNumber limit word n → IsNumber limit word m → n ≡ m
same_number limit n m word small p q = decimal_injective n m (omega (arith, p.within)) (omega (arith, q.within)) (sym p.digits ∙ q.digits)

other_name : codes "--workers" ≡ codes "--generate" → ⊥
other_name same = apart 119 103 (lit< tt) (ap (λ (z : Bytes). get_or z 2 0) same)
  where
    apart : (a b : ℕ) → b < a → a ≡ b → ⊥
    apart a b less is = omega arith

same_option : (one other : Choice) (name value : Bytes) → IsOption one name value → IsOption other name value → one ≡ other
same_option (Workers n) (Workers m) name value p q = ap Workers (same_number _ n m value (omega arith) p.1 q.1)
same_option (Workers n) (Generate m) name value p q = absurd (other_name (sym p.0 ∙ q.0))
same_option (Generate n) (Workers m) name value p q = absurd (other_name (sym q.0 ∙ p.0))
same_option (Generate n) (Generate m) name value p q = ap Generate (same_number _ n m value (omega arith) p.1 q.1)

rest_has_none : (x : ℕ) (z : Bytes) → HasNone (x ∷ z) → HasNone z
rest_has_none x z none i within is = none (i + 1) (omega arith) (rw add-one is)

same_parts : (a b c d : Bytes) → HasNone a → HasNone c → a ++ 61 ∷ b ≡ c ++ 61 ∷ d → (a ≡ c) × (b ≡ d)
same_parts [] b [] d none_a none_c same = (refl, cc)
same_parts [] b (y ∷ c) d none_a none_c same = let head : 61 ≡ y = cc in absurd (none_c 0 (omega arith) (sym head))
same_parts (x ∷ a) b [] d none_a none_c same = let head : x ≡ 61 = cc in absurd (none_a 0 (omega arith) head)
same_parts (x ∷ a) b (y ∷ c) d none_a none_c same =
    let head : x ≡ y = cc in
    let tail : a ++ 61 ∷ b ≡ c ++ 61 ∷ d = cc in
    let parts = same_parts a b c d (rest_has_none x a none_a) (rest_has_none y c none_c) tail in
    (rw (head, parts.0) refl, parts.1)

pub same_beginning : (words : List Bytes) (one other : Choice) (rest after : List Bytes) → BeginsWith words one rest → BeginsWith words other after → (one ≡ other) × (rest ≡ after)
same_beginning words one other rest after p q =
    let all : p.front ++ rest ≡ q.front ++ after = sym p.whole ∙ q.whole in
    let name = p.spelled.0 in
    let value = p.spelled.1 in
    let option = p.spelled.2 in
    let name' = q.spelled.0 in
    let value' = q.spelled.1 in
    let option' = q.spelled.2 in
    let plain = none_in_name one name value option in
    let plain' = none_in_name other name' value' option' in
    let from = λ (f : List Bytes). λ (e : p.front ≡ f). λ (g : List Bytes). λ (h : q.front ≡ g). ap (λ (z : List Bytes). z ++ rest) (sym e) ∙ all ∙ ap (λ (z : List Bytes). z ++ after) h in
    elim p.spelled.3 [
      | inl two ↦ elim q.spelled.3 [
        | inl two' ↦
            (let lists : name ∷ value ∷ rest ≡ name' ∷ value' ∷ after = from _ two _ two' in
            let same_name : name ≡ name' = cc in
            let same_value : value ≡ value' = cc in
            (same_option one other name value option (rw (same_name, same_value) option'), cc))
        | inr one' ↦
            (let lists : name ∷ value ∷ rest ≡ (name' ++ 61 ∷ value') ∷ after = from _ two _ one' in
            let same_name : name ≡ name' ++ 61 ∷ value' = cc in
            absurd (one_in name name' value' same_name plain))
      ]
      | inr one_word ↦ elim q.spelled.3 [
        | inl two' ↦
            (let lists : (name ++ 61 ∷ value) ∷ rest ≡ name' ∷ value' ∷ after = from _ one_word _ two' in
            let same_name : name' ≡ name ++ 61 ∷ value = cc in
            absurd (one_in name' name value same_name plain'))
        | inr one' ↦
            (let lists : (name ++ 61 ∷ value) ∷ rest ≡ (name' ++ 61 ∷ value') ∷ after = from _ one_word _ one' in
            let same_word : name ++ 61 ∷ value ≡ name' ++ 61 ∷ value' = cc in
            let parts = same_parts name value name' value' plain plain' same_word in
            (same_option one other name value option (rw (parts.0, parts.1) option'), cc))
      ]
    ]

-- an option has words
pub fewer : (words : List Bytes) (choice : Choice) (rest : List Bytes) → BeginsWith words choice rest → length rest < length words
fewer words choice rest begins =
    let all = ap length begins.whole ∙ length-append begins.front rest in
    elim begins.spelled.3 [
      | inl two ↦ (let front : length begins.front ≡ 2 = ap length two in omega arith)
      | inr one ↦ (let front : length begins.front ≡ 1 = ap length one in omega arith)
    ]

-- ---- words are those of one list of options at most

spelled_first : (more : List Choice) (left : List Bytes) (choice : Choice) (rest : List Bytes) → AreSpelled more left → BeginsWith left choice rest
    → (after : List Choice) × (more ≡ choice ∷ after) × AreSpelled after rest
spelled_first more left choice rest nothing begins = absurd (none_at_end [] refl choice rest begins)
spelled_first more left choice rest (first {choice = other} {more = after} {rest = behind} is later) begins =
    let same = same_beginning left other choice behind rest is begins in
    (after, ap (λ (c : Choice). c ∷ after) same.0, subst (AreSpelled after) same.1 later)

same_choices : (one other : List Choice) (words : List Bytes) → AreSpelled one words → AreSpelled other words → one ≡ other
same_choices one other words nothing nothing = refl
same_choices one other words nothing (first {choice} {rest} begins later) = absurd (none_at_end [] refl choice rest begins)
same_choices one other words (first {choice} {more} {rest} begins later) spelled =
    let head = spelled_first other words choice rest spelled begins in
    let tail = same_choices more head.0 rest later head.2 in
    ap (λ (cs : List Choice). choice ∷ cs) tail ∙ sym head.1

pub same_only : (values : List ℕ) (one other : Option ℕ) → IsOnly values one → IsOnly values other → one ≡ other
same_only values None None p q = refl
same_only values None (Some m) p q = let bad : [] ≡ m ∷ [] = sym p ∙ q in cc
same_only values (Some n) None p q = let bad : [] ≡ n ∷ [] = sym q ∙ p in cc
same_only values (Some n) (Some m) p q = let both : n ∷ [] ≡ m ∷ [] = sym p ∙ q in let same : n ≡ m = cc in ap Some same

same_run : (one other : RunWords) → one.workers ≡ other.workers → one.generate ≡ other.generate → one ≡ other
same_run one other p q = ap₂ (λ (w : ℕ) (g : Option ℕ). let run : RunWords = record { workers = w; generate = g } in run) p q

pub one_run : (words : List Bytes) (one other : RunWords) → IsRun words one → IsRun words other → one ≡ other
one_run words one other p q =
    let same = same_choices p.choices q.choices words p.spelled q.spelled in
    let workers = same_only (filter_map workers_in p.choices) p.workers q.workers p.one_workers (rw same q.one_workers) in
    let generate = same_only (filter_map generate_in p.choices) one.generate other.generate p.one_generate (rw same q.one_generate) in
    same_run one other (p.or_default ∙ ap (λ (w : Option ℕ). unwrap_or w default_workers) workers ∙ sym q.or_default) generate

-- ---- the loop over the words

-- the words that are left stand behind those of some options, in which these values are
pub record Reading (words left : List Bytes) (workers generate : Option ℕ) : Type 0 where
  pub done : List Choice
  pub one_workers : IsOnly (filter_map workers_in done) workers
  pub one_generate : IsOnly (filter_map generate_in done) generate
  pub forward : (more : List Choice) → AreSpelled more left → AreSpelled (done ++ more) words
  pub back : (all : List Choice) → AreSpelled all words → (more : List Choice) × (all ≡ done ++ more) × AreSpelled more left

pub reading_begins : (words : List Bytes) → Reading words words None None
reading_begins words = record {
  done = [];
  one_workers = refl;
  one_generate = refl;
  forward = λ more is. is;
  back = λ all is. (all, refl, is);
}

next_reading : (words left : List Bytes) (workers generate workers' generate' : Option ℕ) (choice : Choice) (rest : List Bytes) → (reading : Reading words left workers generate) → BeginsWith left choice rest
    → IsOnly (filter_map workers_in (reading.done ++ choice ∷ [])) workers' → IsOnly (filter_map generate_in (reading.done ++ choice ∷ [])) generate'
    → Reading words rest workers' generate'
next_reading words left workers generate workers' generate' choice rest reading begins one_workers one_generate = record {
  done = reading.done ++ choice ∷ [];
  one_workers = one_workers;
  one_generate = one_generate;
  forward = λ more is. rw append_assoc (reading.forward (choice ∷ more) (first begins is));
  back = λ all is.
      let before = reading.back all is in
      let head = spelled_first before.0 left choice rest before.2 begins in
      (head.0, before.1 ∙ ap (λ (cs : List Choice). reading.done ++ cs) head.1 ∙ sym (append_assoc reading.done (choice ∷ []) head.0), head.2);
}

pub with_workers : (words left rest : List Bytes) (workers generate : Option ℕ) (n : ℕ) → is_some workers ≡ false → Reading words left workers generate → BeginsWith left (Workers n) rest
    → Reading words rest (Some n) generate
with_workers words left rest (Some m) generate n is reading begins = absurd (false≢true (sym is))
with_workers words left rest None generate n is reading begins =
    next_reading words left None generate (Some n) generate (Workers n) rest reading begins
    (filter_map-append workers_in reading.done (Workers n ∷ []) ∙ ap (λ (z : List ℕ). z ++ n ∷ []) reading.one_workers)
    (rw (filter_map-append generate_in reading.done (Workers n ∷ []), append-nil) reading.one_generate)

pub with_generate : (words left rest : List Bytes) (workers generate : Option ℕ) (n : ℕ) → is_some generate ≡ false → Reading words left workers generate → BeginsWith left (Generate n) rest
    → Reading words rest workers (Some n)
with_generate words left rest workers (Some m) n is reading begins = absurd (false≢true (sym is))
with_generate words left rest workers None n is reading begins =
    next_reading words left workers None workers (Some n) (Generate n) rest reading begins
    (rw (filter_map-append workers_in reading.done (Generate n ∷ []), append-nil) reading.one_workers)
    (filter_map-append generate_in reading.done (Generate n ∷ []) ∙ ap (λ (z : List ℕ). z ++ n ∷ []) reading.one_generate)

-- the words are all read
pub run_read : (words left : List Bytes) (workers generate : Option ℕ) (run : RunWords) → left ≡ [] → Reading words left workers generate
    → run.workers ≡ unwrap_or workers default_workers → run.generate ≡ generate → IsRun words run
run_read words left workers generate run at reading is_workers is_generate = record {
  choices = reading.done ++ [];
  workers = workers;
  spelled = reading.forward [] (subst (AreSpelled []) (sym at) nothing);
  one_workers = rw append-nil reading.one_workers;
  one_generate = rw (append-nil, is_generate) reading.one_generate;
  or_default = is_workers;
}

-- no option stands there
pub no_option : (words left : List Bytes) (workers generate : Option ℕ) → Reading words left workers generate → 0 < length left
    → ((choice : Choice) (rest : List Bytes) → BeginsWith left choice rest → ⊥) → (run : RunWords) → IsRun words run → ⊥
no_option words left workers generate reading some refused run is =
    let before = reading.back is.choices is.spelled in
    at_first before.0 left before.2 some refused
  where
    at_first : (more : List Choice) (left : List Bytes) → AreSpelled more left → 0 < length left → ((choice : Choice) (rest : List Bytes) → BeginsWith left choice rest → ⊥) → ⊥
    at_first more left nothing some refused = absurd (omega arith)
    at_first more left (first {choice} {rest} begins later) some refused = refused choice rest begins

pub only_short : (values : List ℕ) (one : Option ℕ) → IsOnly values one → length values ≤ 1
only_short values None is = rw is (omega arith)
only_short values (Some n) is = rw is (omega arith)

two_values : (h : Choice → Option ℕ) (done after : List Choice) (choice : Choice) (n m : ℕ) (one : Option ℕ) → filter_map h done ≡ m ∷ [] → h choice ≡ Some n → IsOnly (filter_map h (done ++ choice ∷ after)) one → ⊥
two_values h done after choice n m one before is only =
    let short = only_short (filter_map h (done ++ choice ∷ after)) one only in
    let split = ap length (filter_map-append h done (choice ∷ after)) ∙ length-append (filter_map h done) (filter_map h (choice ∷ after)) in
    let front : length (filter_map h done) ≡ 1 = ap length before in
    let next : length (filter_map h (choice ∷ after)) ≡ length (n ∷ filter_map h after) = rw is refl in
    omega arith

-- an option stands there once more
pub second_workers : (words left rest : List Bytes) (workers generate : Option ℕ) (n : ℕ) → is_some workers ≡ true → Reading words left workers generate → BeginsWith left (Workers n) rest
    → (run : RunWords) → IsRun words run → ⊥
second_workers words left rest None generate n some reading begins run is = false≢true some
second_workers words left rest (Some m) generate n some reading begins run is =
    let before = reading.back is.choices is.spelled in
    let head = spelled_first before.0 left (Workers n) rest before.2 begins in
    let all = before.1 ∙ ap (λ (cs : List Choice). reading.done ++ cs) head.1 in
    two_values workers_in reading.done head.0 (Workers n) n m is.workers reading.one_workers refl (rw all at is.one_workers)

pub second_generate : (words left rest : List Bytes) (workers generate : Option ℕ) (n : ℕ) → is_some generate ≡ true → Reading words left workers generate → BeginsWith left (Generate n) rest
    → (run : RunWords) → IsRun words run → ⊥
second_generate words left rest workers None n some reading begins run is = false≢true some
second_generate words left rest workers (Some m) n some reading begins run is =
    let before = reading.back is.choices is.spelled in
    let head = spelled_first before.0 left (Generate n) rest before.2 begins in
    let all = before.1 ∙ ap (λ (cs : List Choice). reading.done ++ cs) head.1 in
    two_values generate_in reading.done head.0 (Generate n) n m run.generate reading.one_generate refl (rw all at is.one_generate)

-- ---- the same, of a loop that notes which options it saw

pub record Seen (words left : List Bytes) (workers generate : Bool) : Type 0 where
  pub workers_value : Option ℕ
  pub generate_value : Option ℕ
  pub reading : Reading words left workers_value generate_value
  pub has_workers : is_some workers_value ≡ workers
  pub has_generate : is_some generate_value ≡ generate

pub seen_begins : (words : List Bytes) → Seen words words false false
seen_begins words = record { workers_value = None; generate_value = None; reading = reading_begins words; has_workers = refl; has_generate = refl }

-- an option begins the words that are left
abbrev pub Begins : List Bytes → Flag → List Bytes → Type 0
Begins left flag rest = (choice : Choice) × (flag_of choice ≡ flag) × BeginsWith left choice rest

pub workers_seen : (words left rest : List Bytes) (generate : Bool) → Seen words left false generate → Begins left flag.Workers rest → Seen words rest true generate
workers_seen words left rest generate seen (Workers n, is, begins) = record {
  workers_value = Some n;
  generate_value = seen.generate_value;
  reading = with_workers words left rest seen.workers_value seen.generate_value n seen.has_workers seen.reading begins;
  has_workers = refl;
  has_generate = seen.has_generate;
}
workers_seen words left rest generate seen (Generate n, is, begins) = let bad : flag.Generate ≡ flag.Workers = is in cc

pub generate_seen : (words left rest : List Bytes) (workers : Bool) → Seen words left workers false → Begins left flag.Generate rest → Seen words rest workers true
generate_seen words left rest workers seen (Generate n, is, begins) = record {
  workers_value = seen.workers_value;
  generate_value = Some n;
  reading = with_generate words left rest seen.workers_value seen.generate_value n seen.has_generate seen.reading begins;
  has_workers = seen.has_workers;
  has_generate = refl;
}
generate_seen words left rest workers seen (Workers n, is, begins) = let bad : flag.Workers ≡ flag.Generate = is in cc

pub workers_again : (words left rest : List Bytes) (generate : Bool) → Seen words left true generate → Begins left flag.Workers rest → (run : RunWords) × IsRun words run → ⊥
workers_again words left rest generate seen (Workers n, is, begins) run =
    second_workers words left rest seen.workers_value seen.generate_value n seen.has_workers seen.reading begins run.0 run.1
workers_again words left rest generate seen (Generate n, is, begins) run = let bad : flag.Generate ≡ flag.Workers = is in cc

pub generate_again : (words left rest : List Bytes) (workers : Bool) → Seen words left workers true → Begins left flag.Generate rest → (run : RunWords) × IsRun words run → ⊥
generate_again words left rest workers seen (Generate n, is, begins) run =
    second_generate words left rest seen.workers_value seen.generate_value n seen.has_generate seen.reading begins run.0 run.1
generate_again words left rest workers seen (Workers n, is, begins) run = let bad : flag.Workers ≡ flag.Generate = is in cc

pub none_seen : (words left : List Bytes) (workers generate : Bool) → Seen words left workers generate → 0 < length left
    → ((choice : Choice) (rest : List Bytes) → BeginsWith left choice rest → ⊥) → (run : RunWords) × IsRun words run → ⊥
none_seen words left workers generate seen some refused run =
    no_option words left seen.workers_value seen.generate_value seen.reading some refused run.0 run.1

pub all_seen : (words left : List Bytes) (workers generate : Bool) → Seen words left workers generate → left ≡ [] → (run : RunWords) × IsRun words run
all_seen words left workers generate seen at =
    let run : RunWords = record { workers = unwrap_or seen.workers_value default_workers; generate = seen.generate_value } in
    (run, run_read words left seen.workers_value seen.generate_value run at seen.reading refl refl)

pub fewer_left : (left : List Bytes) (flag : Flag) (rest : List Bytes) → Begins left flag rest → length rest < length left
fewer_left left flag rest begins = fewer left begins.0 rest begins.2
