-- The value of a reply is there with the contents of all cells behind it.
use Rattle.std.proofs.Common.{◌≡◌, ◌≤◌, ℕ, zero, suc, List, [], ◌∷◌, Contains, Option, Some, None, option_and_then, Ok, Err, refl, sym, ap, subst, ◌∙◌, arith}
use Rattle.std.specs.Prelude.{IsSome}
use Rattle.std.specs.List.{enumerate_from}
use Rattle.std.proofs.lemmas.Option.{none-some, same_Some}
use Rattle.dg_decl.specs.declared.document.Doc.{Doc}
use Rattle.dg_decl.proofs.MemberLemmas.{out_map}
use Rattle.dg_slots.specs.declared.session.Ask.{Ask}
use Rattle.dg_slots.specs.Sessions.{asks_of}
use Rattle.dg_value.specs.declared.value.Reply.TheVariants as reply
use Rattle.dg_value.specs.declared.value.Value.{Value}
use Rattle.dg_eval.specs.Named.{Named, held_cell, names_in}
use Rattle.dg_eval.specs.Runs as runs
use Rattle.dg_eval.specs.Runs.{Asked, Run}
use Rattle.dg_eval.specs.Meaning.{cell_place, eval, content_of}
use Rattle.dg_eval.specs.Asks.{run_of_ask, answer_to, numbered_asks, asked_by}
use Rattle.dg_eval.specs.Report.{value_of_run, whole}
use Rattle.dg_eval.specs.At.{ask_numbered}
use Rattle.dg_eval.specs.Laws.{IsPlaceOf}
use Rattle.dg_eval.proofs.RunResults.{Allowed, Gives, Each}
use Rattle.dg_eval.proofs.ValueLemmas.{AllIn}
use Rattle.dg_eval.proofs.TargetLemmas.{ShallowSlot, none_shallow}
use Rattle.dg_eval.proofs.TotalLemmas.{CallsAreEdges, NamedWithin, Within, Good}
use Rattle.dg_eval.proofs.AcceptedDepth.{StagesFindNothing, stages_of_accepted}
use Rattle.dg_eval.proofs.CallLemmas.{calls_are_edges}
use Rattle.dg_eval.proofs.PlaceLemmas.{numbered_in, placing}
use Rattle.dg_eval.proofs.StandLemmas.{all_stand}
use Rattle.dg_eval.proofs.AskLemmas.{run_has}
use Rattle.dg_promises.specs.Replies.{RepliesAreWhole}
use Rattle.dg_promises.proofs.EvalTraces.{IsClosed, content_named}
use Rattle.dg_promises.proofs.AskTraces.{reply_value, reply_named}
use Rattle.dg_promises.proofs.WholeLemmas.{one_pass}

-- ---- cells that are held gave a value

abbrev HasValue : Doc → Named → Type 0
HasValue doc (held_cell i k) = IsSome (value_of_run (content_of doc i k))
HasValue doc other = Unit {0}

abbrev MayAsk : Asked → Type 0
MayAsk x = Unit {0}

-- anything may be asked
abbrev Valued : Doc → Allowed
Valued doc = record { name = HasValue doc; ask = MayAsk }

each_asked : (xs : List Asked) → Each MayAsk xs
each_asked [] = tt
each_asked (x ∷ xs) = (tt, each_asked xs)

some_there : {A : Type 0} (o : Option A) (a : A) → o ≡ Some a → IsSome o
some_there None a e = absurd (none-some a e)
some_there (Some b) a e = refl

valued_closed : (doc : Doc) → IsClosed doc (Valued doc)
valued_closed doc = record {
  asked = λ x a. each_asked (asked_by doc x);
  held = λ i k v a e. some_there (value_of_run (content_of doc i k)) v e;
  lazies = λ i k p. tt;
  ways = λ i k. tt;
}

-- ---- through the cells

given_value : {A : Type 0} (R : Allowed) (P : A → Type 0) (x : Run A) (a : A) → Gives R P x
    → value_of_run x ≡ Some a → P a
given_value R P None a g e = absurd g
given_value R P (Some (Ok b, asked)) a g e = subst P (same_Some b a e) g.0
given_value R P (Some (Err f, asked)) a g e = absurd (none-some a e)

-- the content of a cell is less deep than what holds it
content_good : (doc : Doc) → StagesFindNothing doc → CallsAreEdges doc → (k i s : ℕ) (w : Value)
    → suc k ≤ 128 → ShallowSlot doc (suc k) s → value_of_run (content_of doc i s) ≡ Some w
    → Good doc (IsPlaceOf doc) k w
unfolding content_of
content_good doc none ok k i s w le sh e =
    given_value (Within doc (IsPlaceOf doc) k) (Good doc (IsPlaceOf doc) k)
    (eval doc 128 i s (cell_place i s)) w
    (all_stand doc none ok k i s (cell_place i s) le sh ((placing doc none).cell i s)) e

-- what is not too deep, and of which the cells that are held gave a value
abbrev Deep : Doc → ℕ → Named → Type 0
Deep doc k x = NamedWithin doc (IsPlaceOf doc) k x × HasValue doc x

abbrev DeepValued : Doc → ℕ → Allowed
DeepValued doc k = record { name = Deep doc k; ask = MayAsk }

each_both : {A : Type 0} (P Q : A → Type 0) (xs : List A) → Each P xs → Each Q xs
    → Each (λ x. P x × Q x) xs
each_both P Q [] h g = tt
each_both P Q (x ∷ xs) h g = ((h.0, g.0), each_both P Q xs h.1 g.1)

behind_there : (f : Value → Option Value) (o : Option Value) → IsSome o
    → ((w : Value) → o ≡ Some w → IsSome (f w)) → IsSome (option_and_then f o)
behind_there f None e h = e
behind_there f (Some w) e h = h w refl

whole_there : (doc : Doc) → StagesFindNothing doc → CallsAreEdges doc → (k : ℕ) → k ≤ 128
    → (v : Value) → Good doc (IsPlaceOf doc) k v → AllIn (Valued doc) v
    → IsSome (whole doc (suc k) v)
whole_there doc none ok zero le v good valued =
    one_pass doc zero (DeepValued doc zero) (λ i s h. absurd (none_shallow doc s h.0)) v
    (each_both (NamedWithin doc (IsPlaceOf doc) zero) (HasValue doc) (names_in v) good valued)
whole_there doc none ok (suc k) le v good valued =
    one_pass doc (suc k) (DeepValued doc (suc k))
    (λ i s h. behind_there (whole doc (suc k)) (value_of_run (content_of doc i s)) h.1
    (λ w e. whole_there doc none ok k (omega arith) w
    (content_good doc none ok k i s w le h.0 e)
    (content_named doc (Valued doc) (valued_closed doc) i s w tt e))) v
    (each_both (NamedWithin doc (IsPlaceOf doc) (suc k)) (HasValue doc) (names_in v) good valued)

-- ---- replies

-- an ask with its number
asks_numbered : (doc : Doc) (number : ℕ) (a : Ask) → Contains (numbered_asks doc) (number, a)
    → ask_numbered doc number ≡ Some a
asks_numbered doc number a c =
    let p = out_map (λ (p : ℕ × Ask). (suc p.0, p.1)) (enumerate_from 0 (asks_of doc)) (number, a) c
    in
    let o = numbered_in 0 (asks_of doc) p.0.0 p.0.1 p.1 in
    let first : suc p.0.0 ≡ number = ap (λ (q : ℕ × Ask). q.0) p.2 in
    let second : p.0.1 ≡ a = ap (λ (q : ℕ × Ask). q.1) p.2 in
    let count : suc o.0 ≡ number = omega (arith, o.1, first) in
    ap (ask_numbered doc) (sym count) ∙ (o.2 ∙ ap Some second)

reply_good : (doc : Doc) → StagesFindNothing doc → CallsAreEdges doc → (number : ℕ) (a : Ask)
    → (v : Value) → ask_numbered doc number ≡ Some a
    → answer_to doc number a ≡ Some (reply.Value v) → Good doc (IsPlaceOf doc) 128 v
unfolding answer_to
reply_good doc none ok number a v is e =
    reply_value _ (run_of_ask doc number a) v
    (λ r came. given_value (Within doc (IsPlaceOf doc) 128) _ (run_of_ask doc number a) r
    (run_has doc none ok number a is) came) e

pub replies_are_whole : RepliesAreWhole
replies_are_whole doc accepted number a among v e =
    let none = stages_of_accepted doc accepted in
    let ok = calls_are_edges doc none in
    whole_there doc none ok 128 (omega arith) v
    (reply_good doc none ok number a v (asks_numbered doc number a among) e)
    (reply_named doc (Valued doc) (valued_closed doc) number a v
    (each_asked (runs.asks_of (run_of_ask doc number a))) e)
