-- What becomes of a run is what a call answers.
use Rattle.std.proofs.Common.{◌≡◌, ℕ, List, [], Option, Some, None, option_map, Result, Ok, Err, IfOk, refl, sym, ap, subst, ◌∙◌}
use Rattle.dg_types.specs.declared.memory.NoMemory.{NoMemory}
use Rattle.dg_decl.specs.declared.document.Doc.{Doc}
use Rattle.dg_slots.specs.declared.session.Ask.{Ask}
use Rattle.dg_value.specs.declared.value.Failure.{Failure}
use Rattle.dg_value.specs.declared.value.Reply.{Reply}
use Rattle.dg_eval.specs.Runs.{Asked, Run}
use Rattle.dg_eval.specs.Asks.{Reached, value_there, not_there, run_of_ask, reply_of, answer_to}
use Rattle.dg_eval.specs.Bodies.{End, value_end, producer_end}
use Rattle.dg_requests.specs.declared.stop.Stop.{Stop}
use Rattle.dg_requests.specs.declared.stop.Stop.TheVariants as stop
use Rattle.dg_requests.specs.Scopes.{Asks}
use Rattle.dg_requests.specs.Results.{Gave, AskedFor}
use Rattle.dg_evaluator.specs.declared.outcome.Outcome.{Outcome}
use Rattle.dg_evaluator.specs.Answers.{outcome_in, reply_in}
use Rattle.dg_evaluator.specs.Ends.{outcome_of}

-- ---- asks

reply_told : (run : Run Reached) (r : Result Reached Failure) (reply : Reply)
    → option_map (λ p. p.0) run ≡ Some r → reply_of (Some (r, [])) ≡ Some reply
    → reply_of run ≡ Some reply
reply_told None r reply e f = cc
reply_told (Some (q, asked)) r reply e f =
    let same : q ≡ r = cc in ap (λ (u : Result Reached Failure). reply_of (Some (u, []))) same ∙ f

reply_as : (run : Run Reached) (came : Result Reached Stop) → Gave run came
    → IfOk (reply_in came) (λ r. reply_of run ≡ Some r)
reply_as run (Ok (value_there v)) g = reply_told run (Ok (value_there v)) _ g refl
reply_as run (Ok not_there) g = reply_told run (Ok not_there) _ g refl
reply_as run (Err (stop.Failed f)) g = reply_told run (Err f) _ g refl
reply_as run (Err stop.NoMemory) g = tt

pub reply_exact : (doc : Doc) (number : ℕ) (a : Ask) (came : Result Reached Stop)
    → (result : Result Reply NoMemory) → result ≡ reply_in came
    → Gave (run_of_ask doc number a) came
    → IfOk result (λ r. answer_to doc number a ≡ Some r)
unfolding answer_to
reply_exact doc number a came result e g =
    subst (λ (u : Result Reply NoMemory). IfOk u (λ r. reply_of (run_of_ask doc number a) ≡ Some r))
    (sym e) (reply_as (run_of_ask doc number a) came g)

asked_as : (doc : Doc) (asks : List Asked) (a b : Option (List Asked))
    → (came : Result Reached Stop) → AskedFor doc asks a b came
    → Asks doc asks a b (reply_in came)
asked_as doc asks a b (Ok (value_there v)) h = h
asked_as doc asks a b (Ok not_there) h = h
asked_as doc asks a b (Err (stop.Failed f)) h = h
asked_as doc asks a b (Err stop.NoMemory) h = h

pub reply_asked : (doc : Doc) (asks : List Asked) (a b : Option (List Asked))
    → (came : Result Reached Stop) (result : Result Reply NoMemory) → result ≡ reply_in came
    → AskedFor doc asks a b came → Asks doc asks a b result
reply_asked doc asks a b came result e h =
    subst (λ (u : Result Reply NoMemory). Asks doc asks a b u) (sym e)
    (asked_as doc asks a b came h)

-- ---- slots

outcome_told : (run : Run End) (r : Result End Failure) (o : Outcome)
    → option_map (λ p. p.0) run ≡ Some r → outcome_of (Some (r, [])) ≡ Some o
    → outcome_of run ≡ Some o
outcome_told None r o e f = cc
outcome_told (Some (q, asked)) r o e f =
    let same : q ≡ r = cc in ap (λ (u : Result End Failure). outcome_of (Some (u, []))) same ∙ f

outcome_as : (run : Run End) (came : Result End Stop) → Gave run came
    → IfOk (outcome_in came) (λ o. outcome_of run ≡ Some o)
outcome_as run (Ok (value_end v)) g = outcome_told run (Ok (value_end v)) _ g refl
outcome_as run (Ok (producer_end i k)) g = outcome_told run (Ok (producer_end i k)) _ g refl
outcome_as run (Err (stop.Failed f)) g = outcome_told run (Err f) _ g refl
outcome_as run (Err stop.NoMemory) g = tt

pub outcome_exact : (run : Run End) (came : Result End Stop) (result : Result Outcome NoMemory)
    → result ≡ outcome_in came → Gave run came → IfOk result (λ o. outcome_of run ≡ Some o)
outcome_exact run came result e g =
    subst (λ (u : Result Outcome NoMemory). IfOk u (λ o. outcome_of run ≡ Some o)) (sym e)
    (outcome_as run came g)

outcome_asked_as : (doc : Doc) (asks : List Asked) (a b : Option (List Asked))
    → (came : Result End Stop) → AskedFor doc asks a b came → Asks doc asks a b (outcome_in came)
outcome_asked_as doc asks a b (Ok (value_end v)) h = h
outcome_asked_as doc asks a b (Ok (producer_end i k)) h = h
outcome_asked_as doc asks a b (Err (stop.Failed f)) h = h
outcome_asked_as doc asks a b (Err stop.NoMemory) h = h

pub outcome_asked : (doc : Doc) (asks : List Asked) (a b : Option (List Asked))
    → (came : Result End Stop) (result : Result Outcome NoMemory) → result ≡ outcome_in came
    → AskedFor doc asks a b came → Asks doc asks a b result
outcome_asked doc asks a b came result e h =
    subst (λ (u : Result Outcome NoMemory). Asks doc asks a b u) (sym e)
    (outcome_asked_as doc asks a b came h)
