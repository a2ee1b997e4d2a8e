-- Ends of runs.
use Rattle.std.proofs.Common.{◌≡◌, ◌<◌, ℕ, [], length, take, drop, Option, Result, Ok, Err, refl, sym, subst, arith}
use Rattle.std.specs.Prelude.{IfOk, IfErr}
use Rattle.std.specs.Result.{IsErrAnd}
use Rattle.std.proofs.lemmas.Result.{err_from_is_err_and}
use Rattle.std.specs.Io.KnownBytes.{Appends}
use Rattle.std.proofs.lemmas.List.{length-drop, take-append-drop}
use Rattle.dg_io.specs.Causes.{Rose}
use Rattle.dg_types.specs.declared.memory.NoMemory.{NoMemory as no_memory}
use Rattle.dg_lex.specs.Bytes.{Bytes}
use Rattle.dg_top.specs.declared.answer.Answer.{Answer}
use Rattle.dg_top.specs.declared.status.Status.{Status}
use Rattle.dg_top.specs.declared.status.Status.TheVariants.{Ran, WriteFault, NoMemory}
use Rattle.dg_top.specs.declared.stream_fault.StreamFault.{StreamFault}
use Rattle.dg_top.specs.declared.stream_fault.StreamFault.TheVariants as fault
use Rattle.dg_top.specs.Ends.{WritesFrontOf, Ends, all_written, sink_failed, memory_lacked, nothing_written, IsMade, StopsEarly}
use Rattle.dg_top.proofs.StreamLemmas.{appends_none}

-- a run ends so with other answers to give, where each of the first is one of the others
pub ends_as : (P Q : Status → Bytes → Type 0) (old new : Option Bytes) (faults new_faults : ℕ)
    (status : Status) → ((s : Status) (t : Bytes) → P s t → Q s t)
    → Ends P old new faults new_faults status → Ends Q old new faults new_faults status
ends_as P Q old new faults new_faults status each (all_written s text given written kept) =
    all_written s text (each s text given) written kept
ends_as P Q old new faults new_faults status each (sink_failed s text given front rose) =
    sink_failed s text (each s text given) front rose
ends_as P Q old new faults new_faults status each (memory_lacked s text given front kept) =
    memory_lacked s text (each s text given) front kept
ends_as P Q old new faults new_faults status each (nothing_written written kept) = nothing_written
    written kept

-- the same of an answer that was made
pub made_as : (P : Status → Bytes → Type 0) (made : Result Answer no_memory) (old new : Option
    Bytes) (faults new_faults : ℕ) (status : Status) → IfOk made (λ a. P a.status a.text.items)
    → Ends (IsMade made) old new faults new_faults status → Ends P old new faults new_faults status
made_as P made old new faults new_faults status is ends = ends_as (IsMade made) P old new faults
    new_faults status (given made is) ends
  where
    given : (made : Result Answer no_memory) → IfOk made (λ a. P a.status a.text.items)
        → (s : Status) (t : Bytes) → IsMade made s t → P s t
    given (Ok a) is s t h = subst (λ (x : Status). P x t) (sym h.0) (subst (P a.status) (sym h.1)
        is)
    given (Err e) is s t h = absurd h

-- nothing could be made
pub lacks_memory : (P : Status → Bytes → Type 0) (old : Option Bytes) (faults : ℕ)
    → Ends P old old faults faults NoMemory
lacks_memory P old faults = nothing_written (appends_none old) refl

-- a front that ends within a text
pub front_within : (text : Bytes) (n : ℕ) (old new : Option Bytes) → n < length text
    → Appends old new (take n text) → WritesFrontOf text old new
front_within text n old new less written = record {
  front = take n text;
  rest = drop n text;
  is_text = sym (take-append-drop n text);
  some = omega (arith, less, length-drop n text);
  written = written;
}

-- ---- an answer that was made

module _ (made : Result Answer no_memory) (a : Answer) (is : made ≡ Ok a) (old new : Option Bytes)
    (faults new_faults : ℕ) where
  made_is : IsMade made a.status a.text.items
  made_is = subst (λ (m : Result Answer no_memory). IsMade m a.status a.text.items) (sym is) (
    refl,
    refl,
  )

  pub made_written : Appends old new a.text.items → new_faults ≡ faults
      → Ends (IsMade made) old new faults new_faults a.status
  made_written written kept = all_written a.status a.text.items made_is written kept

  pub made_failed : (n : ℕ) → n < length a.text.items → Appends old new (take n a.text.items)
      → Rose faults new_faults → Ends (IsMade made) old new faults new_faults WriteFault
  made_failed n less written rose = sink_failed a.status a.text.items made_is (front_within
      a.text.items n old new less written) rose

-- ---- a text that is written piece by piece

module _ (P : Status → Bytes → Type 0) (text : Bytes) (given : P Ran text) (old new : Option Bytes)
    (faults new_faults : ℕ) where
  pub streamed : Appends old new text → new_faults ≡ faults → Ends P old new faults new_faults Ran
  streamed written kept = all_written Ran text given written kept

  pub stream_failed : StopsEarly text old new faults new_faults fault.Failed
      → Ends P old new faults new_faults WriteFault
  stream_failed cause = sink_failed Ran text given cause.0 cause.1

  pub stream_lacked : StopsEarly text old new faults new_faults fault.NoMemory
      → Ends P old new faults new_faults NoMemory
  stream_lacked cause = memory_lacked Ran text given cause.0 cause.1

module _ {T : Type 0} (text : Bytes) (old new : Option Bytes) (faults new_faults : ℕ) (r : Result T
    StreamFault) (front : WritesFrontOf text old new) where
  stops : (e : StreamFault) → StopsEarly text old new faults new_faults e
      → IsErrAnd r (λ f. f ≡ e) → IfErr r (StopsEarly text old new faults new_faults)
  stops e cause is =
      let p = err_from_is_err_and r is in
      subst (λ (x : Result T StreamFault). IfErr x (StopsEarly text old new faults new_faults)) (sym
      p.1) (subst (StopsEarly text old new faults new_faults) (sym p.2) cause)

  pub stops_lacking : new_faults ≡ faults → IsErrAnd r (λ f. f ≡ fault.NoMemory)
      → IfErr r (StopsEarly text old new faults new_faults)
  stops_lacking kept is = stops fault.NoMemory (front, kept) is

  pub stops_failing : Rose faults new_faults → IsErrAnd r (λ f. f ≡ fault.Failed)
      → IfErr r (StopsEarly text old new faults new_faults)
  stops_failing rose is = stops fault.Failed (front, rose) is

-- nothing was written of a text that has a byte
pub none_of : (text : Bytes) (old : Option Bytes) → 0 < length text → WritesFrontOf text old old
none_of text old some = record {
  front = [];
  rest = text;
  is_text = refl;
  some = some;
  written =
      appends_none old;
}
