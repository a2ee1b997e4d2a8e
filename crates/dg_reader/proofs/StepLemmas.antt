-- The steps of an ask are read one after another, as a loop does.
use Rattle.std.proofs.Common.{◌≡◌, ℕ, zero, suc, ◌-◌, ◌+◌, ◌≤◌, ◌<◌, Bool, true, false, ◌==◌, List}
use Rattle.std.proofs.Common.{[], ◌∷◌, ◌++◌, length, Option, Some, None, Err, refl, sym, ap, ◌∙◌}
use Rattle.std.proofs.Common.{arith}
use Rattle.std.proofs.lemmas.Bool.{eqb-true}
use Rattle.std.proofs.lemmas.List.{append-nil}
use Rattle.dg_lex.specs.Lexemes.{Lexeme}
use Rattle.dg_decl.specs.declared.item.AskStep.{AskStep}
use Rattle.dg_decl.specs.Readers.{then_reads, pure}
use Rattle.dg_decl.specs.Forms.{ask_step, ask_steps}
use Rattle.dg_reader.specs.declared.fault.FormFault.{FormFault}
use Rattle.dg_reader.specs.declared.fault.FormFault.TheVariants as fault
use Rattle.dg_reader.specs.Gives.{Gives}
use Rattle.dg_reader.proofs.ListLemmas.{ReadList, with_front, regroup, in_front}

no_step_left : (n : ℕ) → ask_steps n [] ≡ Some ([], [])
unfolding ask_steps
no_step_left zero = refl
no_step_left (suc n) = refl

step_more : (n : ℕ) (l : Lexeme) (ls after : List Lexeme) (x : AskStep)
    → ask_step (l ∷ ls) ≡ Some (x, after) → ask_steps (suc n) (l ∷ ls) ≡ with_front (x ∷ [])
    (ask_steps n after)
unfolding ask_steps
step_more n l ls after x read = rw read (in_front x (ask_steps n after))

step_missing : (n : ℕ) (l : Lexeme) (ls : List Lexeme) → ask_step (l ∷ ls) ≡ None
    → ask_steps (suc n) (l ∷ ls) ≡ None
unfolding ask_steps
step_missing n l ls none = rw none refl

too_many : (l : Lexeme) (ls : List Lexeme) → ask_steps 0 (l ∷ ls) ≡ None
unfolding ask_steps
too_many l ls = refl

pub steps_end : (front : List AskStep) (count i : ℕ) (ls : List Lexeme) (total : ReadList AskStep)
    → (length ls == 0) ≡ true → with_front front (ask_steps (count - i) ls) ≡ total
    → total ≡ Some (front, ls)
steps_end front count i [] total empty so_far = sym so_far ∙ (rw (no_step_left (count - i)) (ap
    (λ (xs : List AskStep). Some (xs, [])) (append-nil front)))
steps_end front count i (l ∷ ls) total empty so_far =
    absurd (let none : suc (length ls) ≡ 0 = eqb-true (suc (length ls)) 0 empty in omega arith)

pub steps_go_on : (front : List AskStep) (count i : ℕ) (ls after : List Lexeme) (x : AskStep) (total
    : ReadList AskStep) → i < count → (length ls == 0) ≡ false → ask_step ls ≡ Some (x, after)
    → with_front front (ask_steps (count - i) ls) ≡ total
    → with_front (front ++ x ∷ []) (ask_steps (count - (i + 1)) after) ≡ total
steps_go_on front count i [] after x total lt some read so_far = absurd cc
steps_go_on front count i (l ∷ ls) after x total lt some read so_far =
    let k : count - i ≡ suc (count - (i + 1)) = omega arith in
    let step : ask_steps (count - i) (l ∷ ls) ≡ with_front (x ∷ []) (ask_steps (count - (i + 1))
    after) = rw k (step_more (count - (i + 1)) l ls after x read) in
    sym (ap (with_front front) step ∙ regroup front x (ask_steps (count - (i + 1)) after)) ∙ so_far

pub steps_fail : (front : List AskStep) (count i : ℕ) (ls left new : List Lexeme) (e : FormFault)
    (total : ReadList AskStep) → i < count → (length ls == 0) ≡ false
    → Gives (ask_step ls) (Err e) left
    → with_front front (ask_steps (count - i) ls) ≡ total → Gives total (Err e) new
steps_fail front count i ls left new fault.NoMemory total lt some refused so_far = tt
steps_fail front count i [] left new fault.NoForm total lt some refused so_far = absurd cc
steps_fail front count i (l ∷ ls) left new fault.NoForm total lt some refused so_far =
    let k : count - i ≡ suc (count - (i + 1)) = omega arith in
    let step : ask_steps (count - i) (l ∷ ls) ≡ None = rw k (step_missing (count - (i + 1)) l ls
    refused) in
    sym so_far ∙ ap (with_front front) step

pub steps_are_full : (front : List AskStep) (count i : ℕ) (ls : List Lexeme) (total : ReadList
    AskStep) → count ≤ i → (length ls == 0) ≡ false
    → with_front front (ask_steps (count - i) ls) ≡ total → total ≡ None
steps_are_full front count i [] total le some so_far = absurd cc
steps_are_full front count i (l ∷ ls) total le some so_far =
    let k : count - i ≡ 0 = omega arith in
    let step : ask_steps (count - i) (l ∷ ls) ≡ None = rw k (too_many l ls) in
    sym so_far ∙ ap (with_front front) step
