-- What is read for a command, and what it gives, is one thing.
use Rattle.std.proofs.Common.{◌≡◌, ◌⊎◌, inl, inr, ℕ, sym, ap, ◌∙◌}
use Rattle.dg_lex.specs.Bytes.{Bytes}
use Rattle.dg_decl.specs.declared.document.Doc.{Doc}
use Rattle.dg_decl.specs.Reading.{Reads, FirstBad, IsReadOnce, IsRefusedOnce}
use Rattle.dg_decl.proofs.OneReading.{reads_once}
use Rattle.dg_decl.specs.Canonical.{canonical_text}
use Rattle.dg_decl.specs.Diagnostics.{diagnostics}
use Rattle.dg_plan.specs.PlanLines.{plan_lines}
use Rattle.dg_eval.specs.Report.{report}
use Rattle.dg_top.specs.declared.command.Command.{Command}
use Rattle.dg_top.specs.declared.command.Command.TheVariants.{Run, Print, Check, Plan}
use Rattle.dg_top.specs.Output.{lines_of, IsDiagnosed, Refuses, Gives}

-- one document is read and no line is bad, or one line is the first bad one and no document is read
pub data HasReading (bytes : Bytes) : Type 0 where
  is_read : (doc : Doc) → Reads bytes doc → ((other : Doc) → Reads bytes other → other ≡ doc)
      → ((n : ℕ) → FirstBad bytes n → ⊥) → HasReading bytes
  is_bad : (line : ℕ) → FirstBad bytes line → ((other : ℕ) → FirstBad bytes other → other ≡ line)
      → ((doc : Doc) → Reads bytes doc → ⊥) → HasReading bytes

pub reading : (bytes : Bytes) → HasReading bytes
reading bytes = from_law bytes (reads_once bytes)
  where
    from_law : (bytes : Bytes) → IsReadOnce bytes ⊎ IsRefusedOnce bytes → HasReading bytes
    from_law bytes (inl r) = is_read r.doc r.reads r.only r.none_bad
    from_law bytes (inr r) = is_bad r.line r.first_bad r.only r.none_read

pub one_line : (bytes : Bytes) (m n : ℕ) → FirstBad bytes m → FirstBad bytes n → n ≡ m
one_line bytes m n f g = of_reading bytes m n (reading bytes) f g
  where
    of_reading : (bytes : Bytes) (m n : ℕ) → HasReading bytes → FirstBad bytes m
        → FirstBad bytes n → n ≡ m
    of_reading bytes m n (is_read doc reads only none) f g = absurd (none m f)
    of_reading bytes m n (is_bad line first only none) f g = only n g ∙ sym (only m f)

one_doc : (bytes : Bytes) (d e : Doc) → Reads bytes d → Reads bytes e → e ≡ d
one_doc bytes d e f g = of_reading bytes d e (reading bytes) f g
  where
    of_reading : (bytes : Bytes) (d e : Doc) → HasReading bytes → Reads bytes d → Reads bytes e
        → e ≡ d
    of_reading bytes d e (is_read doc reads only none) f g = only e g ∙ sym (only d f)
    of_reading bytes d e (is_bad line first only none) f g = absurd (none d f)

not_both : (bytes : Bytes) (n : ℕ) (d : Doc) → FirstBad bytes n → Reads bytes d → ⊥
not_both bytes n d f g = of_reading bytes n d (reading bytes) f g
  where
    of_reading : (bytes : Bytes) (n : ℕ) (d : Doc) → HasReading bytes → FirstBad bytes n
        → Reads bytes d → ⊥
    of_reading bytes n d (is_read doc reads only none) f g = none n f
    of_reading bytes n d (is_bad line first only none) f g = none d g

-- ---- by command

one_diagnosed : (bytes x y : Bytes) → IsDiagnosed bytes x → IsDiagnosed bytes y → y ≡ x
one_diagnosed bytes x y f g = g.is_text ∙ ap (λ (d : Doc). lines_of (diagnostics d)) (one_doc bytes
    f.doc g.doc f.reads g.reads) ∙ sym f.is_text

pub one_refusal : (command : Command) (bytes x y : Bytes) → Refuses command bytes x
    → Refuses command bytes y → y ≡ x
one_refusal Run bytes x y f g = one_diagnosed bytes x y f g
one_refusal Print bytes x y f g = absurd f
one_refusal Check bytes x y f g = one_diagnosed bytes x y f g
one_refusal Plan bytes x y f g = one_diagnosed bytes x y f g

pub one_given : (command : Command) (bytes x y : Bytes) → Gives command bytes x
    → Gives command bytes y → y ≡ x
one_given Run bytes x y f g = g.is_text ∙ ap report (one_doc bytes f.doc g.doc f.reads g.reads)
    ∙ sym f.is_text
one_given Check bytes x y f g = g.is_text ∙ sym f.is_text
one_given Print bytes x y f g = g.is_text ∙ ap canonical_text (one_doc bytes f.doc g.doc f.reads
    g.reads) ∙ sym f.is_text
one_given Plan bytes x y f g = g.is_text ∙ ap plan_lines (one_doc bytes f.doc g.doc f.reads g.reads)
    ∙ sym f.is_text

pub bad_isnt_refused : (command : Command) (bytes : Bytes) (n : ℕ) (x : Bytes) → FirstBad bytes n
    → Refuses command bytes x → ⊥
bad_isnt_refused Run bytes n x f g = not_both bytes n g.doc f g.reads
bad_isnt_refused Print bytes n x f g = g
bad_isnt_refused Check bytes n x f g = not_both bytes n g.doc f g.reads
bad_isnt_refused Plan bytes n x f g = not_both bytes n g.doc f g.reads

pub bad_isnt_given : (command : Command) (bytes : Bytes) (n : ℕ) (x : Bytes) → FirstBad bytes n
    → Gives command bytes x → ⊥
bad_isnt_given Run bytes n x f g = not_both bytes n g.doc f g.reads
bad_isnt_given Check bytes n x f g = not_both bytes n g.doc f g.reads
bad_isnt_given Print bytes n x f g = not_both bytes n g.doc f g.reads
bad_isnt_given Plan bytes n x f g = not_both bytes n g.doc f g.reads

pub refused_isnt_given : (command : Command) (bytes x y : Bytes) → Refuses command bytes x
    → Gives command bytes y → ⊥
refused_isnt_given Run bytes x y f g = f.broken (ap diagnostics (one_doc bytes g.doc f.doc g.reads
    f.reads) ∙ g.accepted)
refused_isnt_given Print bytes x y f g = f
refused_isnt_given Check bytes x y f g = f.broken (ap diagnostics (one_doc bytes g.doc f.doc g.reads
    f.reads) ∙ g.accepted)
refused_isnt_given Plan bytes x y f g = f.broken (ap diagnostics (one_doc bytes g.doc f.doc g.reads
    f.reads) ∙ g.accepted)
