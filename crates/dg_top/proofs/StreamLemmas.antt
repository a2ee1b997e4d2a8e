-- Bytes that are appended or taken one piece after another.
use Rattle.std.proofs.Common.{[], ◌++◌, Option, Some, None, refl, sym, ap, ◌∙◌, append_assoc}
use Rattle.std.specs.Io.KnownBytes.{Appends, Consumes}
use Rattle.std.proofs.lemmas.List.{append-nil}
use Rattle.dg_lex.specs.Bytes.{Bytes}

pub appends_none : (known : Option Bytes) → Appends known known []
appends_none None = tt
appends_none (Some z) = sym (append-nil z)

pub appends_then : (a b c : Option Bytes) (x y : Bytes) → Appends a b x → Appends b c y → Appends a c (x ++ y)
appends_then None b c x y first second = tt
appends_then (Some a) None c x y first second = absurd first
appends_then (Some a) (Some b) None x y first second = absurd second
appends_then (Some a) (Some b) (Some c) x y first second = second ∙ ap (λ (z : Bytes). z ++ y) first ∙ append_assoc a x y

pub consumes_none : (known : Option Bytes) → Consumes known known []
consumes_none None = tt
consumes_none (Some z) = refl

pub consumes_then : (a b c : Option Bytes) (x y : Bytes) → Consumes a b x → Consumes b c y → Consumes a c (x ++ y)
consumes_then None b c x y first second = tt
consumes_then (Some a) None c x y first second = absurd first
consumes_then (Some a) (Some b) None x y first second = absurd second
consumes_then (Some a) (Some b) (Some c) x y first second = first ∙ ap (λ (z : Bytes). x ++ z) second ∙ sym (append_assoc x y c)
