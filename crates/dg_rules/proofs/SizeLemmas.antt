-- A weight that is cut off one past the limit is past it where the weight is.
use Rattle.std.proofs.Common.{◌≡◌, ℕ, Bool, true, false, min, nat_lt, List, [], ◌++◌, flat_map, sym, ap, ◌∙◌, arith, refl}
use Rattle.std.proofs.lemmas.Bool.{lt-ltb, le-ltb, ltb-true, ltb-false}
use Rattle.dg_decl.specs.declared.document.Doc.{Doc}
use Rattle.dg_decl.specs.declared.graph.Node.{Node}
use Rattle.dg_decl.specs.declared.violation.Violation.{Violation}
use Rattle.dg_decl.specs.Graph.{nodes}
use Rattle.dg_decl.specs.Stages.Sizes.{too_deep, too_heavy, sizes_stage}

pub past_limit : (w : ℕ) → nat_lt 4096 (min w 4097) ≡ nat_lt 4096 w
past_limit w = by (nat_lt 4096 w) refl
  where
    by : (b : Bool) → nat_lt 4096 w ≡ b → nat_lt 4096 (min w 4097) ≡ nat_lt 4096 w
    by true e = lt-ltb 4096 (min w 4097) (omega (arith, ltb-true 4096 w e)) ∙ sym e
    by false e = le-ltb 4096 (min w 4097) (omega (arith, ltb-false 4096 w e)) ∙ sym e

pub stage_is : (doc s : Doc) (ns : List Node) (old new : List Violation)
    → new ≡ old ++ flat_map (λ n. too_deep s n ++ too_heavy s n) ns → old ≡ [] → s ≡ doc
    → ns ≡ nodes doc → new ≡ sizes_stage doc
unfolding sizes_stage
stage_is doc s ns old new is none same are =
    is ∙ ap (λ vs. vs ++ flat_map (λ n. too_deep s n ++ too_heavy s n) ns) none
    ∙ ap (λ (d : Doc). flat_map (λ n. too_deep d n ++ too_heavy d n) ns) same
    ∙ ap (flat_map (λ n. too_deep doc n ++ too_heavy doc n)) are
