-- The entries of sets and maps that are values.
use Rattle.std.proofs.Common.{◌≡◌, List, Some, None, refl, sym, ap}
use Rattle.std.specs.List.{filter_map}
use Rattle.std.proofs.lemmas.Option.{none-some, same_Some}
use Rattle.dg_value.specs.declared.value.Kept.TheOpen.{Value-F}
use Rattle.dg_value.specs.declared.value.Value.{Value}
use Rattle.dg_value.specs.Same.{Layer}
use Rattle.dg_eval.specs.Runs.{Run}
use Rattle.dg_eval.specs.Operations.{entry_value, elements_at}
use Rattle.dg_eval.specs.Bodies.{set_of, values_at}
use Rattle.dg_bodies.specs.Elements.{keyed_at}
use Rattle.dg_bodies.proofs.PlainRuns.{IsPlain}

pub values_some : (look : Value → Run Value) (l : Layer) (vs : List Value)
    → elements_at l ≡ Some vs → values_at look l ≡ set_of look (filter_map entry_value vs)
values_some look (Value-F.Set ws) vs e =
    ap (λ us. set_of look (filter_map entry_value us)) (same_Some ws vs e)
values_some look other vs e = absurd (none-some vs e)

pub values_none : (look : Value → Run Value) (l : Layer) → elements_at l ≡ None
    → values_at look l ≡ keyed_at l
values_none look (Value-F.Set ws) e = absurd (none-some ws (sym e))
values_none look (Value-F.Map es) e = refl
values_none look other e = refl

pub plain_keyed : (l : Layer) → IsPlain (keyed_at l)
plain_keyed (Value-F.Map es) = record { asks = refl }
plain_keyed other = record { asks = refl }
