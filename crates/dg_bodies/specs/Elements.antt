-- Which values of some are the elements of their set, once it is known what stands behind each.
use Rattle.std.specs.Prelude.{Bool, if◌then◌else◌, List, [], ◌∷◌, ◌++◌, Vec, Result, Ok, Err}
use Rattle.std.specs.Global.{Global}
use Rattle.std.specs.List.{list_any, filter_map}
use Rattle.dg_value.specs.declared.value.Value.{Value}
use Rattle.dg_value.specs.declared.value.Value.TheVariants as value
use Rattle.dg_value.specs.declared.value.Kept.TheOpen.{Value-F}
use Rattle.dg_value.specs.Same.{Layer, same_element}
use Rattle.dg_eval.specs.Runs.{Run, gives, mistyped}
use Rattle.dg_eval.specs.Operations.{keyed}

-- a list that is a result, without how it lies in memory
abbrev pub listed : {A E : Type 0} → Result (Vec A Global) E → Result (List A) E
listed (Ok xs) = Ok xs.items
listed (Err e) = Err e

-- values as they are looked at: the first one when the second comes, the others as they come
abbrev pub as_looked_at : List Value → List Value
as_looked_at (v ∷ w ∷ vs) = w ∷ v ∷ vs
as_looked_at vs = vs

-- a content is equal to one of these
abbrev pub is_among : Value → List Value → Bool
is_among content contents = list_any (same_element content) contents

-- Elements with what stands behind each, and then values with what stands behind each: of equal ones
-- the first is kept.
abbrev pub kept_of : List Value → List Value → List Value → List Value → List Value
kept_of elements contents (v ∷ vs) (a ∷ as_is) =
    if is_among a contents then kept_of elements contents vs as_is
    else kept_of (elements ++ v ∷ []) (contents ++ a ∷ []) vs as_is
kept_of elements contents vs as_is = elements

-- the entries of a map that are values, where this is one
abbrev pub keyed_at : Layer → Run Value
keyed_at (Value-F.Map es) = gives (value.Map (filter_map keyed es))
keyed_at other = mistyped
