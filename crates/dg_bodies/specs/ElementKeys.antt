-- What elements of a set are told apart by, and which elements are kept by what was noted so far.
use Rattle.std.specs.Prelude.{Bool, false, if◌then◌else◌, List, [], ◌∷◌, ◌++◌, Option, Some, None}
use Rattle.std.specs.List.{list_any}
use Rattle.dg_value.specs.declared.value.Value.{Value, out-Value}
use Rattle.dg_value.specs.declared.value.Kept.TheOpen.{Value-F}
use Rattle.dg_value.specs.Same.{Layer}
use Rattle.dg_bodies.specs.declared.element_key.ElementKey.{ElementKey}
use Rattle.dg_bodies.specs.declared.element_key.ElementKey.TheVariants as element
use Rattle.dg_bodies.specs.contracts.element_key.ElementKeyPartialEq.TheImpl as of_keys

-- the derived test of keys
unfoldable pub same_key : ElementKey → ElementKey → Bool
same_key = of_keys.ghosts.eq

-- what a content is told apart by, by its outermost form
abbrev pub key_at : Layer → Option ElementKey
key_at (Value-F.Text bytes) = Some (element.Text bytes)
key_at (Value-F.Int n) = Some (element.Int n)
key_at (Value-F.Object class ident fields) = Some (element.Object ident)
key_at other = None

-- what a content is told apart by
abbrev pub key_of : Value → Option ElementKey
key_of v = key_at (out-Value v)

-- a key is one of these
abbrev pub is_among : ElementKey → List ElementKey → Bool
is_among key keys = list_any (same_key key) keys

-- these keys with one more, unless it is one of them
abbrev pub with_key : ElementKey → List ElementKey → List ElementKey
with_key key keys = if is_among key keys then keys else keys ++ key ∷ []

-- what a content is told apart by was noted
abbrev pub is_noted : Option ElementKey → List ElementKey → Bool
is_noted None keys = false
is_noted (Some key) keys = is_among key keys

-- what was noted, with what a content is told apart by
abbrev pub with_noted : Option ElementKey → List ElementKey → List ElementKey
with_noted None keys = keys
with_noted (Some key) keys = with_key key keys

-- Elements, what was noted of the contents behind them, and then values with what stands behind
-- each: those are kept of which nothing was noted.
abbrev pub kept_by : List Value → List ElementKey → List Value → List Value → List Value
kept_by elements keys (v ∷ vs) (a ∷ as_is) =
    if is_noted (key_of a) keys then kept_by elements (with_noted (key_of a) keys) vs as_is
    else kept_by (elements ++ v ∷ []) (with_noted (key_of a) keys) vs as_is
kept_by elements keys vs as_is = elements
