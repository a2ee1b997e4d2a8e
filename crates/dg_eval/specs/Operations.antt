-- What bodies do with values that aren't held.
use Rattle.std.specs.Prelude.{ℕ, nat_lt, Bool, true, false, not, ◌&&◌, if◌then◌else◌, List, [], ◌∷◌, ◌++◌, length, Option, Some, None, option_map, slice_get, codes, ℤ, pos, negsuc, ◌+ℤ◌, int_lt}
use Rattle.std.specs.Fmt.{signed_decimal}
use Rattle.std.specs.List.{find}
use Rattle.std.specs.Ordering.{int_eq}
use Rattle.std.specs.Option.{option_map_or}
use Rattle.std.specs.Str.{bytes_eq}
use Rattle.dg_lex.specs.Bytes.{Bytes}
use Rattle.dg_types.specs.declared.key.MapKeyVal.{MapKeyVal}
use Rattle.dg_types.specs.Equality.{same_map_key}
use Rattle.dg_value.specs.declared.value.Kept.{Kept, out-Kept}
use Rattle.dg_value.specs.declared.value.Value.{Value, out-Value}
use Rattle.dg_value.specs.declared.value.Kept.TheOpen.{Kept-F, Value-F}
use Rattle.dg_value.specs.declared.value.Value.TheVariants as value
use Rattle.dg_value.specs.Same.{Layer}
use Rattle.dg_eval.specs.Runs.{Run, gives, fails, failed, mistyped}

-- the most bytes of a text
abbrev pub text_limit : ℕ
text_limit = 4096

-- a part of a value that is there, where the value is of its type
abbrev pub or_mistyped : {A : Type 0} → Option A → Run A
or_mistyped None = mistyped
or_mistyped (Some a) = gives a

abbrev pub text_at : Layer → Option Bytes
text_at (Value-F.Text t) = Some t
text_at other = None

abbrev pub int_at : Layer → Option ℤ
int_at (Value-F.Int n) = Some n
int_at other = None

-- the text that a value is
abbrev pub text_in : Value → Option Bytes
text_in v = text_at (out-Value v)

-- the integer that a value is
abbrev pub int_in : Value → Option ℤ
int_in v = int_at (out-Value v)

abbrev pub field_at : ℕ → Layer → Option Value
field_at k (Value-F.Object class ident fields) = slice_get fields k
field_at k other = None

-- the field of this index of an object
abbrev pub field_in : ℕ → Value → Run Value
field_in k v = or_mistyped (field_at k (out-Value v))

-- the integer of 64 bits that a sum is, or the failure of the body
abbrev pub is_in_range : ℤ → Bool
is_in_range n = not (int_lt n (negsuc 9223372036854775807)) && not (int_lt (pos 9223372036854775807) n)

abbrev pub sum_of : ℕ → ℤ → ℤ → Run Value
sum_of origin a b =
    if is_in_range (a +ℤ b) then gives (value.Int (a +ℤ b)) else failed origin (codes "overflow")

abbrev pub with_two : {A B : Type 0} → Option A → Option A → (A → A → Run B) → Run B
with_two (Some a) (Some b) next = next a b
with_two a b next = mistyped

abbrev pub sum_in : ℕ → Value → Value → Run Value
sum_in origin v w = with_two (int_in v) (int_in w) (sum_of origin)

-- whether the one integer is less
abbrev pub less_in : Value → Value → Run Bool
less_in v w = with_two (int_in v) (int_in w) (λ a b. gives (int_lt a b))

abbrev pub equal_at : Layer → Layer → Run Bool
equal_at (Value-F.Text a) (Value-F.Text b) = gives (bytes_eq a b)
equal_at (Value-F.Int a) (Value-F.Int b) = gives (int_eq a b)
equal_at v w = mistyped

-- whether two texts or two integers are equal
abbrev pub equal_in : Value → Value → Run Bool
equal_in v w = equal_at (out-Value v) (out-Value w)

-- some values, where each is of its type
abbrev pub all_in : {A : Type 0} → (Value → Option A) → List Value → Option (List A)
all_in part [] = Some []
all_in part (v ∷ vs) = both_in (part v) (all_in part vs)
  where
    both_in : {A : Type 0} → Option A → Option (List A) → Option (List A)
    both_in (Some a) (Some more) = Some (a ∷ more)
    both_in a more = None

abbrev pub joined : List Bytes → Bytes
joined [] = []
joined (t ∷ ts) = t ++ joined ts

-- a text that isn't too long
abbrev pub text_within : ℕ → Bytes → Run Value
text_within origin t =
    if nat_lt text_limit (length t) then failed origin (codes "text too long")
    else gives (value.Text t)

abbrev pub cat_of : ℕ → Option (List Bytes) → Run Value
cat_of origin None = mistyped
cat_of origin (Some ts) = text_within origin (joined ts)

-- the texts one behind the other
abbrev pub cat_in : ℕ → List Value → Run Value
cat_in origin vs = cat_of origin (all_in text_in vs)

-- the one argument of a call
abbrev pub only_of : List Value → Option Value
only_of (v ∷ []) = Some v
only_of other = None

abbrev pub decimal_of : Option ℤ → Run Value
decimal_of None = mistyped
decimal_of (Some n) = gives (value.Text (signed_decimal n))

abbrev pub size_at : Layer → Run Value
size_at (Value-F.Text t) = gives (value.Int (pos (length t)))
size_at (Value-F.Set vs) = gives (value.Int (pos (length vs)))
size_at (Value-F.Map es) = gives (value.Int (pos (length es)))
size_at other = mistyped

-- the failure with a text as its message
abbrev pub fail_of : ℕ → Option Bytes → Run Value
fail_of origin None = mistyped
fail_of origin (Some t) = failed origin t

-- ---- outcomes and optionals

abbrev pub kept_at : Layer → Option Kept
kept_at (Value-F.Outcome k) = Some k
kept_at other = None

-- what became of a production
abbrev pub kept_in : Value → Option Kept
kept_in v = kept_at (out-Value v)

abbrev pub value_of_kept : Kept → Run Value
value_of_kept k = at_layer (out-Kept k)
  where
    at_layer : Kept-F Kept Value → Run Value
    at_layer (Kept-F.Value v) = gives v
    at_layer (Kept-F.Failed f) = fails f

abbrev pub with_kept : {A : Type 0} → Value → (Kept → Run A) → Run A
with_kept v next = option_map_or next (kept_in v) mistyped

-- the value of a production, or its failure
abbrev pub value_in : Value → Run Value
value_in v = with_kept v value_of_kept

abbrev pub message_of : Kept → Bytes
message_of k = at_layer (out-Kept k)
  where
    at_layer : Kept-F Kept Value → Bytes
    at_layer (Kept-F.Value v) = []
    at_layer (Kept-F.Failed f) = f.message

-- the message of a production that failed, and no bytes of one that gave a value
abbrev pub failure_in : Value → Run Value
failure_in v = with_kept v (λ k. gives (value.Text (message_of k)))

abbrev pub value_if : Kept → Option Value
value_if k = at_layer (out-Kept k)
  where
    at_layer : Kept-F Kept Value → Option Value
    at_layer (Kept-F.Value v) = Some v
    at_layer (Kept-F.Failed f) = None

abbrev pub is_value : Kept → Bool
is_value k = option_map_or (λ v. true) (value_if k) false

-- whether a production gave a value
abbrev pub is_ok_in : Value → Run Bool
is_ok_in v = with_kept v (λ k. gives (is_value k))

-- the value of an entry that is one
abbrev pub entry_value : Value → Option Value
entry_value v = option_map_or value_if (kept_in v) None

abbrev pub keyed : (MapKeyVal × Value) → Option (MapKeyVal × Value)
keyed e = option_map (λ v. (e.0, v)) (entry_value e.1)

abbrev pub inside_at : Layer → Option (Option Value)
inside_at (Value-F.Opt o) = Some o
inside_at other = None

-- what is inside an optional, if it is present
abbrev pub inside_in : Value → Option (Option Value)
inside_in v = inside_at (out-Value v)

-- whether an optional is present
abbrev pub has_in : Value → Run Bool
has_in v = option_map_or present (inside_in v) mistyped
  where
    present : Option Value → Run Bool
    present o = gives (option_map_or (λ w. true) o false)

-- ---- sets and maps

abbrev pub elements_at : Layer → Option (List Value)
elements_at (Value-F.Set vs) = Some vs
elements_at other = None

-- the elements of a set
abbrev pub elements_in : Value → Run (List Value)
elements_in v = or_mistyped (elements_at (out-Value v))

-- the value of a map's entry with this key
abbrev pub entry_of : MapKeyVal → List (MapKeyVal × Value) → Option Value
entry_of k es = option_map (λ e. e.1) (find (λ e. same_map_key e.0 k) es)
