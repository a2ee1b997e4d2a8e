-- Whether a type is found in another, as it is built from what is found in its parts.
use Rattle.std.proofs.Common.{◌≡◌, ◌&&◌, ◌||◌, Option, Some, None, is_some, refl}
use Rattle.std.specs.Option.{option_map}
use Rattle.dg_types.specs.declared.key.MapKind.{MapKind}
use Rattle.dg_types.specs.Requests.{Held, Asked, map_of, first_of_two}

pub found_by : {A B : Type 0} (f : A → B) (o : Option A) → is_some (option_map f o) ≡ is_some o
found_by f None = refl
found_by f (Some x) = refl

pub found_map : (k : Option MapKind) (held : Option Held)
    → is_some (map_of k held) ≡ (is_some k && is_some held)
found_map None held = refl
found_map (Some k) None = refl
found_map (Some k) (Some h) = refl

pub found_first : (a b : Option Asked) → is_some (first_of_two a b) ≡ (is_some a || is_some b)
found_first None b = refl
found_first (Some a) b = refl

pub ruleset found_types = (found_by, found_map, found_first)
