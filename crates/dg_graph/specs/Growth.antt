-- A list to which elements are added that it doesn't have.
use Rattle.std.specs.Prelude.{◌≡◌, List, ◌++◌, Contains}

-- some of these elements are added behind the others, so that all of them are in the list
pub record Grows {A : Type 0} (more old new : List A) : Type 0 where
  pub added : List A
  pub whole : new ≡ old ++ added
  pub only : (x : A) → Contains added x → Contains more x
  pub all : (x : A) → Contains more x → Contains new x
