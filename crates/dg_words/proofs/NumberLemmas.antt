-- What the parse of a word tells of the number that it is.
use Rattle.std.proofs.Common.{◌≡◌, ℕ, ◌<◌, ◌^◌, List, Result, Ok, arith}
use Rattle.std.specs.Str.Parse.{ParsesUnsigned}
use Rattle.std.proofs.lemmas.Fmt.{parse-decimal}
use Rattle.dg_words.specs.Words.{IsNumber}

pub number_read : {E : Type 0} (limit n : ℕ) (word : List ℕ) (read : Result ℕ E) → limit < 2 ^ 32 → IsNumber limit word n → ParsesUnsigned 32 10 word read → read ≡ Ok n
number_read limit n word read small is parsed = parse-decimal 32 n word read (omega (arith, is.within)) (omega (arith, is.within)) is.digits parsed
