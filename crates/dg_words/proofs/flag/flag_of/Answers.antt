use Rattle.std.proofs.Common.{refl}
use Rattle.dg_words.specs.Words.{Workers, Generate}
use Rattle.dg_words.proofs.flag.flag_of.Goals as goal

pub returns-in-text : goal.returns-in-text
returns-in-text c =
    let number = c.if-is_number.ensures.exact.0 refl in
    record { exact = (Workers number.0, refl, (c.in-text.is, number.1)) }

pub returns-in-text-2 : goal.returns-in-text-2
returns-in-text-2 c =
    let number = c.if-is_number-2.ensures.exact.0 refl in
    record { exact = (Generate number.0, refl, (c.in-text-2.is, number.1)) }
