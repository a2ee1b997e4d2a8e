-- Why a line has no tokens.
use Rattle.std.specs.Prelude.{◌≡◌, ◌≢◌, ℕ, List, [], Result, Ok, Err}
use Rattle.std.specs.Global.{Vec}
use Rattle.dg_lex.specs.declared.token.Token.{Token}
use Rattle.dg_lex.specs.declared.token.LexFault.{LexFault}
use Rattle.dg_lex.specs.declared.token.LexFault.TheVariants.{Bad, NoMemory}

-- Bad names the byte that the definition names. Memory can lack only where the line isn't blank.
abbrev pub HasNoTokens : Result (List Token) ℕ → Result (Vec Token) LexFault → Type 0
HasNoTokens tokens (Ok found) = Unit {0}
HasNoTokens tokens (Err (Bad at)) = tokens ≡ Err at
HasNoTokens tokens (Err NoMemory) = tokens ≢ Ok []
