use Rattle.std.proofs.Common.{◌≡◌, ◌+◌, length, codes}
use Rattle.std.specs.List.{prefix_len}
use Rattle.dg_lex.specs.Lexemes.{lexemes}
use Rattle.dg_lex.specs.declared.token.TokenKind.TheVariants as kind
use Rattle.dg_decl.specs.Readers.{is_spelled}
use Rattle.dg_reader.proofs.lexemes.opens.Given as goal

-- those so far, and those that still come, are all
abbrev pub invariant-loop-rest : goal.invariant-loop-rest
invariant-loop-rest l = record {
  all : l.count + prefix_len (is_spelled kind.Sign (codes "(")) (lexemes l.line l.rest)
      ≡ prefix_len (is_spelled kind.Sign (codes "(")) (lexemes l.line l.tokens);
  within : l.count + length l.rest ≡ length l.tokens;
}

abbrev pub decreases-loop-rest : goal.decreases-loop-rest
decreases-loop-rest l = length l.rest
