use Rattle.std.proofs.Common.{◌≡◌, false, length}
use Rattle.dg_lex.specs.Lexemes.{lexemes}
use Rattle.dg_decl.specs.Forms.{form_word}
use Rattle.dg_reader.proofs.lexemes.form_word.Given as goal

-- the tokens that are left decide
abbrev pub invariant-loop-rest : goal.invariant-loop-rest
invariant-loop-rest l = form_word l.inside (lexemes l.line l.rest) ≡ form_word false (lexemes l.line
    l.tokens)

abbrev pub decreases-loop-rest : goal.decreases-loop-rest
decreases-loop-rest l = length l.rest
