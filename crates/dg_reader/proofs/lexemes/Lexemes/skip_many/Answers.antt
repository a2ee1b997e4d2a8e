use Rattle.std.proofs.Common.{List, drop, map, sym, ap, ◌∙◌}
use Rattle.std.proofs.lemmas.List.{drop-map}
use Rattle.dg_lex.specs.declared.token.Token.{Token}
use Rattle.dg_lex.specs.Lexemes.{lexeme_of}
use Rattle.dg_reader.proofs.lexemes.Lexemes.skip_many.Goals as goal

pub returns : goal.returns
returns c = record {
  exact = ap (λ (ts : List Token). map (lexeme_of c.self.inside.line.now) ts)
      c.tokens_behind-self-inside.ensures.exact
      ∙ sym (drop-map (lexeme_of c.self.inside.line.now) c.args.count c.self.inside.tokens.now)
      ∙ ap (drop c.args.count) c.self.view_is;
}
