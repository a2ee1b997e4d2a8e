-- A text to which tokens are appended, each with the space before it.
use Rattle.std.specs.Prelude.{Bool, true, false, not, ◌&&◌, if◌then◌else◌, List, [], ◌∷◌, ◌++◌, map, Option, codes}
use Rattle.std.specs.Str.{bytes_eq}
use Rattle.dg_types.specs.declared.shape.Shape.{Shape}
use Rattle.dg_types.specs.declared.shape.TypeUse.{TypeUse}
use Rattle.dg_lex.specs.Bytes.{Bytes, is_among}
use Rattle.dg_lex.specs.Lexemes.{Lexeme}
use Rattle.dg_decl.specs.declared.expression.Expr.{Expr}
use Rattle.dg_decl.specs.declared.expression.Cond.{Cond}
use Rattle.dg_decl.specs.declared.expression.Tree.{Tree}
use Rattle.dg_decl.specs.declared.item.Mark.{Mark}
use Rattle.dg_decl.specs.declared.item.Param.{Param}
use Rattle.dg_decl.specs.declared.item.OpenArg.{OpenArg}
use Rattle.dg_decl.specs.declared.item.AskStep.{AskStep}
use Rattle.dg_decl.specs.Canonical.{Printed, all_apart, close, type_tokens, param_tokens, params_tokens, result_tokens, mark_tokens, scope_tokens, keyword_tokens, open_arg_tokens, step_tokens}
use Rattle.dg_decl.specs.Written.{Level, Prim, Chain, Whole, name_token, in_parens, written_type, written, written_condition, written_tree}
use Rattle.dg_printer.specs.declared.line.After.{After}
use Rattle.dg_printer.specs.declared.line.After.TheVariants as after

-- what a token of this spelling is to the space behind it
abbrev pub after_of : Bytes → After
after_of s =
    if bytes_eq s (codes ",") then after.Comma
    else (if is_among s (codes "(" ∷ codes "[" ∷ codes "." ∷ []) then after.Opening else
    after.Other)

-- a token of this spelling may have a space before it
abbrev pub is_spaced : Bytes → Bool
is_spaced s = not (is_among s (codes ")" ∷ codes "]" ∷ codes "," ∷ codes "." ∷ codes "!"
    ∷ codes "?" ∷ codes "(" ∷ codes "[" ∷ []))

-- a space stands between the two
abbrev pub wants_space : After → Bytes → Bool
wants_space after.Start next = false
wants_space after.Comma next = true
wants_space after.Opening next = false
wants_space after.Other next = is_spaced next

-- a text, and what the next token stands behind
pub record Output : Type 0 where
  pub text : Bytes
  pub after : After

abbrev pub space_where : Bool → Bytes
space_where true = 32 ∷ []
space_where false = []

-- a token and the space before it behind the text; the `Bool`: it stands right behind the one
-- before it, whichever that is
unfoldable pub with_token : Output → Bool → Bytes → Output
with_token l close s = record {
  text = l.text ++ (space_where (not close && wants_space l.after s) ++ s);
  after = after_of s;
}

-- tokens behind the text, one after another
abbrev pub pushed : Output → List Printed → Output
pushed l [] = l
pushed l (p ∷ ps) = pushed (with_token l p.close p.token.spelling) ps

abbrev pub spelled : Output → List Lexeme → Output
spelled l tokens = pushed l (all_apart tokens)

-- further members behind a text, each with a comma before it
abbrev pub with_others : {A : Type 0} → (Output → A → Output) → Output → List A → Output
with_others f l [] = l
with_others f l (x ∷ xs) = with_others f (f (with_token l false (codes ",")) x) xs

-- members behind a text, with commas between
abbrev pub with_list : {A : Type 0} → (Output → A → Output) → Output → List A → Output
with_list f l [] = l
with_list f l (x ∷ xs) = with_others f (f l x) xs

-- members behind a text, one after another
abbrev pub with_all : {A : Type 0} → (Output → A → Output) → Output → List A → Output
with_all f l [] = l
with_all f l (x ∷ xs) = with_all f (f l x) xs

abbrev pub with_expression : Output → Expr → Output
with_expression l e = spelled l (written e).tokens

abbrev pub with_condition : Output → Cond → Output
with_condition l c = spelled l (written_condition c).tokens

abbrev pub with_tree : Output → Tree → Output
with_tree l t = spelled l (written_tree t).tokens

abbrev pub with_param : Output → Param → Output
with_param l p = pushed l (param_tokens p)

abbrev pub with_name : Output → Bytes → Output
with_name l n = with_token l false n

abbrev pub with_argument : Output → OpenArg → Output
with_argument l a = spelled l (open_arg_tokens a)

abbrev pub with_step : Output → AskStep → Output
with_step l s = spelled l (step_tokens s)

abbrev pub with_scope : Output → Bytes → Output
with_scope l s = with_token l false (64 ∷ s)

-- a type's tokens; the `Bool`: the first, too, stands right behind the token before it
abbrev pub type_printed : Bool → List Lexeme → List Printed
type_printed true tokens = map close tokens
type_printed false tokens = type_tokens tokens

-- a type; the `Bool`: it stands right behind the token before it
abbrev pub with_type : Output → Bool → Shape → Output
with_type l first t = pushed l (type_printed first (written_type t).tokens)

-- a constructor's name and `<`
abbrev pub with_constructor : Output → Bool → Bytes → Output
with_constructor l first n = with_token (with_token l first n) true (codes "<")

-- a function's name and a parameter's in parentheses
abbrev pub with_by_name : Output → Bytes → Bytes → Output
with_by_name l f p = spelled l (name_token f ∷ in_parens (name_token p ∷ []))

-- what the line of a member with parameters begins with
abbrev pub with_head : Output → Option Mark → Option Bytes → Bytes → Bytes → List Param → TypeUse
    → Output
with_head l m s w n ps t =
    pushed (pushed (spelled (spelled (spelled l (mark_tokens m)) (scope_tokens s)) (keyword_tokens w
    n)) (params_tokens ps)) (result_tokens t)

-- a keyword, a name and `: USE`
abbrev pub with_typed : Output → Bytes → Bytes → TypeUse → Output
with_typed l w n t = pushed (spelled l (keyword_tokens w n)) (result_tokens t)

-- an expression of this level needs no parentheses as the base of a field or to the right of `+`
abbrev pub is_tight : Level → Bool
is_tight Prim = true
is_tight Chain = false
is_tight Whole = false

-- an expression of this level needs no parentheses as an operand or as a leaf
abbrev pub is_loose : Level → Bool
is_loose Prim = true
is_loose Chain = true
is_loose Whole = false
