-- What is appended for a type, from what is appended for its parts; and for a list of parameters.
use Rattle.std.proofs.Common.{◌≡◌, Bool, true, false, List, [], ◌∷◌, ◌++◌, map, refl, ap, ◌∙◌}
use Rattle.std.specs.Prelude.{codes}
use Rattle.std.proofs.lemmas.List.{map-append}
use Rattle.dg_types.specs.declared.shape.Shape.{Shape}
use Rattle.dg_types.specs.declared.shape.Shape.TheVariants as shape
use Rattle.dg_types.specs.declared.shape.TypeUse.{TypeUse}
use Rattle.dg_lex.specs.Bytes.{Bytes}
use Rattle.dg_lex.specs.Lexemes.{Lexeme}
use Rattle.dg_decl.specs.declared.item.Param.{Param}
use Rattle.dg_decl.specs.Canonical.{apart, all_apart, close, type_tokens, qualifier_tokens, use_tokens, param_tokens, params_tokens}
use Rattle.dg_decl.specs.Written.{separated, more_separated, sign_token, constructor_of, written_type}
use Rattle.dg_decl.proofs.WrittenEquations.{written_type-Text, written_type-Int, written_type-Named, written_type-Set, written_type-Map, written_type-Optional, written_type-Provider, written_type-Lazy, written_type-Producer, written_type-Produced}
use Rattle.dg_printer.specs.Output.{Output, with_token, pushed, spelled, with_others, with_list, with_param, type_printed, with_type, with_constructor}
use Rattle.dg_printer.proofs.Appending.{pushed-append}

-- tokens right behind the text
closed : Output → List Lexeme → Output
closed l ts = pushed l (map close ts)

closed-append : (l : Output) (xs ys : List Lexeme) → pushed l (map close (xs ++ ys))
    ≡ pushed (pushed l (map close xs)) (map close ys)
closed-append l xs ys = ap (pushed l) (map-append close xs ys)
    ∙ pushed-append l (map close xs) (map close ys)

constructor_line : (l : Output) (first : Bool) (n : Bytes) (parts : List Lexeme)
    → pushed l (type_printed first (constructor_of n parts))
    ≡ with_token (pushed (with_constructor l first n) (map close parts)) true (codes ">")
constructor_line l true n parts = closed-append (with_constructor l true n) parts
    (sign_token (codes ">") ∷ [])
constructor_line l false n parts = closed-append (with_constructor l false n) parts
    (sign_token (codes ">") ∷ [])

-- a constructor of one type
abbrev pub with_one : Output → Bool → Bytes → Shape → Output
with_one l first n t = with_token (with_type (with_constructor l first n) true t) true (codes ">")

pub type-Text : (l : Output) (first : Bool) → with_type l first shape.Text
    ≡ with_token l first (codes "Text")
type-Text l true = rw written_type-Text refl
type-Text l false = rw written_type-Text refl

pub type-Int : (l : Output) (first : Bool) → with_type l first shape.Int
    ≡ with_token l first (codes "Int")
type-Int l true = rw written_type-Int refl
type-Int l false = rw written_type-Int refl

pub type-Named : (l : Output) (first : Bool) (n : Bytes) → with_type l first (shape.Named n)
    ≡ with_token l first n
type-Named l true n = rw written_type-Named refl
type-Named l false n = rw written_type-Named refl

pub type-Set : (l : Output) (first : Bool) (t : Shape) → with_type l first (shape.Set t)
    ≡ with_one l first (codes "Set") t
type-Set l first t = rw written_type-Set (constructor_line l first (codes "Set")
    (written_type t).tokens)

pub type-Map : (l : Output) (first : Bool) (k v : Shape) → with_type l first (shape.Map k v)
    ≡ with_token (with_type (with_token (with_type (with_constructor l first (codes "Map")) true k)
    true (codes ",")) true v) true (codes ">")
type-Map l first k v =
    rw written_type-Map (constructor_line l first (codes "Map")
    ((written_type k).tokens ++ (sign_token (codes ",") ∷ (written_type v).tokens)))
    ∙ ap (λ x. with_token x true (codes ">")) (closed-append
    (with_constructor l first (codes "Map")) (written_type k).tokens
    (sign_token (codes ",") ∷ (written_type v).tokens))

pub type-Optional : (l : Output) (first : Bool) (t : Shape)
    → with_type l first (shape.Optional t) ≡ with_one l first (codes "Optional") t
type-Optional l first t = rw written_type-Optional (constructor_line l first (codes "Optional")
    (written_type t).tokens)

pub type-Provider : (l : Output) (first : Bool) (t : Shape)
    → with_type l first (shape.Provider t) ≡ with_one l first (codes "Provider") t
type-Provider l first t = rw written_type-Provider (constructor_line l first (codes "Provider")
    (written_type t).tokens)

pub type-Lazy : (l : Output) (first : Bool) (t : Shape) → with_type l first (shape.Lazy t)
    ≡ with_one l first (codes "Lazy") t
type-Lazy l first t = rw written_type-Lazy (constructor_line l first (codes "Lazy")
    (written_type t).tokens)

pub type-Producer : (l : Output) (first : Bool) (t : Shape)
    → with_type l first (shape.Producer t) ≡ with_one l first (codes "Producer") t
type-Producer l first t = rw written_type-Producer (constructor_line l first (codes "Producer")
    (written_type t).tokens)

pub type-Produced : (l : Output) (first : Bool) (t : Shape)
    → with_type l first (shape.Produced t) ≡ with_one l first (codes "Produced") t
type-Produced l first t = rw written_type-Produced (constructor_line l first (codes "Produced")
    (written_type t).tokens)

pub ruleset type_lines = (
  type-Text,
  type-Int,
  type-Named,
  type-Set,
  type-Map,
  type-Optional,
  type-Provider,
  type-Lazy,
  type-Producer,
  type-Produced,
)

pub use_line : (l : Output) (u : TypeUse) → pushed l (use_tokens u)
    ≡ with_type (spelled l (qualifier_tokens u.qualifier)) false u.shape
use_line l u = pushed-append l (all_apart (qualifier_tokens u.qualifier))
    (type_tokens (written_type u.shape).tokens)

-- ---- parameters

more_params : (l : Output) (ps : List Param)
    → pushed l (more_separated (apart (sign_token (codes ","))) (map param_tokens ps))
    ≡ with_others with_param l ps
more_params l [] = refl
more_params l (p ∷ ps) =
    pushed-append (with_token l false (codes ",")) (param_tokens p)
    (more_separated (apart (sign_token (codes ","))) (map param_tokens ps))
    ∙ more_params (with_param (with_token l false (codes ",")) p) ps

param_list : (l : Output) (ps : List Param)
    → pushed l (separated (apart (sign_token (codes ","))) (map param_tokens ps))
    ≡ with_list with_param l ps
param_list l [] = refl
param_list l (p ∷ ps) =
    pushed-append l (param_tokens p) (more_separated (apart (sign_token (codes ",")))
    (map param_tokens ps))
    ∙ more_params (with_param l p) ps

pub params_line : (l : Output) (ps : List Param)
    → pushed l (params_tokens ps) ≡ with_token (with_list with_param
    (with_token l false (codes "(")) ps) false (codes ")")
params_line l ps =
    pushed-append (with_token l false (codes "(")) (separated (apart (sign_token (codes ",")))
    (map param_tokens ps)) (apart (sign_token (codes ")")) ∷ [])
    ∙ ap (λ x. with_token x false (codes ")")) (param_list (with_token l false (codes "(")) ps)
