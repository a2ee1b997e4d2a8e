-- Each item that was read has names, lists and parts such as the grammar has.
use Rattle.std.proofs.Common.{ℕ, zero, suc, ◌≡◌, Bool, true, false, List, [], ◌∷◌, drop, Option, Some, None, refl, ap, subst, ◌∙◌, arith}
use Rattle.std.specs.Prelude.{if◌then◌else◌, codes}
use Rattle.std.specs.Str.{bytes_eq}
use denote.Enum.Bare.{same_true}
use Rattle.dg_types.specs.declared.key.MapKeyVal.TheVariants as map_key
use Rattle.dg_types.specs.declared.shape.TypeUse.{TypeUse}
use Rattle.dg_lex.specs.contracts.token.TokenKind.{the_type}
use Rattle.dg_lex.specs.declared.token.TokenKind.{TokenKind}
use Rattle.dg_lex.specs.declared.token.TokenKind.TheVariants as kind
use Rattle.dg_lex.specs.Bytes.{Bytes}
use Rattle.dg_lex.specs.Lexemes.{Lexeme}
use Rattle.dg_decl.specs.declared.item.Item.{Item}
use Rattle.dg_decl.specs.declared.item.Item.TheVariants as item
use Rattle.dg_decl.specs.declared.item.Mark.{Mark}
use Rattle.dg_decl.specs.declared.item.Mark.TheVariants as mark
use Rattle.dg_decl.specs.declared.item.Param.{Param}
use Rattle.dg_decl.specs.declared.item.AskStep.{AskStep}
use Rattle.dg_decl.specs.declared.item.AskStep.TheVariants as step
use Rattle.dg_decl.specs.Readers.{Reader, then_reads, ◌>>=◌, ◌>>◌, pure, nothing, keyword, sign, comes, comes_kind, is_of_kind, spelled, at_end, name, at_name, enclosed, list_limit}
use Rattle.dg_decl.specs.TypeForms.{param}
use Rattle.dg_decl.specs.Forms.{scope, map_key_mark, mark_form, is_elements, qualifier_line, scope_line, interface_line, class_behind, class_line, module_line, test_module_line, component_line, define_component_line, entry_point_line, provides_line, binds_behind, binds_line, produces_line, use_line, optional_of_line, multibinds_line, binds_instance_line, entry_line, depends_on_line, end_line, open_arg, open_args, open_line, link_line, map_key_form, at_key, ask_step, ask_steps, ask_line, form_word, outside_line, line_with, item_line}
use Rattle.dg_decl.specs.Written.{at_token}
use Rattle.dg_printer.proofs.BackKinds.{AllKinds, at_spelled}
use Rattle.dg_printer.proofs.BackForms.{FitUse, FitParam, FitParams, FitKey, is_mark, FitMark, FitArg, FitStep}
use Rattle.dg_printer.proofs.BackTokens.{IsName, FitFront, FitInject, FitMember, FitItem}
use Rattle.dg_printer.proofs.BackKeeps.{IfReads, Keeps, bind_at, bind, given, choose, by_test, weaker, name_keeps, at_name_keeps, text_keeps, integer_keeps, taken_keeps, eaten_keeps, at_end_keeps, behind, last, UpTo, up_to, list_keeps, enclosed_keeps, names_keep, optional_names_keep, optional_keeps, at_kind_of, at_names_keep, use_keeps, param_keeps, params_keep, scope_keeps, key_keeps}
use Rattle.dg_printer.proofs.BackReads.{constant_keeps, body_keeps, tree_body_keeps, then_keeps}

-- ---- marks and scopes

-- the mark that was read is one of what is left, and tokens are left
abbrev IfMark : Option (Option Mark × List Lexeme) → Type 0
IfMark None = Unit {0}
IfMark (Some p) = FitMark p.0 p.1 × AllKinds p.1

fit_mark_with : (m : Option Mark) (ls ms : List Lexeme) → (is_mark ls ≡ false → is_mark ms ≡ false)
    → FitMark m ls → FitMark m ms
fit_mark_with None ls ms h f = h f
fit_mark_with (Some mark.IntoSet) ls ms h f = tt
fit_mark_with (Some mark.ElementsIntoSet) ls ms h f = tt
fit_mark_with (Some (mark.IntoMap k)) ls ms h f = f

abbrev IsAnyMark : Option Mark → Type 0
IsAnyMark m = (ls : List Lexeme) → FitMark m ls

to_mark : (x : Option (Option Mark × List Lexeme)) → IfReads IsAnyMark x → IfMark x
to_mark None is = tt
to_mark (Some p) is = (is.0 p.1, is.1)

set_mark : Keeps IsAnyMark (at_name >> pure (Some mark.IntoSet))
set_mark = then_keeps at_name_keeps (given (Some mark.IntoSet) (λ ls. tt))

elements_mark : Keeps IsAnyMark (at_name >> pure (Some mark.ElementsIntoSet))
elements_mark = then_keeps at_name_keeps (given (Some mark.ElementsIntoSet) (λ ls. tt))

map_mark : Keeps IsAnyMark (at_name >> map_key_mark >>= (λ k. pure (Some (mark.IntoMap k))))
map_mark = bind (λ k. pure (Some (mark.IntoMap k))) (then_keeps at_name_keeps key_keeps)
    (λ k f. given (Some (mark.IntoMap k)) (λ ls. f))

marks_at : (ls : List Lexeme) (a b c : Bool) → comes kind.AtName (codes "@IntoSet") ls ≡ a
    → comes kind.AtName (codes "@ElementsIntoSet") ls ≡ b → comes kind.AtName (codes "@IntoMap") ls
    ≡ c → AllKinds ls
    → IfMark (if a then (at_name >> pure (Some mark.IntoSet)) ls
    else (if b then (at_name >> pure (Some mark.ElementsIntoSet)) ls
    else (if c then (at_name >> map_key_mark >>= (λ k. pure (Some (mark.IntoMap k)))) ls
    else Some (None, ls))))
marks_at ls true b c ea eb ec kinds = to_mark ((at_name >> pure (Some mark.IntoSet)) ls)
    (set_mark.at ls kinds)
marks_at ls false true c ea eb ec kinds = to_mark ((at_name >> pure (Some mark.ElementsIntoSet)) ls)
    (elements_mark.at ls kinds)
marks_at ls false false true ea eb ec kinds = to_mark
    ((at_name >> map_key_mark >>= (λ k. pure (Some (mark.IntoMap k)))) ls) (map_mark.at ls kinds)
marks_at ls false false false ea eb ec kinds = (rw (ea, eb, ec) refl, kinds)

marks_read : (ls : List Lexeme) → AllKinds ls → IfMark (mark_form ls)
unfolding mark_form
marks_read ls kinds = marks_at ls (comes kind.AtName (codes "@IntoSet") ls)
    (comes kind.AtName (codes "@ElementsIntoSet") ls)
    (comes kind.AtName (codes "@IntoMap") ls) refl refl refl kinds

mark_bind_at : {B : Type 0} (Q : B → Type 0) (x : Option (Option Mark × List Lexeme))
    (f : Option Mark → Reader B) → IfMark x → ((m : Option Mark) (ls : List Lexeme) → FitMark m ls
    → AllKinds ls → IfReads Q (f m ls)) → IfReads Q (then_reads x f)
mark_bind_at Q None f is more = tt
mark_bind_at Q (Some p) f is more = more p.0 p.1 is.0 is.1

mark_bind : {B : Type 0} {Q : B → Type 0} (f : Option Mark → Reader B)
    → ((m : Option Mark) (ls : List Lexeme) → FitMark m ls → AllKinds ls → IfReads Q (f m ls))
    → Keeps Q (mark_form >>= f)
mark_bind {Q = Q} f more = record {
  at = λ ls kinds. mark_bind_at Q (mark_form ls) f
      (marks_read ls kinds) more;
}

-- no scope behind a mark
no_scope : (m : Option Mark) (ls : List Lexeme) → FitMark m ls → FitFront m None
unfolding comes
no_scope m ls f = record { mark = fit_mark_with m ls [] (λ h. refl) f; scope = tt }

at_lexeme : (l : Lexeme) → l.kind ≡ kind.AtName → l.spelling ≡ 64 ∷ drop 1 l.spelling → l ≡ at_token
    (drop 1 l.spelling)
at_lexeme l e s = ap (λ (k : TokenKind). record { kind = k; spelling = l.spelling }) e ∙ ap
    (λ (z : Bytes). record { kind = kind.AtName; spelling = z }) s

mark_same : (l m : Lexeme) (ls : List Lexeme) → l ≡ m → is_mark (l ∷ ls) ≡ false → is_mark (m ∷ [])
    ≡ false
unfolding comes
mark_same l m ls same h = subst (λ (x : Lexeme). is_mark (x ∷ []) ≡ false) same h

scope_front_at : (m : Option Mark) (l : Lexeme) (ls : List Lexeme) (v : Bool)
    → is_of_kind kind.AtName l ≡ v → FitMark m (l ∷ ls) → AllKinds (l ∷ ls) → IfReads
    (λ s. FitFront m s) (scope (l ∷ ls))
unfolding scope at_name spelled comes_kind
scope_front_at m l ls true e f kinds =
    let k : l.kind ≡ kind.AtName = same_true the_type tt l.kind kind.AtName e in
    let spelled_so : l.spelling ≡ 64 ∷ drop 1 l.spelling = at_spelled l.spelling
    (kinds.0 ∙ ap (λ (j : TokenKind). Some j) k) in
    rw e (
      record {
        mark = fit_mark_with m (l ∷ ls) (at_token (drop 1 l.spelling) ∷ [])
            (mark_same l (at_token (drop 1 l.spelling)) ls (at_lexeme l k spelled_so)) f;
        scope = at_kind_of l e kinds.0;
      },
      kinds.1,
    )
scope_front_at m l ls false e f kinds = rw e (no_scope m (l ∷ ls) f, kinds)

scope_front : (m : Option Mark) (ls : List Lexeme) → FitMark m ls → AllKinds ls → IfReads
    (λ s. FitFront m s) (scope ls)
unfolding scope comes_kind
scope_front m [] f kinds = (no_scope m [] f, tt)
scope_front m (l ∷ ls) f kinds = scope_front_at m l ls (is_of_kind kind.AtName l) refl f kinds

-- reads a scope behind a mark, and goes on
scope_bind : {B : Type 0} (Q : B → Type 0) (m : Option Mark) (ls : List Lexeme)
    (g : Option Bytes → Reader B) → FitMark m ls → AllKinds ls
    → ((s : Option Bytes) → FitFront m s → Keeps Q (g s)) → IfReads Q ((scope >>= g) ls)
scope_bind Q m ls g f kinds more = bind_at (λ s. FitFront m s) Q (scope ls) g
    (scope_front m ls f kinds) more

-- ---- lines of blocks

fit_member : (n : Bytes) (ps : List Param) (t : TypeUse) → IsName n → FitParams ps → FitUse t
    → FitMember n ps t
fit_member n ps t is fp ft = record { name = is; params = fp; result = ft }

one_param : (p : Param) → FitParam p → FitParams (p ∷ [])
one_param p f = record { short = omega arith; all = (f, tt) }

provides_fits : Keeps FitItem provides_line
unfolding provides_line
provides_fits =
    mark_bind _ (λ m ls fm kinds. scope_bind FitItem m ls _ fm kinds (λ s front.
    behind kind.Name (codes "provides") (bind _ name_keeps
    (λ n is. bind _ params_keep (λ ps fp. behind kind.Sign (codes ":")
    (bind _ use_keeps (λ t ft. behind kind.Sign (codes "=") (bind _ body_keeps (λ e fe.
    last (item.Provides m s n ps t e) (
      front,
      fit_member n ps t is fp ft,
      fe.fits,
      fe.nests,
    ))))))))))

binds_behind_fits : (m : Option Mark) (ls : List Lexeme) → is_elements m ≡ false → FitMark m ls
    → AllKinds ls → IfReads FitItem (binds_behind m ls)
unfolding binds_behind
binds_behind_fits m ls plain fm kinds =
    scope_bind FitItem m ls _ fm kinds (λ s front.
    behind kind.Name (codes "binds") (bind _ name_keeps
    (λ n is. bind _ (enclosed_keeps param param_keeps)
    (λ p fp. behind kind.Sign (codes ":") (bind _ use_keeps (λ t ft.
    last (item.Binds m s n p t) (front, fit_member n (p ∷ []) t is (one_param p fp) ft, plain)))))))

binds_at : (m : Option Mark) (ls : List Lexeme) (v : Bool) → is_elements m ≡ v → FitMark m ls
    → AllKinds ls → IfReads FitItem ((if v then nothing {A = Item} else binds_behind m) ls)
binds_at m ls true e fm kinds = tt
binds_at m ls false e fm kinds = binds_behind_fits m ls e fm kinds

binds_fits : Keeps FitItem binds_line
unfolding binds_line
binds_fits = mark_bind _ (λ m ls fm kinds. binds_at m ls (is_elements m) refl fm kinds)

produces_fits : Keeps FitItem produces_line
unfolding produces_line
produces_fits =
    mark_bind _ (λ m ls fm kinds. (
    behind kind.Name (codes "produces") (bind _ name_keeps
    (λ n is. bind _ params_keep (λ ps fp. behind kind.Sign (codes ":")
    (bind _ use_keeps (λ t ft. behind kind.Sign (codes "=") (bind _ tree_body_keeps (λ b fb.
    last (item.Produces m n ps t b) (
      no_scope m ls fm,
      fit_member n ps t is fp ft,
      fb.fits,
      fb.nests,
    ))))))))).at ls kinds)

use_line_fits : (w : Bytes) (make : Bytes → TypeUse → Item)
    → ((n : Bytes) (t : TypeUse) → IsName n → FitUse t → FitItem (make n t)) → Keeps FitItem
    (use_line w make)
unfolding use_line
use_line_fits w make fit = behind kind.Name w
    (bind _ name_keeps (λ n is. behind kind.Sign (codes ":")
    (bind _ use_keeps (λ t ft. last (make n t) (fit n t is ft)))))

optional_of_fits : Keeps FitItem optional_of_line
unfolding optional_of_line
optional_of_fits = use_line_fits (codes "bindsOptionalOf") (λ n t. item.OptionalOf n t)
    (λ n t is ft. (is, ft))

multibinds_fits : Keeps FitItem multibinds_line
unfolding multibinds_line
multibinds_fits = use_line_fits (codes "multibinds") (λ n t. item.Multibinds n t)
    (λ n t is ft. (is, ft))

binds_instance_fits : Keeps FitItem binds_instance_line
unfolding binds_instance_line
binds_instance_fits = use_line_fits (codes "bindsInstance") (λ n t. item.BindsInstance n t)
    (λ n t is ft. (is, ft))

entry_fits : Keeps FitItem entry_line
unfolding entry_line
entry_fits = use_line_fits (codes "entry") (λ n t. item.Entry n t) (λ n t is ft. (is, ft))

depends_on_fits : Keeps FitItem depends_on_line
unfolding depends_on_line
depends_on_fits = behind kind.Name (codes "dependsOn")
    (bind _ name_keeps (λ n is. last (item.DependsOn n) is))

end_fits : Keeps FitItem end_line
unfolding end_line
end_fits = behind kind.Sign (codes "}") (last item.End tt)

-- ---- lines outside blocks

text_member : (n : Bytes) → IsName n → Keeps FitItem
    (keyword (codes "Text") >> sign (codes ")") >> at_end >> pure (item.QualifierLine n true))
text_member n is = then_keeps (then_keeps (then_keeps (taken_keeps kind.Name (codes "Text"))
    (taken_keeps kind.Sign (codes ")"))) at_end_keeps) (given (item.QualifierLine n true) is)

qualifier_fits : Keeps FitItem qualifier_line
unfolding qualifier_line
qualifier_fits =
    behind kind.Name (codes "qualifier") (bind _ name_keeps
    (λ n is. bind _ (eaten_keeps kind.Sign (codes "("))
    (λ member any. choose member _ _ (text_member n is)
    (last (item.QualifierLine n false) is))))

scope_fits : Keeps FitItem scope_line
unfolding scope_line
scope_fits = behind kind.Name (codes "scope")
    (bind _ name_keeps (λ n is. last (item.ScopeLine n) is))

interface_fits : Keeps FitItem interface_line
unfolding interface_line
interface_fits = behind kind.Name (codes "interface")
    (bind _ name_keeps (λ n is. last (item.Interface n) is))

class_behind_fits : (inject : Bool) (s : Option Bytes) → FitInject inject s → Keeps FitItem
    (class_behind inject s)
unfolding class_behind
class_behind_fits inject s f =
    behind kind.Name (codes "class") (bind _ name_keeps
    (λ n is. bind _ params_keep (λ ps fp. bind _ (optional_names_keep kind.Sign (codes ":"))
    (λ ns fn.
    last (item.Class inject s n ps ns) (f, is, fp, fn)))))

class_fits : Keeps FitItem class_line
unfolding class_line
class_fits =
    bind _ (eaten_keeps kind.AtName (codes "@Inject"))
    (λ inject any. choose inject _ _ (bind _ scope_keeps (λ s fs. class_behind_fits true s fs))
    (class_behind_fits false None tt))

module_fits : Keeps FitItem module_line
unfolding module_line
module_fits =
    bind _ (optional_keeps kind.AtName (codes "@InstallIn") (enclosed name)
    (enclosed_keeps name name_keeps)) (λ install fi.
    behind kind.Name (codes "module") (bind _ name_keeps
    (λ n is. bind _ (optional_names_keep kind.Name (codes "includes"))
    (λ ns fn. behind kind.Sign (codes "{") (last (item.Module install n ns) (fi, is, fn))))))

test_module_fits : Keeps FitItem test_module_line
unfolding test_module_line
test_module_fits =
    behind kind.AtName (codes "@TestInstallIn") (bind _ (enclosed_keeps name name_keeps)
    (λ install fi.
    behind kind.Name (codes "module") (bind _ name_keeps
    (λ n is. behind kind.Name (codes "replaces")
    (bind _ names_keep (λ rs fr. bind _ (optional_names_keep kind.Name (codes "includes"))
    (λ ns fn.
    behind kind.Sign (codes "{") (last (item.TestModule install n rs ns)
    (fi, is, fr.some, record { short = fr.short; all = fr.all }, fn)))))))))

component_fits : Keeps FitItem component_line
unfolding component_line
component_fits =
    bind _ at_names_keep (λ ss fs. behind kind.Name (codes "component")
    (bind _ name_keeps (λ n is. bind _ (optional_keeps kind.Name (codes "in") name name_keeps)
    (λ parent fp. bind _ (optional_names_keep kind.Name (codes "modules")) (λ ns fn.
    behind kind.Sign (codes "{") (last (item.Component ss n parent ns) (fs, is, fp, fn)))))))

define_component_fits : Keeps FitItem define_component_line
unfolding define_component_line
define_component_fits =
    bind _ at_names_keep (λ ss fs. behind kind.Name (codes "defineComponent")
    (bind _ name_keeps (λ n is. behind kind.Name (codes "in")
    (bind _ name_keeps (λ parent fp. behind kind.Sign (codes "{")
    (last (item.DefineComponent ss n parent) (fs, is, fp)))))))

entry_point_fits : Keeps FitItem entry_point_line
unfolding entry_point_line
entry_point_fits =
    behind kind.AtName (codes "@InstallIn") (bind _ (enclosed_keeps name name_keeps)
    (λ install fi. behind kind.Name (codes "entryPoint")
    (bind _ name_keeps (λ n is. behind kind.Sign (codes "{")
    (last (item.EntryPoint install n) (fi, is))))))

-- ---- lines of the session

open_arg_keeps : Keeps FitArg open_arg
unfolding open_arg
open_arg_keeps = bind _ name_keeps (λ n is. behind kind.Sign (codes "=")
    (bind _ constant_keeps (λ v c. given (record { name = n; value = v }) record
    { name = is; value = c })))

no_args : UpTo FitArg list_limit []
no_args = record { short = omega arith; all = tt }

open_args_keep : Keeps (UpTo FitArg list_limit) open_args
unfolding open_args
open_args_keep = bind _ (eaten_keeps kind.Name (codes "with"))
    (λ some any. choose some _ _ (weaker (up_to FitArg list_limit)
    (list_keeps FitArg open_arg list_limit open_arg_keeps)) (given [] no_args))

open_fits : Keeps FitItem open_line
unfolding open_line
open_fits =
    behind kind.Name (codes "open") (bind _ name_keeps
    (λ n is. behind kind.Sign (codes ":") (bind _ name_keeps
    (λ c ic. bind _ (optional_keeps kind.Name (codes "in") name name_keeps)
    (λ parent fp. bind _ open_args_keep (λ args fa.
    last (item.OpenLine n c parent args) (is, ic, fp, fa.short, fa.all)))))))

link_fits : Keeps FitItem link_line
unfolding link_line
link_fits = behind kind.Name (codes "link") (bind _ name_keeps
    (λ a ia. behind kind.Name (codes "to") (bind _ name_keeps
    (λ b ib. last (item.Link a b) (ia, ib)))))

key_form_keeps : Keeps FitKey map_key_form
unfolding map_key_form
key_form_keeps =
    by_test (comes_kind kind.Text) _ _ (bind (λ k. pure (map_key.Text k)) text_keeps
    (λ k plain. given (map_key.Text k) plain))
    (bind (λ i. pure (map_key.Int i)) integer_keeps (λ i within. given (map_key.Int i) within))

at_key_keeps : Keeps FitStep at_key
unfolding at_key
at_key_keeps = behind kind.Sign (codes "[") (bind _ key_form_keeps
    (λ k f. behind kind.Sign (codes "]") (given (step.At k) f)))

step_keeps : Keeps FitStep ask_step
unfolding ask_step
step_keeps =
    by_test (comes kind.Sign (codes ".")) _ _ (bind (λ f. pure (step.Field f))
    (behind kind.Sign (codes ".") name_keeps) (λ f is. given (step.Field f) is))
    (by_test (comes kind.Sign (codes "!")) _ _ (behind kind.Sign (codes "!") (given step.Get tt))
    (by_test (comes kind.Sign (codes "?")) _ at_key
    (behind kind.Sign (codes "?") (given step.Inside tt)) at_key_keeps))

step_more : (n : ℕ) (s : AskStep) (ss : List AskStep) → FitStep s → UpTo FitStep n ss → UpTo FitStep
    (suc n) (s ∷ ss)
step_more n s ss f u = (let short = u.short in record {
  short = omega
      (arith, short);
  all = (f, u.all);
})

steps_read : (n : ℕ) (ls : List Lexeme) → AllKinds ls → IfReads (UpTo FitStep n) (ask_steps n ls)
unfolding ask_steps
steps_read zero [] kinds = (record { short = omega arith; all = tt }, tt)
steps_read zero (l ∷ ls) kinds = tt
steps_read (suc n) [] kinds = (record { short = omega arith; all = tt }, tt)
steps_read (suc n) (l ∷ ls) kinds = (steps_more n (record { at = steps_read n })).at (l ∷ ls) kinds
  where
    steps_more : (n : ℕ) → Keeps (UpTo FitStep n) (ask_steps n) → Keeps (UpTo FitStep (suc n))
        (ask_step >>= (λ s. ask_steps n >>= (λ ss. pure (s ∷ ss))))
    steps_more n k = bind _ step_keeps (λ s f. bind _ k
        (λ ss u. given (s ∷ ss) (step_more n s ss f u)))

steps_keep : (n : ℕ) → Keeps (UpTo FitStep n) (ask_steps n)
steps_keep n = record { at = steps_read n }

ask_fits : Keeps FitItem ask_line
unfolding ask_line
ask_fits =
    behind kind.Name (codes "ask") (bind _ name_keeps
    (λ i ii. behind kind.Sign (codes ".") (bind _ name_keeps
    (λ e ie. bind _ (steps_keep list_limit) (λ ss u. given (item.AskLine i e ss)
    (ii, ie, u.short, u.all))))))

-- ---- any line

if_line : (b : Bool) (r s : Reader Item) → Keeps FitItem r → Keeps FitItem s → Keeps FitItem
    (λ ls. if b then r ls else s ls)
if_line b r s kr ks = by_test (λ ls. b) r s kr ks

outside_fits : (w : Bytes) → Keeps FitItem (outside_line w)
unfolding outside_line
outside_fits w =
    if_line (bytes_eq w (codes "qualifier")) qualifier_line _ qualifier_fits
    (if_line (bytes_eq w (codes "scope")) scope_line _ scope_fits
    (if_line (bytes_eq w (codes "interface")) interface_line _ interface_fits
    (if_line (bytes_eq w (codes "class")) class_line _ class_fits
    (if_line (bytes_eq w (codes "module")) _ _ (by_test
    (comes kind.AtName (codes "@TestInstallIn")) test_module_line module_line test_module_fits
    module_fits)
    (if_line (bytes_eq w (codes "component")) component_line _ component_fits
    (if_line (bytes_eq w (codes "defineComponent")) define_component_line _ define_component_fits
    (if_line (bytes_eq w (codes "entryPoint")) entry_point_line _ entry_point_fits
    (if_line (bytes_eq w (codes "open")) open_line _ open_fits
    (if_line (bytes_eq w (codes "link")) link_line _ link_fits
    (if_line (bytes_eq w (codes "ask")) ask_line end_line ask_fits end_fits))))))))))

with_fits : (w : Bytes) → Keeps FitItem (line_with w)
unfolding line_with
with_fits w =
    if_line (bytes_eq w (codes "provides")) provides_line _ provides_fits
    (if_line (bytes_eq w (codes "binds")) binds_line _ binds_fits
    (if_line (bytes_eq w (codes "produces")) produces_line _ produces_fits
    (if_line (bytes_eq w (codes "bindsOptionalOf")) optional_of_line _ optional_of_fits
    (if_line (bytes_eq w (codes "multibinds")) multibinds_line _ multibinds_fits
    (if_line (bytes_eq w (codes "bindsInstance")) binds_instance_line _ binds_instance_fits
    (if_line (bytes_eq w (codes "dependsOn")) depends_on_line _ depends_on_fits
    (if_line (bytes_eq w (codes "entry")) entry_line (outside_line w) entry_fits
    (outside_fits w))))))))

pub item_fits : Keeps FitItem item_line
unfolding item_line
item_fits = record { at = λ ls kinds. (with_fits (form_word false ls)).at ls kinds }
