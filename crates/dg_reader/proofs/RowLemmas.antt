-- Rows of fields and of terms are read one part after another, as a loop does.
use Rattle.std.proofs.Common.{◌≡◌, ℕ, zero, suc, ◌-◌, ◌+◌, ◌≤◌, ◌<◌, Bool, true, false, List}
use Rattle.std.proofs.Common.{Option, Some, None, Result, Err, refl, sym, ap, ◌∙◌, arith}
use Rattle.dg_lex.specs.Bytes.{Bytes}
use Rattle.dg_lex.specs.Lexemes.{Lexeme}
use Rattle.dg_lex.specs.declared.token.TokenKind.TheVariants as kind
use Rattle.dg_decl.specs.declared.expression.Expr.{Expr}
use Rattle.dg_decl.specs.Readers.{Reader, eaten}
use Rattle.dg_decl.specs.ExpressionForms.{row_of}
use Rattle.dg_reader.specs.declared.fault.FormFault.{FormFault}
use Rattle.dg_reader.specs.declared.fault.FormFault.TheVariants as fault
use Rattle.dg_reader.specs.Gives.{Gives}

abbrev pub Row : Type 0
Row = Option (Expr × List Lexeme)

part_more : {A : Type 0} (before : Bytes) (part : Reader A) (join : Expr → A
    → Expr) (n : ℕ) (e : Expr) (ls behind after : List Lexeme) (x : A)
    → eaten kind.Sign before ls ≡ Some (true, behind) → part behind ≡ Some (x, after)
    → row_of before part join (suc n) e ls ≡ row_of before part join n (join e x) after
unfolding row_of
part_more before part join n e ls behind after x sign read = rw (sign, read) refl

part_missing : {A : Type 0} (before : Bytes) (part : Reader A) (join : Expr → A
    → Expr) (n : ℕ) (e : Expr) (ls behind : List Lexeme)
    → eaten kind.Sign before ls ≡ Some (true, behind) → part behind ≡ None
    → row_of before part join (suc n) e ls ≡ None
unfolding row_of
part_missing before part join n e ls behind sign none = rw (sign, none) refl

no_more : {A : Type 0} (before : Bytes) (part : Reader A) (join : Expr → A
    → Expr) (n : ℕ) (e : Expr) (ls behind : List Lexeme)
    → eaten kind.Sign before ls ≡ Some (false, behind)
    → row_of before part join (suc n) e ls ≡ Some (e, behind)
unfolding row_of
no_more before part join n e ls behind none = rw none refl

full : {A : Type 0} (before : Bytes) (part : Reader A) (join : Expr → A
    → Expr) (e : Expr) (ls : List Lexeme) → row_of before part join 0 e ls ≡ Some (e, ls)
unfolding row_of
full before part join e ls = refl

-- ---- the turns of the loop

pub row_goes_on : {A : Type 0} (before : Bytes) (part : Reader A) (join : Expr → A
    → Expr) (count i : ℕ) (e : Expr) (ls behind after : List Lexeme) (x : A) (total : Row)
    → i < count
    → eaten kind.Sign before ls ≡ Some (true, behind) → part behind ≡ Some (x, after)
    → row_of before part join (count - i) e ls ≡ total
    → row_of before part join (count - (i + 1)) (join e x) after ≡ total
row_goes_on before part join count i e ls behind after x total lt sign read so_far =
    let k : count - i ≡ suc (count - (i + 1)) = omega arith in
    let step : row_of before part join (count - i) e ls ≡ row_of before part join (count - (i + 1))
    (join e x) after =
    rw k (part_more before part join (count - (i + 1)) e ls behind after x sign read) in
    sym step ∙ so_far

pub row_ends : {A : Type 0} (before : Bytes) (part : Reader A) (join : Expr → A
    → Expr) (count i : ℕ) (e : Expr) (ls behind : List Lexeme) (total : Row) → i < count
    → eaten kind.Sign before ls ≡ Some (false, behind)
    → row_of before part join (count - i) e ls ≡ total → total ≡ Some (e, behind)
row_ends before part join count i e ls behind total lt none so_far =
    let k : count - i ≡ suc (count - (i + 1)) = omega arith in
    let step : row_of before part join (count - i) e ls ≡ Some (e, behind) = rw k (no_more before
    part join (count - (i + 1)) e ls behind none) in
    sym so_far ∙ step

pub row_fails : {A : Type 0} (before : Bytes) (part : Reader A) (join : Expr → A
    → Expr) (count i : ℕ) (e : Expr) (ls behind left new : List Lexeme) (f : FormFault) (total :
    Row) → i < count
    → eaten kind.Sign before ls ≡ Some (true, behind) → Gives (part behind) (Err f) left
    → row_of before part join (count - i) e ls ≡ total → Gives total (Err f) new
row_fails before part join count i e ls behind left new fault.NoMemory total lt sign refused so_far
    = tt
row_fails before part join count i e ls behind left new fault.NoForm total lt sign refused so_far =
    let k : count - i ≡ suc (count - (i + 1)) = omega arith in
    let step : row_of before part join (count - i) e ls ≡ None = rw k (part_missing before part join
    (count - (i + 1)) e ls behind sign refused) in
    sym so_far ∙ step

pub row_is_full : {A : Type 0} (before : Bytes) (part : Reader A) (join : Expr → A
    → Expr) (count i : ℕ) (e : Expr) (ls : List Lexeme) (total : Row) → count ≤ i
    → row_of before part join (count - i) e ls ≡ total → total ≡ Some (e, ls)
row_is_full before part join count i e ls total le so_far =
    let k : count - i ≡ 0 = omega arith in
    let step : row_of before part join (count - i) e ls ≡ Some (e, ls) = rw k (full before part join
    e ls) in
    sym so_far ∙ step
