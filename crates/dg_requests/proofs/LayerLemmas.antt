-- What is asked for as the content of a cell or of a Lazy, over the evaluation at a depth.
use Rattle.std.proofs.Common.{◌≡◌, ◌≢◌, ◌≤◌, ◌-◌, ℕ, zero, suc, true, false, cond, List, [], ◌∷◌, Option, Some, None, Result, Ok, Err, IfOk, option_map, Contains, refl, sym, ap, subst, ◌∙◌, arith}
use Rattle.std.proofs.lemmas.Option.{none-some}
use Rattle.dg_types.specs.declared.memory.NoMemory.{NoMemory}
use Rattle.dg_decl.specs.declared.document.Doc.{Doc}
use Rattle.dg_value.specs.declared.place.Place.{Place}
use Rattle.dg_value.specs.declared.place.PlaceStep.TheVariants as step
use Rattle.dg_value.specs.Places.{then_step}
use Rattle.dg_value.specs.declared.value.Failure.{Failure}
use Rattle.dg_value.specs.declared.value.Kept.{Kept}
use Rattle.dg_value.specs.declared.value.Kept.TheVariants as kept
use Rattle.dg_value.specs.declared.value.Value.{Value, out-Value}
use Rattle.dg_value.specs.declared.value.Value.TheVariants as value
use Rattle.dg_value.specs.declared.value.Kept.TheOpen.{Value-F}
use Rattle.dg_value.specs.Same.{Layer}
use Rattle.dg_slots.specs.declared.plan.Plan.{Plan}
use Rattle.dg_eval.specs.Runs.{Asked, cell, lazy, Run, gives, before, and_then, asking, as_kept, asks_of}
use Rattle.dg_eval.specs.Meaning.{Eval, is_cell, cell_place, content, held, instance, lazy_content, look_at, look, eval, content_of, lazy_content_of}
use Rattle.dg_eval.specs.World.{world_of}
use Rattle.dg_eval.specs.Asks.{asked_by}
use Rattle.dg_eval.proofs.RunGrowth.{stays}
use Rattle.dg_eval.proofs.GrowthLemmas.{eval_grows_to, content_grows, lazy_grows}
use Rattle.dg_requests.specs.declared.stop.Stop.{Stop}
use Rattle.dg_requests.specs.declared.stop.Stop.TheVariants as stop
use Rattle.dg_requests.specs.Scopes.{Scope, IsClosed, IsFit, content_at, IsContent, AllUsed, Exactly, Told, Asks, Answers}
use Rattle.dg_requests.specs.Results.{MayAsk, CanRun, Ran, result_of, held_of, held_at}
use Rattle.dg_requests.specs.Contexts.{IsContextOf}
use Rattle.dg_requests.proofs.RanLemmas.{can_as, can_rest, ran_as, ran_plain, ran_stops, ran_then}

-- ---- runs that ask for one cell or Lazy

-- a run is the content of a cell or of a Lazy
pub record IsRunOf (doc : Doc) (x : Asked) (r : Run Value) : Type 0 where
  pub content : content_at doc x ≡ r
  pub asks : asked_by doc x ≡ asks_of r

asks_there : {A : Type 0} (s : Scope) (x : Asked) (r : Run A) → CanRun s (asking x r) → r ≢ None
asks_there s x None h e = absurd h.may
asks_there s x (Some r) h e = cc

asks_may : {A : Type 0} (s : Scope) (x : Asked) (r : Run A) → CanRun s (asking x r)
    → Contains s.may x
asks_may s x None h = absurd h.may
asks_may s x (Some (r, asks)) h = h.may x (0, omega arith, refl)

pub may_over : {A : Type 0} (s before : Scope) (x : Asked) (r : Run A) → before ≡ s
    → CanRun s (asking x r) → Contains before.may x
may_over s before x r e h =
    let P : Scope → Type 0 = λ t. Contains t.may x in subst P (sym e) (asks_may s x r h)

-- the content of what may be asked for may be run
can_content : (s : Scope) (x : Asked) (r : Run Value) → IsClosed s → IsRunOf s.doc x r
    → CanRun s (asking x r) → CanRun s r
can_content s x None closed of h = absurd h.may
can_content s x (Some (r, asks)) closed of h =
    let P : List Asked → Type 0 = λ l. MayAsk s l in
    record { may = subst P of.asks (λ y c. closed x y (asks_may s x (Some (r, asks)) h) c) }

kept_gave : (r : Run Value) (q : Result Value Failure) → option_map (λ p. p.0) r ≡ Some q
    → option_map (λ p. as_kept p.0) r ≡ Some (as_kept q)
kept_gave None q e = cc
kept_gave (Some (p, asks)) q e = (let same : p ≡ q = cc in ap (λ u. Some (as_kept u)) same)

-- what an evaluation below makes is the content
answers : (s : Scope) (x : Asked) (r : Run Value) (a b : Option (List Asked))
    → (res : Result Kept NoMemory) → IsRunOf s.doc x r → Ran s r a b (result_of res)
    → Answers x (asked_by s.doc x) s s a b res
answers s x r a b (Ok (kept.Value v)) of h = record {
  content = ap (λ u. option_map (λ p. as_kept p.0) u) of.content ∙ kept_gave r (Ok v) h.gave;
  same = refl;
  asked = subst (λ (l : List Asked). Told a b (Exactly s.doc l)) (sym of.asks) h.asked;
}
answers s x r a b (Ok (kept.Failed f)) of h = record {
  content = ap (λ u. option_map (λ p. as_kept p.0) u) of.content ∙ kept_gave r (Err f) h.gave;
  same = refl;
  asked = subst (λ (l : List Asked). Told a b (Exactly s.doc l)) (sym of.asks) h.asked;
}
answers s x r a b (Err e) of h = record {
  content = tt;
  same = refl;
  asked = subst (λ (l : List Asked). Told a b (AllUsed s.doc l)) (sym of.asks) h.asked;
}

answers_over : (s before after : Scope) (x : Asked) (r : Run Value) (a b : Option (List Asked))
    → (res : Result Kept NoMemory) (given : Result Value Stop) → before ≡ s → after ≡ s
    → IsRunOf s.doc x r → result_of res ≡ given → Ran s r a b given
    → Answers x (asked_by before.doc x) before after a b res
answers_over s before after x r a b res given e f of same h =
    let P : Result Value Stop → Type 0 = λ u. Ran s r a b u in
    let plain = answers s x r a b res of (subst P (sym same) h) in
    let Q : Scope → Type 0 = λ t. Answers x (asked_by s.doc x) s t a b res in
    let R : Scope → Type 0 = λ t. Answers x (asked_by t.doc x) t after a b res in
    subst R (sym e) (subst Q (sym f) plain)

value_of_kept : (r : Result Value Failure) (v : Value) → as_kept r ≡ kept.Value v → r ≡ Ok v
value_of_kept (Ok w) v e = (let same : w ≡ v = cc in ap (λ u. Ok u) same)
value_of_kept (Err f) v e = cc

failure_of_kept : (r : Result Value Failure) (f : Failure) → as_kept r ≡ kept.Failed f → r ≡ Err f
failure_of_kept (Ok w) f e = cc
failure_of_kept (Err g) f e = (let same : g ≡ f = cc in ap (λ u. Err u) same)

-- what is asked for is answered with the content
asked : (s : Scope) (x : Asked) (r : Run Value) (a b : Option (List Asked))
    → (res : Result Kept NoMemory) → IsRunOf s.doc x r → CanRun s (asking x r)
    → IfOk res (IsContent s.doc x) → Asks s.doc (x ∷ []) a b res
    → Ran s (asking x r) a b (result_of res)
asked s x None a b res of c h k = absurd c.may
asked s x (Some (q, asks)) a b (Ok (kept.Value v)) of c h k =
    let same : as_kept q ≡ kept.Value v =
    some_same (ap (λ u. option_map (λ p. as_kept p.0) u) (sym of.content) ∙ h) in
    record { gave = ap (λ u. Some u) (value_of_kept q v same); asked = k }
  where
    some_same : {x y : Kept} → Some x ≡ Some y → x ≡ y
    some_same e = cc
asked s x (Some (q, asks)) a b (Ok (kept.Failed f)) of c h k =
    let same : as_kept q ≡ kept.Failed f =
    some_same (ap (λ u. option_map (λ p. as_kept p.0) u) (sym of.content) ∙ h) in
    record { gave = ap (λ u. Some u) (failure_of_kept q f same); asked = k }
  where
    some_same : {x y : Kept} → Some x ≡ Some y → x ≡ y
    some_same e = cc
asked s x (Some (q, asks)) a b (Err e) of c h k = record { gave = tt; asked = k }

asked_over : (s before after : Scope) (x : Asked) (r : Run Value) (a b : Option (List Asked))
    → (res : Result Kept NoMemory) (result : Result Value Stop) → before ≡ s
    → IsRunOf s.doc x r → CanRun s (asking x r) → Answers x (x ∷ []) before after a b res
    → result ≡ result_of res → Ran s (asking x r) a b result
asked_over s before after x r a b res result e of c h same =
    let P : Result Value Stop → Type 0 = λ u. Ran s (asking x r) a b u in
    let Q : Scope → Type 0 = λ t. IfOk res (IsContent t.doc x) in
    let R : Scope → Type 0 = λ t. Asks t.doc (x ∷ []) a b res in
    subst P (sym same) (asked s x r a b res of c (subst Q e h.content) (subst R e h.asked))

-- ---- more depth changes nothing

cell_settled : (doc : Doc) (depth i k : ℕ) → depth ≤ 128 → content (eval doc depth) i k ≢ None
    → IsRunOf doc (cell i k) (content (eval doc depth) i k)
unfolding content_of asked_by
cell_settled doc depth i k le there =
    let same : content_of doc i k ≡ content (eval doc depth) i k =
    stays (content (eval doc depth) i k) (content (eval doc 128) i k)
    (content_grows (eval doc depth) (eval doc 128) (eval_grows_to doc depth 128 le) i k) there in
    record { content = same; asks = ap (λ (r : Run Value). asks_of r) same }

lazy_settled : (doc : Doc) (depth i k : ℕ) (p : Place) → depth ≤ 128
    → lazy_content doc (eval doc depth) i k p ≢ None
    → IsRunOf doc (lazy i k p) (lazy_content doc (eval doc depth) i k p)
unfolding lazy_content_of asked_by
lazy_settled doc depth i k p le there =
    let same : lazy_content_of doc i k p ≡ lazy_content doc (eval doc depth) i k p =
    stays (lazy_content doc (eval doc depth) i k p) (lazy_content doc (eval doc 128) i k p)
    (lazy_grows doc (eval doc depth) (eval doc 128) (eval_grows_to doc depth 128 le) i k p)
    there in
    record { content = same; asks = ap (λ (r : Run Value). asks_of r) same }

-- ---- cells

pub can_make_cell : (s : Scope) (depth i k : ℕ) → depth ≤ 128 → IsClosed s
    → CanRun s (asking (cell i k) (content (eval s.doc depth) i k))
    → CanRun s (content (eval s.doc depth) i k)
can_make_cell s depth i k le closed h =
    let r = content (eval s.doc depth) i k in
    can_content s (cell i k) r closed
    (cell_settled s.doc depth i k le (asks_there s (cell i k) r h)) h

pub cell_answers : (s before after : Scope) (depth i k : ℕ) (a b : Option (List Asked))
    → (res : Result Kept NoMemory) (given : Result Value Stop) → depth ≤ 128 → before ≡ s
    → after ≡ s → CanRun s (content (eval s.doc depth) i k) → result_of res ≡ given
    → Ran s (content (eval s.doc depth) i k) a b given
    → Answers (cell i k) (asked_by before.doc (cell i k)) before after a b res
cell_answers s before after depth i k a b res given le e f c same h =
    answers_over s before after (cell i k) (content (eval s.doc depth) i k) a b res given e f
    (cell_settled s.doc depth i k le (run_there s (content (eval s.doc depth) i k) c)) same h
  where
    run_there : (s : Scope) (r : Run Value) → CanRun s r → r ≢ None
    run_there s None h e = absurd h.may
    run_there s (Some r) h e = cc

pub cell_asked : (s before after : Scope) (depth i k : ℕ) (a b : Option (List Asked))
    → (res : Result Kept NoMemory) (result : Result Value Stop) → depth ≤ 128 → before ≡ s
    → CanRun s (asking (cell i k) (content (eval s.doc depth) i k))
    → Answers (cell i k) (cell i k ∷ []) before after a b res → result ≡ result_of res
    → Ran s (asking (cell i k) (content (eval s.doc depth) i k)) a b result
cell_asked s before after depth i k a b res result le e c h same =
    let r = content (eval s.doc depth) i k in
    asked_over s before after (cell i k) r a b res result e
    (cell_settled s.doc depth i k le (asks_there s (cell i k) r c)) c h same

-- ---- Lazies

pub can_make_lazy : (s : Scope) (depth i k : ℕ) (p : Place) → depth ≤ 128 → IsClosed s
    → CanRun s (asking (lazy i k p) (lazy_content s.doc (eval s.doc depth) i k p))
    → CanRun s (lazy_content s.doc (eval s.doc depth) i k p)
can_make_lazy s depth i k p le closed h =
    let r = lazy_content s.doc (eval s.doc depth) i k p in
    can_content s (lazy i k p) r closed
    (lazy_settled s.doc depth i k p le (asks_there s (lazy i k p) r h)) h

pub lazy_answers : (s before after : Scope) (depth i k : ℕ) (p : Place)
    → (a b : Option (List Asked)) (res : Result Kept NoMemory) (given : Result Value Stop)
    → depth ≤ 128 → before ≡ s → after ≡ s
    → CanRun s (lazy_content s.doc (eval s.doc depth) i k p) → result_of res ≡ given
    → Ran s (lazy_content s.doc (eval s.doc depth) i k p) a b given
    → Answers (lazy i k p) (asked_by before.doc (lazy i k p)) before after a b res
lazy_answers s before after depth i k p a b res given le e f c same h =
    answers_over s before after (lazy i k p) (lazy_content s.doc (eval s.doc depth) i k p) a b res
    given e f (lazy_settled s.doc depth i k p le
    (run_there s (lazy_content s.doc (eval s.doc depth) i k p) c)) same h
  where
    run_there : (s : Scope) (r : Run Value) → CanRun s r → r ≢ None
    run_there s None h e = absurd h.may
    run_there s (Some r) h e = cc

pub lazy_asked : (s before after : Scope) (depth i k : ℕ) (p : Place)
    → (a b : Option (List Asked)) (res : Result Kept NoMemory) (result : Result Value Stop)
    → depth ≤ 128 → before ≡ s
    → CanRun s (asking (lazy i k p) (lazy_content s.doc (eval s.doc depth) i k p))
    → Answers (lazy i k p) (lazy i k p ∷ []) before after a b res → result ≡ result_of res
    → Ran s (asking (lazy i k p) (lazy_content s.doc (eval s.doc depth) i k p)) a b result
lazy_asked s before after depth i k p a b res result le e c h same =
    let r = lazy_content s.doc (eval s.doc depth) i k p in
    asked_over s before after (lazy i k p) r a b res result e
    (lazy_settled s.doc depth i k p le (asks_there s (lazy i k p) r c)) c h same

-- ---- places

pub can_at : (s : Scope) (depth i k : ℕ) (q : Place) → q ≡ cell_place i k
    → CanRun s (content (eval s.doc depth) i k) → CanRun s (eval s.doc depth i k q)
can_at s depth i k q at h =
    let P : Place → Type 0 = λ p. CanRun s (eval s.doc depth i k p) in
    subst P (sym at) h

pub ran_at : (s : Scope) (depth i k : ℕ) (q : Place) (a b : Option (List Asked))
    → (result : Result Value Stop) → q ≡ cell_place i k → Ran s (eval s.doc depth i k q) a b result
    → Ran s (content (eval s.doc depth) i k) a b result
ran_at s depth i k q a b result at h =
    let P : Place → Type 0 = λ p. Ran s (eval s.doc depth i k p) a b result in
    subst P at h

-- ---- held values

can_unheld : {A B : Type 0} (s : Scope) (x : Asked) (r : Run A) (w : B)
    → CanRun s (asking x (and_then r (λ v. gives w))) → CanRun s (asking x r)
can_unheld s x None w h = absurd h.may
can_unheld s x (Some (Ok v, asks)) w h = record { may = h.may }
can_unheld s x (Some (Err f, asks)) w h = record { may = h.may }

pub can_held : (s : Scope) (depth i k : ℕ) → CanRun s (held (eval s.doc depth) i k)
    → CanRun s (asking (cell i k) (content (eval s.doc depth) i k))
can_held s depth i k h =
    can_unheld s (cell i k) (content (eval s.doc depth) i k) (value.Held i k) h

ran_held_of : (s : Scope) (x : Asked) (r : Run Value) (i k : ℕ) (a b : Option (List Asked))
    → (given : Result Value Stop) → CanRun s (asking x r) → Ran s (asking x r) a b given
    → Ran s (asking x (and_then r (λ v. gives (value.Held i k)))) a b (held_of i k given)
ran_held_of s x None i k a b given c h = absurd c.may
ran_held_of s x (Some (Ok v, asks)) i k a b (Ok w) c h = record { gave = refl; asked = h.asked }
ran_held_of s x (Some (Err f, asks)) i k a b (Ok w) c h = (let e = h.gave in cc)
ran_held_of s x (Some (Ok v, asks)) i k a b (Err (stop.Failed f)) c h = (let e = h.gave in cc)
ran_held_of s x (Some (Err g, asks)) i k a b (Err (stop.Failed f)) c h =
    record { gave = h.gave; asked = h.asked }
ran_held_of s x (Some (Ok v, asks)) i k a b (Err stop.NoMemory) c h =
    record { gave = tt; asked = h.asked }
ran_held_of s x (Some (Err f, asks)) i k a b (Err stop.NoMemory) c h =
    record { gave = tt; asked = h.asked }

pub ran_held : (s : Scope) (depth i k : ℕ) (a b : Option (List Asked))
    → (given result : Result Value Stop) → CanRun s (held (eval s.doc depth) i k)
    → Ran s (asking (cell i k) (content (eval s.doc depth) i k)) a b given
    → result ≡ held_of i k given → Ran s (held (eval s.doc depth) i k) a b result
ran_held s depth i k a b given result c h same =
    let r = content (eval s.doc depth) i k in
    let P : Result Value Stop → Type 0 = λ u. Ran s (held (eval s.doc depth) i k) a b u in
    subst P (sym same)
    (ran_held_of s (cell i k) r i k a b given (can_unheld s (cell i k) r (value.Held i k) c) h)

-- ---- instances

-- a fit scope is a context
pub fit_context : (s : Scope) (plan : Plan) → IsFit s plan (world_of s.doc)
    → IsContextOf s.doc plan (world_of s.doc)
fit_context s plan fit =
    record { accepted = fit.accepted; of_plan = fit.of_plan; of_world = refl }

pub instance_of_cell : (doc : Doc) (f : Eval) (i k : ℕ) (q : Place) → is_cell doc k ≡ true
    → instance doc f i k q ≡ held f i k
instance_of_cell doc f i k q e = ap (λ b. cond b (held f i k) (f i k q)) e

pub instance_below : (doc : Doc) (f : Eval) (i k : ℕ) (q : Place) → is_cell doc k ≡ false
    → instance doc f i k q ≡ f i k q
instance_below doc f i k q e = ap (λ b. cond b (held f i k) (f i k q)) e

-- ---- looks

look_plain_at : (behind : ℕ → ℕ → Run Value) (v : Value) (l : Layer) → held_at l ≡ None
    → look_at behind v l ≡ gives v
look_plain_at behind v (Value-F.Text t) e = refl
look_plain_at behind v (Value-F.Int n) e = refl
look_plain_at behind v (Value-F.Object class ident fields) e = refl
look_plain_at behind v (Value-F.Held i k) e = cc
look_plain_at behind v (Value-F.Set vs) e = refl
look_plain_at behind v (Value-F.Map es) e = refl
look_plain_at behind v (Value-F.Provider i k) e = refl
look_plain_at behind v (Value-F.ProviderLazy i k) e = refl
look_plain_at behind v (Value-F.Lazy i k p) e = refl
look_plain_at behind v (Value-F.Opt o) e = refl
look_plain_at behind v (Value-F.Outcome o) e = refl

look_held_at : (behind : ℕ → ℕ → Run Value) (v : Value) (l : Layer) (p : ℕ × ℕ)
    → held_at l ≡ Some p → look_at behind v l ≡ behind p.0 p.1
look_held_at behind v (Value-F.Held i k) p e =
    let same : (i, k) ≡ p = cc in ap (λ (u : ℕ × ℕ). behind u.0 u.1) same
look_held_at behind v other p e = absurd (none-some p e)

pub look_plain : (f : Eval) (times : ℕ) (v : Value) → held_at (out-Value v) ≡ None
    → look f times v ≡ gives v
look_plain f zero v e = look_plain_at (λ i k. None) v (out-Value v) e
look_plain f (suc times) v e =
    look_plain_at (λ i k. and_then (asking (cell i k) (content f i k)) (look f times)) v
    (out-Value v) e

-- a look that may be made at a held value is at a cell at least
pub look_deep : (s : Scope) (f : Eval) (times : ℕ) (v : Value) (p : ℕ × ℕ)
    → held_at (out-Value v) ≡ Some p → CanRun s (look f times v) → 1 ≤ times
look_deep s f zero v p e h =
    absurd (can_as s (look f 0 v) None (look_held_at (λ i k. None) v (out-Value v) p e) h).may
look_deep s f (suc times) v p e h = omega arith

pub look_held : (f : Eval) (times : ℕ) (v : Value) (p : ℕ × ℕ)
    → held_at (out-Value v) ≡ Some p → 1 ≤ times
    → look f times v ≡ and_then (asking (cell p.0 p.1) (content f p.0 p.1)) (look f (times - 1))
look_held f zero v p e le = absurd (omega arith)
look_held f (suc times) v p e le =
    let one : times ≡ suc times - 1 = omega arith in
    look_held_at (λ i k. and_then (asking (cell i k) (content f i k)) (look f times)) v
    (out-Value v) p e
    ∙ ap (λ n. and_then (asking (cell p.0 p.1) (content f p.0 p.1)) (look f n)) one

pub look_can : (s : Scope) (f : Eval) (times : ℕ) (v : Value) (p : ℕ × ℕ)
    → (a b : Option (List Asked)) (w : Value) → Some p ≡ held_at (out-Value v)
    → CanRun s (look f times v) → Ran s (asking (cell p.0 p.1) (content f p.0 p.1)) a b (Ok w)
    → CanRun s (look f (times - 1) w)
look_can s f times v p a b w e h k =
    let here = look_held f times v p (sym e) (look_deep s f times v p (sym e) h) in
    can_rest s (asking (cell p.0 p.1) (content f p.0 p.1)) (look f (times - 1)) w
    (can_as s (look f times v) _ here h) k.gave

look_stops : (s : Scope) (f : Eval) (times : ℕ) (v : Value) (p : ℕ × ℕ)
    → (a b : Option (List Asked)) (e : Stop) → Some p ≡ held_at (out-Value v)
    → CanRun s (look f times v) → Ran s (asking (cell p.0 p.1) (content f p.0 p.1)) a b (Err e)
    → Ran s (look f times v) a b (Err e)
look_stops s f times v p a b e is h k =
    let here = look_held f times v p (sym is) (look_deep s f times v p (sym is) h) in
    let r = asking (cell p.0 p.1) (content f p.0 p.1) in
    ran_as s (and_then r (look f (times - 1))) (look f times v) a b (Err e) (sym here)
    (ran_stops s r (look f (times - 1)) e a b (can_as s (look f times v) _ here h) k)

pub look_then : (s : Scope) (f : Eval) (times : ℕ) (v : Value) (p : ℕ × ℕ)
    → (a b d : Option (List Asked)) (w : Value) (result : Result Value Stop)
    → Some p ≡ held_at (out-Value v) → CanRun s (look f times v)
    → Ran s (asking (cell p.0 p.1) (content f p.0 p.1)) a b (Ok w)
    → Ran s (look f (times - 1) w) b d result → Ran s (look f times v) a d result
look_then s f times v p a b d w result is h k m =
    let here = look_held f times v p (sym is) (look_deep s f times v p (sym is) h) in
    let r = asking (cell p.0 p.1) (content f p.0 p.1) in
    ran_as s (and_then r (look f (times - 1))) (look f times v) a d result (sym here)
    (ran_then s r (look f (times - 1)) w a b d result (can_as s (look f times v) _ here h) k m)

pub look_here : (s : Scope) (f : Eval) (times : ℕ) (v : Value) (a : Option (List Asked))
    → None ≡ held_at (out-Value v) → Ran s (look f times v) a a (Ok v)
look_here s f times v a is =
    ran_as s (gives v) (look f times v) a a (Ok v) (sym (look_plain f times v (sym is)))
    (ran_plain s (gives v) a (Ok v) refl refl)

pub look_stopped : (s : Scope) (f : Eval) (times : ℕ) (v : Value) (p : ℕ × ℕ)
    → (a b : Option (List Asked)) (e d : Stop) (result : Result Value Stop)
    → Some p ≡ held_at (out-Value v) → CanRun s (look f times v)
    → Ran s (asking (cell p.0 p.1) (content f p.0 p.1)) a b (Err e) → result ≡ Err d → d ≡ e
    → Ran s (look f times v) a b result
look_stopped s f times v p a b e d result is h k gave same =
    let P : Result Value Stop → Type 0 = λ u. Ran s (look f times v) a b u in
    let err : Stop → Result Value Stop = λ u. Err u in
    let to : err e ≡ result = ap err (sym same) ∙ sym gave in
    subst P to (look_stops s f times v p a b e is h k)

-- ---- the inside of a place

pub can_inside : (s : Scope) (f : Eval) (i k : ℕ) (p q : Place) → q ≡ then_step p step.Inside
    → CanRun s (lazy_content s.doc f i k p) → CanRun s (instance s.doc f i k q)
can_inside s f i k p q at h =
    let P : Place → Type 0 = λ u. CanRun s (instance s.doc f i k u) in
    subst P (sym at) h

pub ran_inside : (s : Scope) (f : Eval) (i k : ℕ) (p q : Place) (a b : Option (List Asked))
    → (result : Result Value Stop) → q ≡ then_step p step.Inside
    → Ran s (instance s.doc f i k q) a b result → Ran s (lazy_content s.doc f i k p) a b result
ran_inside s f i k p q a b result at h =
    let P : Place → Type 0 = λ u. Ran s (instance s.doc f i k u) a b result in
    subst P at h
