-- What holds in a document that breaks no rule, in words that know nothing of rules.
use Rattle.std.specs.Prelude.{◌≡◌, true, Some, Contains}
use Rattle.dg_decl.specs.declared.document.Doc.{Doc}
use Rattle.dg_decl.specs.declared.graph.Node.{Node}
use Rattle.dg_decl.specs.Diagnostics.{IsAccepted}
use Rattle.dg_decl.specs.Graph.{Dependency, deps, target, nodes, OnCycle, OnCall}
use Rattle.dg_decl.specs.Sizes.{IsProduction}
use Rattle.dg_decl.specs.Stages.Bindings.{is_provision}

-- a request finds one thing, and that is a node
pub record FindsOne (doc : Doc) (d : Dependency) : Type 0 where
  pub found : Node
  pub is_target : target d ≡ Some found
  pub is_node : Contains (nodes doc) found

pub record IsSound (doc : Doc) : Type 0 where
  -- no binding is missing, and none is there twice
  pub finds : (n : Node) (d : Dependency) → Contains (nodes doc) n → Contains (deps doc n) d
      → FindsOne doc d
  -- no node needs itself, over any number of direct requests
  pub no_cycle : (n : Node) → Contains (nodes doc) n → OnCycle doc n → ⊥
  -- nor over direct requests and calls in bodies
  pub no_call_cycle : (n : Node) → Contains (nodes doc) n → OnCall doc n → ⊥
  -- a `provides` line, an `@Inject` class and a scoped `binds` line ask for no production
  pub no_wait : (n t : Node) (d : Dependency) → Contains (nodes doc) n → Contains (deps doc n) d
      → is_provision doc n ≡ true → target d ≡ Some t → IsProduction doc t → ⊥

abbrev pub AcceptedDocumentsAreSound : Type 0
AcceptedDocumentsAreSound = (doc : Doc) → IsAccepted doc → IsSound doc
