-- The map keys of what a map needs, and which of them stand there again.
use Rattle.std.specs.Prelude.{List, [], ◌∷◌, map, filter_map, Option, Some, None, option_and_then, if◌then◌else◌}
use Rattle.std.specs.List.{list_any}
use Rattle.indexmap.specs.IndexSet.{insert_key}
use Rattle.dg_types.specs.declared.key.MapKeyVal.{MapKeyVal}
use Rattle.dg_types.specs.Equality.{same_map_key}
use Rattle.dg_types.specs.Texts.{map_key_text}
use Rattle.dg_decl.specs.declared.document.Doc.{Doc}
use Rattle.dg_decl.specs.declared.binding.Found.{Found}
use Rattle.dg_decl.specs.declared.binding.Found.TheVariants as found
use Rattle.dg_decl.specs.declared.graph.Node.{Node}
use Rattle.dg_decl.specs.declared.graph.NodeKind.TheVariants as node
use Rattle.dg_decl.specs.declared.violation.Rule.TheVariants as rule
use Rattle.dg_decl.specs.declared.violation.Violation.{Violation}
use Rattle.dg_decl.specs.Graph.{Dependency, node_of}
use Rattle.dg_decl.specs.Sizes.{item_of_node}
use Rattle.dg_decl.specs.Stages.Bindings.{at_node, map_key_of_item, repeated}

-- the map key of the one binding that is found
abbrev pub key_of_found : Doc → Found → Option MapKeyVal
key_of_found doc (found.One owner b) =
    option_and_then map_key_of_item (item_of_node doc (node_of owner (node.Bound b)))
key_of_found doc other = None

-- the keys so far, each once, and those that came again
pub record Seen : Type 0 where
  pub once : List MapKeyVal
  pub again : List MapKeyVal

abbrev pub seen_with : Seen → MapKeyVal → Seen
seen_with s k = record {
  once = insert_key same_map_key s.once k;
  again = if list_any (same_map_key k) s.once then insert_key same_map_key s.again k else s.again;
}

abbrev pub seen_some : Seen → Option MapKeyVal → Seen
seen_some s None = s
seen_some s (Some k) = seen_with s k

-- the violation of a key that came again
abbrev pub where_again : Doc → Node → List MapKeyVal → MapKeyVal → List Violation
where_again doc n again k =
    if list_any (same_map_key k) again
    then at_node rule.MapKeys (Some (map_key_text k)) doc n ∷ [] else []

abbrev pub seen_of : List MapKeyVal → List MapKeyVal → Seen
seen_of once again = record { once = once; again = again }

-- the map keys of what is found, in order
abbrev pub keys_found : Doc → List Dependency → List MapKeyVal
keys_found doc ds = filter_map (λ d. key_of_found doc d.found) ds

-- the violations of the keys that stand more than once
abbrev pub broken_keys : Doc → Node → List MapKeyVal → List Violation
broken_keys doc n ks =
    map (λ k. at_node rule.MapKeys (Some (map_key_text k)) doc n) (repeated ks)
