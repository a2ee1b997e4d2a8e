-- To which instances `link` lines tie the instances of components with dependencies.
use Rattle.std.specs.Prelude.{ℕ, Bool, false, List, [], map, Option, None, option_and_then, unwrap_or, option_map}
use Rattle.std.specs.List.{filter_map, find}
use Rattle.std.specs.Option.{option_map_or}
use Rattle.dg_lex.specs.Bytes.{Bytes}
use Rattle.dg_decl.specs.declared.document.Doc.{Doc}
use Rattle.dg_decl.specs.declared.item.Item.{Item}
use Rattle.dg_decl.specs.declared.item.Item.TheVariants as item
use Rattle.dg_decl.specs.Document.{Statement, statements}
use Rattle.dg_decl.specs.Components.{deps_of}
use Rattle.dg_decl.specs.Stages.Names.{instance_name}
use Rattle.dg_decl.specs.Stages.Session.{class_opened}
use Rattle.dg_decl.specs.Stages.Links.{same_tie, tie_of}
use Rattle.dg_slots.specs.Sessions.{open_lines, instance_before}

-- a line ties the instance of this name to an instance of this class
abbrev pub ties : Doc → Bytes → ℕ → Statement → Bool
ties doc from class s =
    option_map_or (same_tie (record { from = from; class = class })) (tie_of doc s) false

-- the number of the instance to which a `link` line leads
abbrev pub linked_by : Doc → Statement → Option ℕ
linked_by doc s = of_item s.item
  where
    of_item : Item → Option ℕ
    of_item (item.Link from to) = instance_before doc s to
    of_item other = None

-- the number of the instance of a class to which the first such line ties the instance of a name
unfoldable pub linked : Doc → Bytes → ℕ → Option ℕ
linked doc from class = option_and_then (linked_by doc) (find (ties doc from class) (statements
    doc))

-- the instances to which that of an `open` line is tied, by dependency of its class
unfoldable pub links_of_line : Doc → Statement → List ℕ
links_of_line doc s = unwrap_or (option_map of_name (instance_name s.item)) []
  where
    of_name : Bytes → List ℕ
    of_name n =
        option_map_or (λ c. filter_map (linked doc n) (deps_of doc c)) (class_opened doc s) []

-- the same of each instance, in the order of their numbers
unfoldable pub links_of : Doc → List (List ℕ)
links_of doc = map (links_of_line doc) (open_lines doc)
