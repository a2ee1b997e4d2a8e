use Rattle.dg_types.proofs.EqualityLemmas.{base_decides, core_decides, key_decides, map_key_decides, qualifier_decides, request_decides}
use Rattle.dg_types.proofs.ShapeEquality.{shape_decides, use_decides}
use Rattle.dg_types.proofs.laws.tests_tell_equal.Goals as goal

pub returns : goal.returns
returns c = record {
  bases = base_decides;
  cores = core_decides;
  qualifiers = qualifier_decides;
  keys = key_decides;
  requests = request_decides;
  map_keys = map_key_decides;
  shapes = shape_decides;
  uses = use_decides;
}
