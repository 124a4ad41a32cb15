-- The names before the index are names, and stand in the set.
use Rattle.std.proofs.Common.{◌≡◌, true, take}
use Rattle.std.specs.List.{list_all, IsDistinct}
use Rattle.std.specs.Map.{keys_of}
use Rattle.std.specs.Str.{bytes_eq}
use Rattle.resin_frozen.specs.Policies.{is_name}
use Rattle.resin_frozen.proofs.keys.are_fields.Given as goal

abbrev pub invariant-loop-name : goal.invariant-loop-name
invariant-loop-name l = (l.names.keys ≡ keys_of (take l.name-index l.fields)) × (list_all is_name (keys_of (take l.name-index l.fields)) ≡ true) × IsDistinct bytes_eq (keys_of (take l.name-index l.fields))
