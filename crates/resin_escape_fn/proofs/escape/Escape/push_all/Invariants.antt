use Rattle.std.proofs.Common.{◌≡◌, ◌≤◌, ◌++◌, length, take}
use Rattle.std.specs.List.{flat_map}
use Rattle.resin_lstr.specs.declared.limits.TheConstants.{LONGEST}
use Rattle.resin_escape_fn.specs.Rules.{rule_of}
use Rattle.resin_escape_fn.proofs.escape.Escape.push_all.Given as goal

abbrev pub invariant-loop-byte : goal.invariant-loop-byte
invariant-loop-byte l = record {
  is : l.out.items ≡ l.fn.out.items ++ flat_map (rule_of l.self) (take l.byte-index l.bytes);
  short : length l.out.items ≤ LONGEST;
}
