use Rattle.std.proofs.Common.{◌≡◌, ◌≤◌, ◌++◌, length, drop}
use Rattle.std.specs.List.{flat_map, join_by}
use Rattle.resin_lstr.specs.declared.limits.TheConstants.{LONGEST}
use Rattle.resin_text_fn.proofs.join.joined.Given as goal

abbrev pub invariant-loop-text : goal.invariant-loop-text
invariant-loop-text l = record {
  is : l.out ++ flat_map (λ t. l.glue ++ t) (drop l.text-index l.others) ≡ join_by (λ t. t) l.glue l.texts;
  short : length l.out ≤ LONGEST;
}
