use Rattle.std.proofs.Common.{◌≡◌, ◌≤◌, ◌+◌, length, take}
use Rattle.std.specs.List.{suffix_len}
use Rattle.resin_text_fn.specs.Rows.{is_among}
use Rattle.resin_text_fn.proofs.parts.kept_len.Given as goal

abbrev pub invariant-loop-end : goal.invariant-loop-end
invariant-loop-end l = record {
  within : l.end ≤ length l.bytes;
  is : l.end + suffix_len (is_among l.chars) l.bytes ≡ length l.bytes + suffix_len (is_among l.chars) (take l.end l.bytes);
}

abbrev pub decreases-loop-end : goal.decreases-loop-end
decreases-loop-end l = l.end
