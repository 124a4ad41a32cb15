use Rattle.std.proofs.Common.{◌≡◌, ◌+◌, drop}
use Rattle.std.specs.List.{prefix_len}
use Rattle.resin_text_fn.specs.Rows.{is_among}
use Rattle.resin_text_fn.proofs.parts.front_len.Given as goal

abbrev pub invariant-loop-k : goal.invariant-loop-k
invariant-loop-k l = l.k + prefix_len (is_among l.chars) (drop l.k l.bytes) ≡ prefix_len (is_among l.chars) l.bytes
