use Rattle.std.proofs.Common.{◌≡◌}
use Rattle.std.specs.List.{slice_range}
use Rattle.resin_array_fn.specs.Filled.{filled_on, with_kept_keys}
use Rattle.resin_array_fn.proofs.fill.with_part.Given as goal

abbrev pub invariant-loop-i : goal.invariant-loop-i
invariant-loop-i l = filled_on l.out (with_kept_keys l.keep (slice_range l.a.entries l.i l.to)) ≡ filled_on l.fn.out (with_kept_keys l.keep (slice_range l.a.entries l.from l.to))
