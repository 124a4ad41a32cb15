use Rattle.std.proofs.Common.{◌≡◌, ◌+◌, drop}
use Rattle.std.specs.List.{prefix_len}
use Rattle.resin_label.specs.Sets.{contains}
use Rattle.resin_lstr.specs.declared.text.Run.{Run}
use Rattle.resin_lstr.proofs.runs.holding.Given as goal

abbrev pub invariant-loop-k : goal.invariant-loop-k
invariant-loop-k l = l.k + prefix_len (λ (r : Run). contains r.set l.n) (drop l.k l.runs) ≡ prefix_len (λ (r : Run). contains r.set l.n) l.runs
