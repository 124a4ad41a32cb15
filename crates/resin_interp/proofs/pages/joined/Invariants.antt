-- the texts so far are the last ones, joined
use Rattle.std.proofs.Common.{◌≡◌, ◌-◌, ◌≤◌, length, drop}
use Rattle.resin_eval_calls.specs.Under.lstr.declared.limits.TheConstants.{LONGEST}
use Rattle.resin_interp.specs.Pages.{joined_outwards}
use Rattle.resin_interp.proofs.pages.joined.Given as goal

abbrev pub invariant-loop-i : goal.invariant-loop-i
invariant-loop-i l = (l.all ≡ joined_outwards (drop (length l.texts - l.i) l.texts)) × (length l.all ≤ LONGEST)
