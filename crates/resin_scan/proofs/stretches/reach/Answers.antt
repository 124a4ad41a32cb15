use Rattle.std.proofs.Common.{◌≡◌, ◌<◌, ◌+◌, false, length, drop, subst, rules, arith}
use Rattle.resin_scan.specs.Stretches.{reach, stops}
use Rattle.resin_scan.proofs.Scans.{tail, taken_along, goes_on}
use Rattle.resin_scan.proofs.stretches.reach.Goals as goal
use Rattle.resin_scan.proofs.stretches.reach.Goals.{then-escaped, else-escaped+else-stops}

pub loop-i-preserved : goal.loop-i-preserved
loop-i-preserved c =
    let stop = c.args.stop in
    let s = c.args.s.now in
    let total = reach stop false s in
    let within : c.loop-i.i < length s = omega arith in
    elim c.if-escaped.branch [
      | then-escaped w ↦ rw w.escaped-is (taken_along stop s c.loop-i.i within total (subst (λ e. c.loop-i.i + reach stop e (drop c.loop-i.i s) ≡ total) w.if-escaped.true c.loop-i.invariant))
      | else-escaped+else-stops w ↦
          (let closed : stops stop (drop c.loop-i.i s) ≡ false = search (rules, w.if-stops.ensures, tail s c.loop-i.i) in
          rw (w.escaped-is, w.escapes-escaped.ensures) (goes_on stop s c.loop-i.i within total (subst (λ e. c.loop-i.i + reach stop e (drop c.loop-i.i s) ≡ total) w.if-escaped.false c.loop-i.invariant) closed))
    ]
