use Rattle.std.proofs.Common.{◌≤◌, drop, length, subst, arith, rules}
use Rattle.std.proofs.lemmas.List.{length-drop}
use Rattle.resin_scan.proofs.Scans.{tail}
use Rattle.resin_scan.proofs.Turns.{turn}
use Rattle.resin_scan.proofs.escapes.worked.Goals as goal

pub loop-i-preserved : goal.loop-i-preserved
loop-i-preserved c =
    let s = c.args.s.now in
    let i = c.loop-i.i in
    let t = tail s i in
    let p = c.first_piece-piece.result in
    let w : p.taken ≤ length (drop i s) = subst (λ xs. p.taken ≤ length xs) t c.first_piece-piece.ensures.within in (
      omega (arith, length-drop i s),
      turn c.args.quoting s c.loop-i.out.items c.push_meaning.new.out.items i p (omega arith) c.first_piece-piece.ensures.some (search (rules, c.first_piece-piece.ensures.is, tail s i)) c.in_ok-push_meaning.ensures c.loop-i.invariant.1,
    )
