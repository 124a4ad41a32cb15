use Rattle.std.proofs.Common.{refl, arith, ◌+◌, length, take, drop, ◌-◌, ◌<◌}
use Rattle.resin_trace.proofs.Tailing.{led_more, tail_goes, tail_stuck}
use Rattle.resin_trace.proofs.scan.records_end.Goals as goal

pub records-preserved-in-Piece : goal.records-preserved-in-Piece
records-preserved-in-Piece c =
    let below : c.in-Piece.to < length (take (length c.args.text.now - c.records.at) (drop c.records.at c.args.text.now)) = c.in-Piece.ensures.2 in
    (led_more c.args.text.now _ c.records.at (c.in-Piece.to + 1) _ c.records.invariant refl c.in-Piece.ensures.0 (omega arith)).0

pub records-preserved : goal.records-preserved
records-preserved c = (led_more c.args.text.now _ c.records.at c.in-End.used _ c.records.invariant refl c.in-End.ensures.0 c.in-End.ensures.1).0

pub returns-in-Need : goal.returns-in-Need
returns-in-Need c = tail_goes c.args.text.now _ c.records.at c.records.invariant refl c.in-Need.ensures

pub returns-in-Bad : goal.returns-in-Bad
returns-in-Bad c = tail_stuck c.args.text.now _ c.records.at c.records.invariant refl c.in-Bad.ensures

pub records-smaller-in-Piece : goal.records-smaller-in-Piece
records-smaller-in-Piece c =
    let below : c.in-Piece.to < length (take (length c.args.text.now - c.records.at) (drop c.records.at c.args.text.now)) = c.in-Piece.ensures.2 in
    omega arith
