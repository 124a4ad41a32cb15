use Rattle.std.proofs.Common.{sym}
use Rattle.resin_scan.proofs.Scans.{same_length}
use Rattle.resin_scan.proofs.words.spells.Goals as goal

pub returns-then-word-s : goal.returns-then-word-s
returns-then-word-s c = sym (same_length c.args.word.now c.args.s.now c.if-word-s.true)
