use Rattle.std.proofs.Common.{sym, ◌∙◌}
use Rattle.resin_shadow.proofs.Ending.{other_length2}
use Rattle.resin_shadow.proofs.Finding.{kept2}
use Rattle.resin_shadow.proofs.decoding.second_read.Goals as goal

pub returns-then-len : goal.returns-then-len
returns-then-len c = other_length2 c.args.len c.args.shadow.now c.args.runs c.requires.some c.requires.size c.requires.read (λ e. c.if-len.true (c.len.ensures.count ∙ e))

pub returns : goal.returns
returns c = kept2 c.args.len c.args.shadow.now _ c.args.runs c.kept.result c.requires.some c.requires.size c.requires.read c.in_ok-text.ensures (sym c.len.ensures.count ∙ c.if-len.false) c.kept.ensures
