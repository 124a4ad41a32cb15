use Rattle.std.proofs.Common.{sym, ap, ◌∙◌, arith, length, ◌-◌}
use Rattle.resin_lstr.proofs.Spelled.{last_end_at}
use Rattle.resin_text_fn.proofs.letters.end_of.Goals as goal

pub returns-in-len1-up : goal.returns-in-len1-up
returns-in-len1-up c = ap (λ r. r.end) c.last-item.is ∙ sym (last_end_at c.args.runs.now (length c.args.runs.now - 1) c.last-item.result (omega arith))
