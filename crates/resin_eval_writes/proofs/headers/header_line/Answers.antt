use Rattle.std.proofs.Common.{Some, true, sym, ◌∙◌}
use Rattle.resin_eval_writes.proofs.HeaderLines.{colon_missing, line_parted}
use Rattle.resin_eval_writes.proofs.headers.header_line.Goals as goal

pub returns-in_default : goal.returns-in_default
returns-in_default c = colon_missing c.args.line.now c.colon.result c.colon.ensures c.in_default.is

pub returns : goal.returns
returns c =
    (λ i. Some (record { name = c.in_ok-from_slice.ensures i; value = (c.in_ok-from_slice-2.ensures ∙ c.trimmed.ensures) i }))
    ∙ sym (line_parted c.args.line.now c.colon.result c.in-Some.at true c.colon.ensures c.in-Some.is (cc (c.if-not-is_settable.false, c.is_settable.ensures)))
