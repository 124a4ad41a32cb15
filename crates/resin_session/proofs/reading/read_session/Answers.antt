use Rattle.std.proofs.Common.{arith}
use Rattle.resin_session.proofs.Sessions.{session_read, nothing_kept}
use Rattle.resin_session.proofs.reading.read_session.Goals as goal

pub returns-in-Ok-clause-kept : goal.returns-in-Ok-clause-kept
returns-in-Ok-clause-kept c = session_read c.args.text.now c.in-Ok.array c.in-Ok.ensures

pub returns-in-Err-Form-clause-kept : goal.returns-in-Err-Form-clause-kept
returns-in-Err-Form-clause-kept c = nothing_kept c.args.text.now (omega (arith, c.len-len.ensures.value, c.len-len.ensures.short)) (rw c.in-Err-Form.field-0-is at c.in-Err-Form.ensures)
