use Rattle.resin_request.proofs.Stored.{storable_text, no_text, long_text}
use Rattle.resin_request.proofs.sessions.text_of_array.Goals as goal

pub returns-in-Ok : goal.returns-in-Ok
returns-in-Ok c = storable_text _ _ c.in-Ok.ensures.0 c.in-Ok.ensures.1

pub returns-in-Err-NotStorable : goal.returns-in-Err-NotStorable
returns-in-Err-NotStorable c = no_text c.args.a.now.entries (rw c.in-Err-NotStorable.field-0-is at c.in-Err-NotStorable.ensures)

pub returns-in-Err-TooLong : goal.returns-in-Err-TooLong
returns-in-Err-TooLong c = long_text c.args.a.now.entries (rw c.in-Err-TooLong.field-0-is at c.in-Err-TooLong.ensures)
