use Rattle.resin_sql.specs.Answers.{last_start}
use Rattle.resin_sql.specs.Statements.{statement}
use Rattle.resin_sql.proofs.Endings.{of_whole, of_past, of_fault}
use Rattle.resin_sql.proofs.Whole.{nothing_read, answers, found, is_read}
use Rattle.resin_sql.proofs.read.read_bytes.Goals as goal

pub returns-in-Ok : goal.returns-in-Ok
returns-in-Ok c =
    let bytes = c.args.text.now in
    let h = of_whole statement (last_start 0 0) nothing_read bytes c.new-bytes.result c.statement-found.new.bytes c.left-left.result c.new-bytes.ensures c.left-left.ensures c.in-Ok.found c.in-Ok.ensures c.if-left-eq0.true in
    record { answers = answers bytes _ h; found = found bytes _ h; read = is_read bytes _ h }

pub returns-in-Ok-2 : goal.returns-in-Ok-2
returns-in-Ok-2 c =
    let bytes = c.args.text.now in
    let h = of_past statement (last_start 0 0) nothing_read bytes c.new-bytes.result c.statement-found.new.bytes c.left-left.result c.new-bytes.ensures c.left-left.ensures c.in-Ok-2.field-0 c.refusal.result c.in-Ok-2.ensures c.if-left-eq0.false c.refusal.ensures in
    record { answers = answers bytes _ h; found = found bytes _ h; read = is_read bytes _ h }

pub returns-in-Err : goal.returns-in-Err
returns-in-Err c =
    let bytes = c.args.text.now in
    let h = of_fault statement (last_start 0 0) nothing_read bytes c.new-bytes.result c.statement-found.new.bytes c.left-left.result c.new-bytes.ensures c.left-left.ensures c.in-Err.fault c.refusal-in-Err.result c.in-Err.ensures c.refusal-in-Err.ensures in
    record { answers = answers bytes _ h; found = found bytes _ h; read = is_read bytes _ h }
