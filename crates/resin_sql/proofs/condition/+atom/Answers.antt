use Rattle.std.proofs.Common.{arith}
use Rattle.resin_sql.specs.Conditions.{tested_as}
use Rattle.resin_sql.proofs.Nesting.{no_room, in_room}
use Rattle.resin_sql.proofs.condition.+atom.Goals as goal

pub returns-then-room-eq0 : goal.returns-then-room-eq0
returns-then-room-eq0 t c = no_room (tested_as c.args.naming) c.args.room c.args.free c.args.bytes.now c.no_bracket.new.bytes c.no_bracket.result c.if-room-eq0.true c.no_bracket.ensures

pub returns-else-room-eq0 : goal.returns-else-room-eq0
returns-else-room-eq0 t c = in_room (tested_as c.args.naming) c.args.room c.args.free c.args.bytes.now c.begun.new.bytes c.begun.result (omega (arith, c.if-room-eq0.false)) c.begun.ensures
