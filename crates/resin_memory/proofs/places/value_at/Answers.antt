use Rattle.std.proofs.Common.{sym}
use Rattle.resin_memory.proofs.Find.{find-here}
use Rattle.resin_memory.proofs.places.value_at.Goals as goal

pub returns-in-Some : goal.returns-in-Some
returns-in-Some g c =
    let at = c.in-Some.ensures in
    sym (find-here _ _ c.in-Some.i c.index-entries-i.result at.within at.none (at.here c.index-entries-i.result))
