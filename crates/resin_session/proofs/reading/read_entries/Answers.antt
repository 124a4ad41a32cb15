use Rattle.resin_session.proofs.Sessions.{begun_more, falls}
use Rattle.resin_session.proofs.reading.read_entries.Goals as goal

pub entries-preserved : goal.entries-preserved
entries-preserved c = begun_more c.args.text.now c.entries.array c.in_ok-array-2.array c.entries.rest c.read_entry.new.rest c.entries.invariant c.in_ok-array-2.ensures

pub entries-smaller : goal.entries-smaller
entries-smaller c = falls c.entries.array.entries c.in_ok-array-2.array.entries c.entries.rest c.read_entry.new.rest c.in_ok-array-2.ensures.0
