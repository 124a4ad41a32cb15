-- The outside of a run, as its sinks and its keepers tell it (this project).
use Rattle.std.specs.Prelude.{ℕ, List}
use Rattle.resin_site.specs.Under.base.declared.files.Files as Files
use Rattle.resin_site.specs.Under.base.declared.sink.Sink as Sink
use Rattle.resin_site.specs.Under.base.declared.tables.Tables as Tables
use Rattle.resin_site.specs.Keeping.{answers, store_of}
use Rattle.resin_serve.specs.Ran.{World, world}
use Rattle.resin_serve.specs.Gives.{Sinks, counts, sinks}
use Rattle.resin_serve.specs.Kept.{Keepers, keepers}

-- the counts of the three sinks
abbrev pub sinks_of : {L M O : Type 0} → Sink.Ghosts L → Sink.Ghosts M → Sink.Ghosts O → L → M → O → Sinks
sinks_of of_log of_mail of_out log mail out =
    sinks (counts (of_log.faults log) (of_log.stalls log)) (counts (of_mail.faults mail) (of_mail.stalls mail))
    (counts (of_out.faults out) (of_out.stalls out))

-- the keepers, once so many calls were made on them, of which these failed
abbrev pub keepers_of : {F T : Type 0} → Files.Ghosts F → Tables.Ghosts T → F → T → ℕ → List ℕ → Keepers
keepers_of of_files of_tables files tables made failed =
    keepers made failed (of_files.answers files) (of_files.faults files) (of_tables.answers tables) (of_tables.faults tables)

-- what the sinks took and the keepers hold, once so many keeper calls were made
abbrev pub world_of : {L M O F T : Type 0} → Sink.Ghosts L → Sink.Ghosts M → Sink.Ghosts O → Files.Ghosts F → Tables.Ghosts T
    → L → M → O → F → T → ℕ → World
world_of of_log of_mail of_out of_files of_tables log mail out files tables made =
    world (of_log.written log) (of_mail.written mail) (of_out.written out) (store_of (of_files.stored files) (of_tables.stored tables))
    (answers (of_files.answers files) (of_tables.answers tables)) made
