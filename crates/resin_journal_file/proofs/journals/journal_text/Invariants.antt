use Rattle.std.proofs.Common.{◌≡◌, ◌++◌, take}
use Rattle.std.specs.List.{flat_map}
use Rattle.resin_journal_file.specs.Files.{event_text, request_line}
use Rattle.resin_journal_file.proofs.journals.journal_text.Given as goal

abbrev pub invariant-loop-event : goal.invariant-loop-event
invariant-loop-event l = l.text ≡ request_line l.request ++ flat_map event_text (take l.event-index l.event-items)
