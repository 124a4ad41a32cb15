-- The lines of the denial log (this project).
use Rattle.std.specs.Prelude.{ℕ, List, [], ◌++◌, Option, Some, None, codes, decimal, unwrap_or}
use Rattle.std.specs.List.{flat_map}
use Rattle.resin_journal.specs.declared.channel.Channel.{Channel}
use Rattle.resin_journal.specs.declared.event.Event.{Event}
use Rattle.resin_journal.specs.declared.event.Event.TheVariants.{Passed, Sent, Denied, FilterDenied}
use Rattle.resin_journal.specs.Channels.{channel_name}
use Rattle.resin_journal.specs.Events.{EventList}

-- which write was denied: its request, its number, and its channel
abbrev pub write_part : ℕ → ℕ → Channel → List ℕ
write_part request write channel =
    codes "deny request=" ++ decimal request ++ codes " write=" ++ decimal write ++ codes " channel=" ++ channel_name channel

-- which object denied it: its kind, its class, and its number
abbrev pub object_part : List ℕ → List ℕ → ℕ → List ℕ
object_part kind class number = kind ++ class ++ codes "#" ++ decimal number

-- which bytes were denied, the end not included, and the class of the exception
abbrev pub range_part : ℕ → ℕ → List ℕ → List ℕ
range_part from to by = codes " bytes=" ++ decimal from ++ codes "-" ++ decimal to ++ codes " by=" ++ by ++ codes "\n"

-- the line of an event: a denial by a policy names the first range that carries it, one by a filter the whole text that the filter got
abbrev pub line_of : ℕ → Event → Option (List ℕ)
line_of request (Passed write policy) = None
line_of request (Sent write channel text) = None
line_of request (Denied write channel policy class from to by) =
    Some (write_part request write channel ++ object_part (codes " policy=") class policy ++ range_part from to by)
line_of request (FilterDenied write channel filter class len by) =
    Some (write_part request write channel ++ object_part (codes " filter=") class filter ++ range_part 0 len by)

-- the log of a request: the lines of its journal, in order
abbrev pub log_of : ℕ → EventList → List ℕ
log_of request j = flat_map (λ e. unwrap_or (line_of request e) []) j
