-- Steps of writes and of the answer under way (RESIN's default filters in outline; the order is this project's own).
use Rattle.std.specs.Prelude.{◌≡◌, ℕ, ◌+◌, ◌-◌, ◌^◌, nat_lt, nat_le, Bool, false}
use Rattle.std.specs.Prelude.{List, [], ◌∷◌, ◌++◌, length, slice_get, unwrap_or, Option, None, Some, Ok, if◌then◌else◌}
use Rattle.resin_heap.specs.Under.lstr.declared.limits.TheConstants.{LONGEST}
use Rattle.resin_heap.specs.Under.lstr.Texts.{Text}
use Rattle.resin_heap.specs.Under.lstr.declared.text.TextFault.{TextFault}
use Rattle.resin_heap.specs.Under.lstr.declared.text.TextFault.TheVariants.{TooLong, Memory as NoMemory}
use Rattle.resin_stage.specs.Under.journal.declared.channel.Channel.{Channel}
use Rattle.resin_stage.specs.Under.journal.declared.event.Event.{Event}
use Rattle.resin_stage.specs.Under.journal.declared.event.Event.TheVariants.{Passed, Denied, FilterDenied}
use Rattle.resin_heap.specs.Under.scalar.declared.faults.ScriptFault.TheVariants.{FuelSpent, ChannelInCheck, TextTooLong}
use Rattle.resin_stage.specs.Under.scope.Pages.{innermost}
use Rattle.resin_heap.specs.Classes.{class_names}
use Rattle.resin_heap.specs.Objects.{class_at}
use Rattle.resin_heap.specs.Prelude.{name_of}
use Rattle.resin_heap.specs.declared.prelude.PreludeClass.TheVariants.{Throwable}
use Rattle.resin_stage.specs.Stages.{Stage, drawn, noted, sent_page, sent_header, sent_status, sent_mail, opened, closed, buffered}
use Rattle.resin_stage.specs.Writes.{IsOpen, MayAsk, MaySend}
use Rattle.resin_machine.specs.declared.stop.Stop.{Stop}
use Rattle.resin_machine.specs.declared.stop.Stop.TheVariants.{Fault, Memory}
use Rattle.resin_machine.specs.State.{State}
use Rattle.resin_machine.specs.Steps.{Act, faults}
use Rattle.resin_machine.specs.Objects.{is_object}

-- the state with another stage
abbrev pub on_stage : (Stage → Stage) → State → State
on_stage change m = record m { stage = change m.stage }

-- the number of a write that begins; nothing leaves while a check runs
abbrev pub draw : Act ℕ
draw m =
    if m.checking
    then faults ChannelInCheck m
    else (if nat_lt m.stage.writes (2 ^ 64 - 1) then (Ok (m.stage.writes + 1), on_stage drawn m) else faults FuelSpent m)

-- the class of an object, as its name was declared; that of no object is Throwable, of which none is made
abbrev pub class_name_of : ℕ → State → List ℕ
class_name_of o m =
    if is_object m.heap o then unwrap_or (slice_get (class_names m.classes) (class_at m.heap o)) (name_of Throwable) else name_of Throwable

-- an event comes
abbrev pub note : Event → Act (Unit {0})
note e m = (Ok tt, on_stage (noted e) m)

-- a policy returned
abbrev pub pass : ℕ → ℕ → Act (Unit {0})
pass w p = note (Passed w p)

-- a policy threw this exception; these bytes carried it
abbrev pub deny : ℕ → Channel → ℕ → ℕ → ℕ → ℕ → Act (Unit {0})
deny w c p from to thrown m = note (Denied w c p (class_name_of p m) from to (class_name_of thrown m)) m

-- a filter threw this exception, when it was given a text of so many bytes; the number is 0 where the channel is none by which data leaves
abbrev pub deny_filter : ℕ → Channel → ℕ → ℕ → ℕ → Act (Unit {0})
deny_filter w c f len thrown m = note (FilterDenied w c f (class_name_of f m) len (class_name_of thrown m)) m

abbrev pub send_page : ℕ → Text → Act (Unit {0})
send_page w t m = (Ok tt, on_stage (sent_page w t) m)

abbrev pub send_header : ℕ → Text → List ℕ → List ℕ → Bool → Act (Unit {0})
send_header w t name value replace m = (Ok tt, on_stage (sent_header w t name value replace) m)

abbrev pub send_status : ℕ → Text → ℕ → Act (Unit {0})
send_status w t status m = (Ok tt, on_stage (sent_status w t status) m)

abbrev pub send_mail : ℕ → Text → Act (Unit {0})
send_mail w t m = (Ok tt, on_stage (sent_mail m.request w t) m)

-- the write is under way, and these policies returned so far; no check runs
pub record IsUnderWay (w : ℕ) (passed : List ℕ) (m : State) : Type 0 where
  pub way : IsOpen w passed m.stage.journal m.stage.writes
  pub awake : m.checking ≡ false

-- the write under way may ask this policy
pub record MayAskNow (w p : ℕ) (m : State) : Type 0 where
  pub may : MayAsk w p m.stage.journal m.stage.writes
  pub awake : m.checking ≡ false

-- the write under way may send this text
pub record MaySendNow (w : ℕ) (t : Text) (m : State) : Type 0 where
  pub may : MaySend w t m.stage.journal m.stage.writes
  pub awake : m.checking ≡ false

-- ---- output buffers

abbrev pub open_buffer : Act (Unit {0})
open_buffer m = (Ok tt, on_stage opened m)

-- the text of the innermost buffer, if one is open
abbrev pub last_buffer : List Text → Option Text
last_buffer [] = None
last_buffer (b ∷ bs) = Some (innermost (b ∷ bs))

-- closes the innermost buffer, and gives its text
abbrev pub close_buffer : Act (Option Text)
close_buffer m = (Ok (last_buffer m.stage.buffers), on_stage closed m)

-- puts a text into the innermost buffer
abbrev pub buffer : Text → Act (Unit {0})
buffer t m =
    if nat_le (length (innermost m.stage.buffers ++ t)) LONGEST then (Ok tt, on_stage (buffered t) m) else faults TextTooLong m

-- what a text that can't be made means at a line
abbrev pub text_stop : TextFault → ℕ → Stop
text_stop TooLong line = Fault TextTooLong line
text_stop NoMemory line = Memory
