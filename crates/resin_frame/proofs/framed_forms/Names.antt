-- The programs of Names are framed.
use Rattle.std.specs.Prelude.{ℕ, Bool, List, [], ◌∷◌, Option, None, Some, is_some, if◌then◌else◌, codes}
use Rattle.std.specs.Option.{option_map}
use Rattle.resin_meaning_forms.specs.Under.builtin.Under.scan.Words.{spells}
use Rattle.resin_meaning_forms.specs.Under.builtin.Names.{builtin_named}
use Rattle.resin_meaning_forms.specs.Under.scalar.declared.faults.ScriptFault.TheVariants.{UndefinedFunction}
use Rattle.resin_meaning_forms.specs.Under.machine.State.{State}
use Rattle.resin_meaning_forms.specs.Under.machine.Objects.{function_named}
use Rattle.resin_meaning_forms.specs.Under.meaning.Programs.{Prog, give, ◌>>=◌}
use Rattle.resin_meaning_forms.specs.declared.callee.Callee.{Callee}
use Rattle.resin_meaning_forms.specs.declared.callee.Callee.TheVariants.{Script, Builtin, State as OfState, Channel}
use Rattle.resin_meaning_forms.specs.declared.callee.StateFunction.{StateFunction}
use Rattle.resin_meaning_forms.specs.declared.callee.StateFunction.TheVariants.{PolicyAdd, PolicyRemove, PolicyGet, FilterAdd, FilterRemove, FilterFunctionAdd, GetClass}
use Rattle.resin_meaning_forms.specs.declared.callee.ChannelFunction.{ChannelFunction}
use Rattle.resin_meaning_forms.specs.declared.callee.ChannelFunction.TheVariants.{BufferStart, BufferGetClean, BufferEndClean, BufferEndFlush, Header, ResponseCode, Mail, FilePutContents, FileGetContents, Unlink, FileExists, SqlQuery}
use Rattle.resin_meaning_forms.specs.Parts.{faulted, looked}
use Rattle.resin_meaning_forms.specs.Names.{state_names, channel_names, named_in, state_named, channel_named, or_else, own_named, is_taken, callee_named, or_unknown, find_callee}
use Rattle.resin_frame.specs.Frames.{IsFramed}
use Rattle.resin_frame.proofs.Frames.{framing}

pub or_unknown_framed : {own : Option (List ℕ)} (a0 : Option Callee) → IsFramed {A = Callee} own (or_unknown a0)
or_unknown_framed (Some callee) = search framing depth 12
or_unknown_framed None = search framing depth 12

pub find_callee_framed : {own : Option (List ℕ)} (name : List ℕ) → IsFramed {A = Callee} own (find_callee name)
find_callee_framed name = search (framing, or_unknown_framed) depth 12
