-- The programs of Channels are framed.
use Rattle.std.specs.Prelude.{ℕ, ℤ, pos, negsuc, ◌==◌, ◌||◌, ◌&&◌, not, nat_le, List, [], ◌∷◌, ◌++◌, length, Bool, true, false, if◌then◌else◌, Option, None, Some, codes}
use Rattle.std.specs.List.{list_any}
use Rattle.resin_meaning_forms.specs.Under.label.Sets.{empty as no_labels}
use Rattle.resin_meaning_forms.specs.Under.lstr.Texts.{Text as LabelledText, bytes_of}
use Rattle.resin_meaning_forms.specs.Under.journal.declared.channel.Channel.TheVariants.{Header, Email}
use Rattle.resin_meaning_forms.specs.Under.journal.Channels.{channel_name}
use Rattle.resin_meaning_forms.specs.Under.value.declared.key.Key.TheVariants.{Text as TextKey}
use Rattle.resin_meaning_forms.specs.Under.value.declared.value.Value.{Value}
use Rattle.resin_meaning_forms.specs.Under.value.declared.value.Value.TheVariants.{Arr}
use Rattle.resin_meaning_forms.specs.Under.value.Trees.{Tree, null, boolean, integer, text}
use Rattle.resin_meaning_forms.specs.Under.value.Compare.{is_true}
use Rattle.resin_meaning_forms.specs.Under.value.Changes.{put, empty}
use Rattle.resin_meaning_forms.specs.Under.ops.Conversions.{text_of}
use Rattle.resin_meaning_forms.specs.Under.builtin.declared.signatures.ArgKind.{ArgKind}
use Rattle.resin_meaning_forms.specs.Under.builtin.declared.signatures.ArgKind.TheVariants.{Text as TextKind, Integer as IntegerKind, Any}
use Rattle.resin_meaning_forms.specs.Under.scalar.declared.faults.ScriptFault.TheVariants.{UndefinedFunction}
use Rattle.resin_meaning_forms.specs.Under.heap.declared.prelude.PreludeClass.TheVariants.{ValueError}
use Rattle.resin_meaning_forms.specs.Under.machine.Steps.{awake}
use Rattle.resin_meaning_forms.specs.Under.machine.Leaving.{open_buffer, close_buffer}
use Rattle.resin_meaning_forms.specs.Under.meaning.Programs.{Prog, give, act, ◌>>=◌}
use Rattle.resin_meaning_forms.specs.declared.callee.ChannelFunction.{ChannelFunction}
use Rattle.resin_meaning_forms.specs.declared.callee.ChannelFunction.TheVariants.{BufferStart, BufferGetClean, BufferEndClean, BufferEndFlush, Header as HeaderFunction, ResponseCode, Mail as MailFunction, FilePutContents, FileGetContents, Unlink, FileExists, SqlQuery}
use Rattle.resin_meaning_forms.specs.declared.outgoing.Outgoing.TheVariants.{Header as HeaderLine, Status, Mail}
use Rattle.resin_meaning_forms.specs.Parts.{Evals, computed, faulted, thrown_new, looked, charged, given, ◌>>◌}
use Rattle.resin_meaning_forms.specs.Writes.{plain, context_of, leave, write_page}
use Rattle.resin_meaning_forms.specs.Functions.{counted, arguments_of}
use Rattle.resin_meaning_forms.specs.Files.{flags_in, get_contents, put_contents, unlink, exists}
use Rattle.resin_meaning_forms.specs.Queries.{sql_query}
use Rattle.resin_meaning_forms.specs.Channels.{text_or_false, is_open, flushed, status_in, status_of, leave_status, set_status, breaks_lines, is_one_line, mail_context, unfit, needed, optional, is_count, flag_in, channel_work, only_looks, channel_function}
use Rattle.resin_frame.specs.Frames.{IsFramed}
use Rattle.resin_frame.proofs.Frames.{FramedEvals, framing}
use Rattle.resin_frame.proofs.framed_forms.Writes.{leave_framed, write_page_framed}
use Rattle.resin_frame.proofs.framed_forms.Files.{exists_framed, get_contents_framed, put_contents_framed, unlink_framed}
use Rattle.resin_frame.proofs.framed_forms.Queries.{sql_query_framed}
use Rattle.resin_frame.proofs.framed_forms.Parts.{charged_framed, given_framed}
use Rattle.resin_frame.proofs.framed_forms.Functions.{arguments_of_framed, counted_framed}

pub flushed_framed : {own : Option (List ℕ)} (ev : Evals) (a1 : Option LabelledText) → FramedEvals own ev → IsFramed {A = Tree} own (flushed ev a1)
flushed_framed ev None h = search framing depth 12
flushed_framed ev (Some t) h = search (framing, write_page_framed) depth 12

pub leave_status_framed : {own : Option (List ℕ)} (ev : Evals) (status : ℕ) (told : LabelledText) → FramedEvals own ev → IsFramed {A = Tree} own (leave_status ev status told)
leave_status_framed ev status told h = search (framing, leave_framed) depth 12

pub set_status_framed : {own : Option (List ℕ)} (ev : Evals) (a1 : Option ℕ) (n : Tree) → FramedEvals own ev → IsFramed {A = Tree} own (set_status ev a1 n)
set_status_framed ev None n h = search framing depth 12
set_status_framed ev (Some status) n h = search (framing, leave_status_framed) depth 12

pub unfit_framed : {own : Option (List ℕ)} {A : Type 0} → IsFramed {A = A} own unfit
unfit_framed = search framing depth 12

pub channel_work_framed : {own : Option (List ℕ)} (ev : Evals) (f : ChannelFunction) (ts : List Tree) → FramedEvals own ev → IsFramed {A = Tree} own (channel_work ev f ts)
channel_work_framed ev BufferStart ts h = search framing depth 12
channel_work_framed ev BufferGetClean ts h = search framing depth 12
channel_work_framed ev BufferEndClean ts h = search framing depth 12
channel_work_framed ev BufferEndFlush ts h = search (framing, flushed_framed) depth 12
channel_work_framed ev HeaderFunction (text line ∷ ts) h = search (framing, leave_framed) depth 12
channel_work_framed ev ResponseCode (n ∷ ts) h = search (framing, set_status_framed) depth 12
channel_work_framed ev MailFunction (text to ∷ text subject ∷ text message ∷ ts) h = search (framing, leave_framed) depth 12
channel_work_framed ev FilePutContents (text path ∷ text t ∷ ts) h = search (framing, put_contents_framed) depth 12
channel_work_framed ev FileGetContents (text path ∷ ts) h = search (framing, get_contents_framed) depth 12
channel_work_framed ev Unlink (text path ∷ ts) h = search (framing, unlink_framed) depth 12
channel_work_framed ev FileExists (text path ∷ ts) h = search (framing, exists_framed) depth 12
channel_work_framed ev SqlQuery (text query ∷ ts) h = search (framing, sql_query_framed) depth 12
channel_work_framed ev f ts h = search (framing, unfit_framed) depth 12

pub channel_function_framed : {own : Option (List ℕ)} (ev : Evals) (f : ChannelFunction) (ts : List Tree) → FramedEvals own ev → IsFramed {A = Value} own (channel_function ev f ts)
channel_function_framed ev f ts h = search (framing, charged_framed, given_framed, counted_framed, arguments_of_framed, channel_work_framed) depth 12
