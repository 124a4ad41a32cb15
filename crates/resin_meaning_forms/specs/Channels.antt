-- Functions of channels: output buffers, headers, the status, mail, files and tables (PHP manual, "Output Control", "header",
-- "http_response_code", "mail"; files stand in Files.antt, tables in Queries.antt).
use Rattle.std.specs.Prelude.{ℕ, ℤ, pos, negsuc, ◌==◌, ◌||◌, ◌&&◌, not, nat_le}
use Rattle.std.specs.Prelude.{List, [], ◌∷◌, ◌++◌, length, Bool, true, false, if◌then◌else◌, Option, None, Some, codes}
use Rattle.std.specs.List.{list_any}
use Rattle.resin_builtin.specs.Under.label.Sets.{empty as no_labels}
use Rattle.resin_builtin.specs.Under.lstr.Texts.{Text as LabelledText, bytes_of}
use Rattle.resin_target.specs.Under.journal.declared.channel.Channel.TheVariants.{Header, Email}
use Rattle.resin_target.specs.Under.journal.Channels.{channel_name}
use Rattle.resin_builtin.specs.Under.value.declared.key.Key.TheVariants.{Text as TextKey}
use Rattle.resin_builtin.specs.Under.value.declared.value.Value.{Value}
use Rattle.resin_builtin.specs.Under.value.declared.value.Value.TheVariants.{Arr}
use Rattle.resin_builtin.specs.Under.value.Trees.{Tree, null, boolean, integer, text}
use Rattle.resin_builtin.specs.Under.value.Compare.{is_true}
use Rattle.resin_builtin.specs.Under.value.Changes.{put, empty}
use Rattle.resin_target.specs.Under.ops.Conversions.{text_of}
use Rattle.resin_builtin.specs.declared.signatures.ArgKind.{ArgKind}
use Rattle.resin_builtin.specs.declared.signatures.ArgKind.TheVariants.{Text as TextKind, Integer as IntegerKind, Any}
use Rattle.resin_builtin.specs.Under.scalar.declared.faults.ScriptFault.TheVariants.{UndefinedFunction}
use Rattle.resin_target.specs.Under.heap.declared.prelude.PreludeClass.TheVariants.{ValueError}
use Rattle.resin_target.specs.Under.machine.Steps.{awake}
use Rattle.resin_target.specs.Under.machine.Leaving.{open_buffer, close_buffer}
use Rattle.resin_meaning_tables.specs.Under.meaning.Programs.{Prog, give, act, ◌>>=◌}
use Rattle.resin_meaning_forms.specs.declared.callee.ChannelFunction.{ChannelFunction}
use Rattle.resin_meaning_forms.specs.declared.callee.ChannelFunction.TheVariants.{BufferStart, BufferGetClean, BufferEndClean, BufferEndFlush}
use Rattle.resin_meaning_forms.specs.declared.callee.ChannelFunction.TheVariants.{Header as HeaderFunction, ResponseCode, Mail as MailFunction}
use Rattle.resin_meaning_forms.specs.declared.callee.ChannelFunction.TheVariants.{FilePutContents, FileGetContents, Unlink, FileExists, SqlQuery}
use Rattle.resin_meaning_forms.specs.declared.outgoing.Outgoing.TheVariants.{Header as HeaderLine, Status, Mail}
use Rattle.resin_meaning_forms.specs.Parts.{Evals, computed, faulted, thrown_new, looked, charged, given, ◌>>◌}
use Rattle.resin_meaning_forms.specs.Writes.{plain, context_of, leave, write_page}
use Rattle.resin_meaning_forms.specs.Functions.{counted, arguments_of}
use Rattle.resin_meaning_forms.specs.Files.{flags_in, get_contents, put_contents, unlink, exists}
use Rattle.resin_meaning_forms.specs.Queries.{sql_query}

-- ---- buffers

abbrev pub text_or_false : Option LabelledText → Tree
text_or_false None = boolean false
text_or_false (Some t) = text t

abbrev pub is_open : Option LabelledText → Tree
is_open None = boolean false
is_open (Some t) = boolean true

-- a buffer that closed goes into the next one, or leaves where there is none
abbrev pub flushed : Evals → Option LabelledText → Prog Tree
flushed ev None = give (boolean false)
flushed ev (Some t) = write_page ev t >> give (boolean true)

-- ---- headers

-- the number of a status that may be set
abbrev pub status_in : ℤ → Option ℕ
status_in (pos n) = if nat_le 200 n && nat_le n 599 then Some n else None
status_in (negsuc n) = None

abbrev pub status_of : Tree → Option ℕ
status_of (integer n s) = status_in n
status_of t = None

-- a status is written as its decimal text
abbrev pub leave_status : Evals → ℕ → LabelledText → Prog Tree
leave_status ev status told = do
  was ← looked (λ m. m.stage.status)
  leave ev (Status status) (context_of Header) told
  give (integer (pos was) no_labels)

abbrev pub set_status : Evals → Option ℕ → Tree → Prog Tree
set_status ev None n = thrown_new ValueError
set_status ev (Some status) n = computed (text_of n) >>= leave_status ev status

-- ---- mail

-- LF, CR and NUL may not stand in an address or a subject
abbrev pub breaks_lines : ℕ → Bool
breaks_lines b = b == 10 || (b == 13 || b == 0)

abbrev pub is_one_line : LabelledText → Bool
is_one_line t = not (list_any breaks_lines (bytes_of t))

-- what the checks of a mail are told: the address too, with its labels
abbrev pub mail_context : LabelledText → Value
mail_context to = Arr (put (TextKey (codes "email")) (text to) (put (TextKey (codes "type")) (text (plain (channel_name Email))) empty))

-- ---- the calls

-- values that aren't of the kinds that a function takes, or are too few; none such reach the work of a call
abbrev pub unfit : {A : Type 0} → Prog A
unfit = faulted UndefinedFunction

-- the arguments that must stand, and those that may be left out
abbrev pub needed : ChannelFunction → List ArgKind
needed BufferStart = []
needed BufferGetClean = []
needed BufferEndClean = []
needed BufferEndFlush = []
needed HeaderFunction = TextKind ∷ []
needed ResponseCode = IntegerKind ∷ []
needed MailFunction = TextKind ∷ TextKind ∷ TextKind ∷ []
needed FilePutContents = TextKind ∷ TextKind ∷ []
needed FileGetContents = TextKind ∷ []
needed Unlink = TextKind ∷ []
needed FileExists = TextKind ∷ []
needed SqlQuery = TextKind ∷ []

abbrev pub optional : ChannelFunction → List ArgKind
optional HeaderFunction = Any ∷ []
optional FilePutContents = IntegerKind ∷ []
optional f = []

abbrev pub is_count : ChannelFunction → ℕ → Bool
is_count f n = nat_le (length (needed f)) n && nat_le n (length (needed f ++ optional f))

-- whether an argument that may be left out holds; it does where it is left out
abbrev pub flag_in : List Tree → Bool
flag_in [] = true
flag_in (t ∷ ts) = is_true t

-- the work of a call
abbrev pub channel_work : Evals → ChannelFunction → List Tree → Prog Tree
channel_work ev BufferStart ts = act open_buffer >> give (boolean true)
channel_work ev BufferGetClean ts = act close_buffer >>= λ b. give (text_or_false b)
channel_work ev BufferEndClean ts = act close_buffer >>= λ b. give (is_open b)
channel_work ev BufferEndFlush ts = act close_buffer >>= flushed ev
channel_work ev HeaderFunction (text line ∷ ts) = leave ev (HeaderLine (flag_in ts)) (context_of Header) line >> give null
channel_work ev ResponseCode (n ∷ ts) = set_status ev (status_of n) n
channel_work ev MailFunction (text to ∷ text subject ∷ text message ∷ ts) =
    if is_one_line to && is_one_line subject
    then (leave ev (Mail to subject) (mail_context to) message >> give (boolean true)) else thrown_new ValueError
channel_work ev FilePutContents (text path ∷ text t ∷ ts) = put_contents ev (bytes_of path) t (flags_in ts)
channel_work ev FileGetContents (text path ∷ ts) = get_contents ev (bytes_of path)
channel_work ev Unlink (text path ∷ ts) = unlink (bytes_of path)
channel_work ev FileExists (text path ∷ ts) = exists (bytes_of path)
channel_work ev SqlQuery (text query ∷ ts) = sql_query ev query
channel_work ev f ts = unfit

-- files may be read in a check
abbrev pub only_looks : ChannelFunction → Bool
only_looks FileGetContents = true
only_looks FileExists = true
only_looks f = false

-- a call of a function of a channel: a check may not make it, which is asked before all else
abbrev pub channel_function : Evals → ChannelFunction → List Tree → Prog Value
channel_function ev f ts = do
  if only_looks f then give tt else act awake
  counted (is_count f (length ts)) (do
    vs ← arguments_of ev (needed f ++ optional f) ts
    charged vs
    answer ← channel_work ev f vs
    given answer)
