-- What is written to the page (PHP manual, "echo"; the steps of a write are RESIN's default filter in outline).
use Rattle.std.specs.Prelude.{ℕ, List, [], ◌∷◌, ◌++◌, codes, length, ◌==◌, Option, None, Some, if◌then◌else◌, ◌≡◌, decimal}
use Rattle.resin_builtin.specs.Under.label.Sets.{empty as no_labels}
use Rattle.resin_builtin.specs.Under.lstr.Texts.{Text as LabelledText, carrying, bytes_of}
use Rattle.resin_target.specs.Under.journal.declared.channel.Channel.{Channel}
use Rattle.resin_target.specs.Under.journal.declared.channel.Channel.TheVariants.{Http, Header, Email}
use Rattle.resin_target.specs.Under.journal.Channels.{channel_name}
use Rattle.resin_builtin.specs.Under.scalar.declared.faults.ScriptFault.TheVariants.{BadOperand}
use Rattle.resin_builtin.specs.Under.value.declared.key.Key.TheVariants.{Text as TextKey}
use Rattle.resin_builtin.specs.Under.value.declared.value.Value.{Value}
use Rattle.resin_builtin.specs.Under.value.declared.value.Value.TheVariants.{Text, Arr}
use Rattle.resin_builtin.specs.Under.value.Trees.{text}
use Rattle.resin_builtin.specs.Under.value.Seen.{tree_of}
use Rattle.resin_builtin.specs.Under.value.Changes.{put, empty}
use Rattle.resin_target.specs.Under.ops.Conversions.{text_of}
use Rattle.resin_target.specs.Under.scope.Chained.{chain_of}
use Rattle.resin_target.specs.Under.machine.Steps.{awake}
use Rattle.resin_builtin.specs.Under.bytes.declared.header.Header.{Header as HeaderField}
use Rattle.resin_target.specs.Under.stage.Lines.{header_line}
use Rattle.resin_target.specs.Under.heap.declared.prelude.PreludeClass.TheVariants.{ValueError}
use Rattle.resin_target.specs.Under.machine.State.{State}
use Rattle.resin_target.specs.Under.machine.Leaving.{buffer, send_page, send_header, send_status, send_mail}
use Rattle.resin_meaning_tables.specs.Under.meaning.Programs.{Prog, give, act, ◌>>=◌}
use Rattle.resin_meaning_tables.specs.Under.meaning.LeavingWrites.{leaving_write}
use Rattle.resin_meaning_forms.specs.declared.outgoing.Outgoing.{Outgoing}
use Rattle.resin_meaning_forms.specs.declared.outgoing.Outgoing.TheVariants.{Page, Header as HeaderLine, Status, Mail}
use Rattle.resin_meaning_forms.specs.Parts.{Evals, computed, faulted, thrown_new, looked, charge_text, ◌>>◌}
use Rattle.resin_meaning_forms.specs.Operators.{too_long}
use Rattle.resin_meaning_forms.specs.Invoke.{call_object}

-- a text without labels
abbrev pub plain : List ℕ → LabelledText
plain bytes = carrying no_labels bytes

-- what a check or a filter is told: the type of the channel
abbrev pub context_of : Channel → Value
context_of c = Arr (put (TextKey (codes "type")) (text (plain (channel_name c))) empty)

-- a policy is asked: where its check returns, the write passed
abbrev pub check : Evals → Value → ℕ → Prog (Unit {0})
check ev context p = call_object ev p (codes "export_check") (context ∷ []) >> give tt

-- a filter must answer a text
abbrev pub text_answer : Value → Prog LabelledText
text_answer (Text t) = give t
text_answer v = faulted BadOperand

-- a filter is asked about a text that leaves
abbrev pub filter_write : Evals → Value → ℕ → LabelledText → Prog LabelledText
filter_write ev context f t = call_object ev f (codes "filter_write") (Text t ∷ context ∷ []) >>= text_answer

-- ---- what leaves

abbrev pub channel_of : Outgoing → Channel
channel_of Page = Http
channel_of (HeaderLine replace) = Header
channel_of (Status status) = Header
channel_of (Mail to subject) = Email

-- the filters that are asked; none about a status
abbrev pub chain_for : Outgoing → State → List ℕ
chain_for (Status status) m = []
chain_for what m = chain_of (channel_of what) m.chains

-- the header that a line sets; a line that sets none throws
abbrev pub header_or_throw : Option HeaderField → Prog HeaderField
header_or_throw (Some h) = give h
header_or_throw None = thrown_new ValueError

abbrev pub new_line : LabelledText
new_line = plain (10 ∷ [])

-- two texts, one behind the other; there may be no such text
abbrev pub behind : LabelledText → LabelledText → Prog LabelledText
behind t u = computed (too_long (t ++ u))

-- an address, a subject and a message, on lines of their own
abbrev pub joined_mail : LabelledText → LabelledText → LabelledText → Prog LabelledText
joined_mail to subject message = do
  below ← behind new_line message
  named ← behind subject below
  line ← behind new_line named
  behind to line

-- the text that the policies are asked about: a header line is tested, and a mail is joined
abbrev pub prepared : Outgoing → LabelledText → Prog LabelledText
prepared Page d = give d
prepared (HeaderLine replace) d = header_or_throw (header_line (bytes_of d)) >> give d
prepared (Status status) d = give d
prepared (Mail to subject) d = joined_mail to subject d

-- a status is told by its decimal text
abbrev pub IsTold : Outgoing → LabelledText → Type 0
IsTold Page d = Unit {0}
IsTold (HeaderLine replace) d = Unit {0}
IsTold (Status status) d = bytes_of d ≡ decimal status
IsTold (Mail to subject) d = Unit {0}

-- the text goes out
abbrev pub sent : Outgoing → ℕ → LabelledText → Prog (Unit {0})
sent Page w d = act (send_page w d)
sent (HeaderLine replace) w d = header_or_throw (header_line (bytes_of d)) >>= λ h. act (send_header w d h.name h.value replace)
sent (Status status) w d = act (send_status w d status)
sent (Mail to subject) w d = act (send_mail w d)

-- a write, whose checks and filters are told this context: its chain is taken as it stands at its begin
abbrev pub leave : Evals → Outgoing → Value → LabelledText → Prog (Unit {0})
leave ev what context t = do
  chain ← looked (chain_for what)
  leaving_write (check ev context) (filter_write ev context) (channel_of what) chain (prepared what) (sent what) t

-- a text goes into the innermost buffer, where one is open; else it leaves
abbrev pub write_page : Evals → LabelledText → Prog (Unit {0})
write_page ev t = do
  open_buffers ← looked (λ m. length m.stage.buffers)
  if open_buffers == 0 then leave ev Page (context_of Http) t else act (buffer t)

-- one operand of `echo`: a check may not write; the text taken is charged, turned and written
abbrev pub echo : Evals → Value → Prog (Unit {0})
echo ev v = do
  act awake
  charge_text (tree_of v)
  t ← computed (text_of (tree_of v))
  write_page ev t

-- text outside code
abbrev pub inline : Evals → List ℕ → Prog (Unit {0})
inline ev bytes = act awake >> write_page ev (plain bytes)
