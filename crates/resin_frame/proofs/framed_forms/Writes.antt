-- The programs of Writes are framed.
use Rattle.std.specs.Prelude.{ℕ, List, [], ◌∷◌, ◌++◌, codes, length, ◌==◌, Option, None, Some, if◌then◌else◌, ◌≡◌, decimal}
use Rattle.resin_meaning_forms.specs.Under.label.Sets.{empty as no_labels}
use Rattle.resin_meaning_forms.specs.Under.lstr.Texts.{Text as LabelledText, carrying, bytes_of}
use Rattle.resin_meaning_forms.specs.Under.journal.declared.channel.Channel.{Channel}
use Rattle.resin_meaning_forms.specs.Under.journal.declared.channel.Channel.TheVariants.{Http, Header, Email}
use Rattle.resin_meaning_forms.specs.Under.journal.Channels.{channel_name}
use Rattle.resin_meaning_forms.specs.Under.scalar.declared.faults.ScriptFault.TheVariants.{BadOperand}
use Rattle.resin_meaning_forms.specs.Under.value.declared.key.Key.TheVariants.{Text as TextKey}
use Rattle.resin_meaning_forms.specs.Under.value.declared.value.Value.{Value}
use Rattle.resin_meaning_forms.specs.Under.value.declared.value.Value.TheVariants.{Text, Arr}
use Rattle.resin_meaning_forms.specs.Under.value.Trees.{text}
use Rattle.resin_meaning_forms.specs.Under.value.Seen.{tree_of}
use Rattle.resin_meaning_forms.specs.Under.value.Changes.{put, empty}
use Rattle.resin_meaning_forms.specs.Under.ops.Conversions.{text_of}
use Rattle.resin_meaning_forms.specs.Under.scope.Chained.{chain_of}
use Rattle.resin_meaning_forms.specs.Under.machine.Steps.{awake}
use Rattle.resin_meaning_forms.specs.Under.bytes.declared.header.Header.{Header as HeaderField}
use Rattle.resin_meaning_forms.specs.Under.stage.Lines.{header_line}
use Rattle.resin_meaning_forms.specs.Under.heap.declared.prelude.PreludeClass.TheVariants.{ValueError}
use Rattle.resin_meaning_forms.specs.Under.machine.State.{State}
use Rattle.resin_meaning_forms.specs.Under.machine.Leaving.{buffer, send_page, send_header, send_status, send_mail}
use Rattle.resin_meaning_forms.specs.Under.meaning.Programs.{Prog, give, act, ◌>>=◌}
use Rattle.resin_meaning_forms.specs.Under.meaning.LeavingWrites.{leaving_write}
use Rattle.resin_meaning_forms.specs.declared.outgoing.Outgoing.{Outgoing}
use Rattle.resin_meaning_forms.specs.declared.outgoing.Outgoing.TheVariants.{Page, Header as HeaderLine, Status, Mail}
use Rattle.resin_meaning_forms.specs.Parts.{Evals, computed, faulted, thrown_new, looked, charge_text, ◌>>◌}
use Rattle.resin_meaning_forms.specs.Operators.{too_long}
use Rattle.resin_meaning_forms.specs.Invoke.{call_object}
use Rattle.resin_meaning_forms.specs.Writes.{plain, context_of, check, text_answer, filter_write, channel_of, chain_for, header_or_throw, new_line, behind, joined_mail, prepared, IsTold, sent, leave, write_page, echo, inline}
use Rattle.resin_frame.specs.Frames.{IsFramed}
use Rattle.resin_frame.proofs.Frames.{framed_bind, framed_looked, FramedEvals, framing}
use Rattle.resin_frame.proofs.Numbers.{chain_for_numberless}
use Rattle.resin_frame.proofs.framed_forms.Invoke.{call_object_framed}
use Rattle.resin_frame.proofs.framed_forms.LeavingWrites.{leaving_write_framed}
use Rattle.resin_frame.proofs.framed_forms.Parts.{charge_text_framed}

pub check_framed : {own : Option (List ℕ)} (ev : Evals) (context : Value) (p : ℕ) → FramedEvals own ev → IsFramed {A = (Unit {0})} own (check ev context p)
check_framed ev context p h = search (framing, call_object_framed) depth 12

pub text_answer_framed : {own : Option (List ℕ)} (v : Value) → IsFramed {A = LabelledText} own (text_answer v)
text_answer_framed (Text t) = search framing depth 12
text_answer_framed v = search framing depth 12

pub filter_write_framed : {own : Option (List ℕ)} (ev : Evals) (context : Value) (f : ℕ) (t : LabelledText) → FramedEvals own ev → IsFramed {A = LabelledText} own (filter_write ev context f t)
filter_write_framed ev context f t h = search (framing, call_object_framed, text_answer_framed) depth 12

pub header_or_throw_framed : {own : Option (List ℕ)} (a0 : Option HeaderField) → IsFramed {A = HeaderField} own (header_or_throw a0)
header_or_throw_framed (Some h) = search framing depth 12
header_or_throw_framed None = search framing depth 12

pub behind_framed : {own : Option (List ℕ)} (t : LabelledText) (u : LabelledText) → IsFramed {A = LabelledText} own (behind t u)
behind_framed t u = search framing depth 12

pub joined_mail_framed : {own : Option (List ℕ)} (to : LabelledText) (subject : LabelledText) (message : LabelledText) → IsFramed {A = LabelledText} own (joined_mail to subject message)
joined_mail_framed to subject message = search (framing, behind_framed) depth 12

pub prepared_framed : {own : Option (List ℕ)} (a0 : Outgoing) (d : LabelledText) → IsFramed {A = LabelledText} own (prepared a0 d)
prepared_framed Page d = search framing depth 12
prepared_framed (HeaderLine replace) d = search (framing, header_or_throw_framed) depth 12
prepared_framed (Status status) d = search framing depth 12
prepared_framed (Mail to subject) d = search (framing, joined_mail_framed) depth 12

pub sent_framed : {own : Option (List ℕ)} (a0 : Outgoing) (w : ℕ) (d : LabelledText) → IsFramed {A = (Unit {0})} own (sent a0 w d)
sent_framed Page w d = search framing depth 12
sent_framed (HeaderLine replace) w d = search (framing, header_or_throw_framed) depth 12
sent_framed (Status status) w d = search framing depth 12
sent_framed (Mail to subject) w d = search framing depth 12

pub leave_framed : {own : Option (List ℕ)} (ev : Evals) (what : Outgoing) (context : Value) (t : LabelledText) → FramedEvals own ev → IsFramed {A = (Unit {0})} own (leave ev what context t)
leave_framed ev what context t h =
    framed_bind _ _ (framed_looked (chain_for what) (chain_for_numberless what))
    (λ chain. search (framing, leaving_write_framed, check_framed, filter_write_framed, prepared_framed, sent_framed) depth 12)

pub write_page_framed : {own : Option (List ℕ)} (ev : Evals) (t : LabelledText) → FramedEvals own ev → IsFramed {A = (Unit {0})} own (write_page ev t)
write_page_framed ev t h = search (framing, leave_framed) depth 12

pub echo_framed : {own : Option (List ℕ)} (ev : Evals) (v : Value) → FramedEvals own ev → IsFramed {A = (Unit {0})} own (echo ev v)
echo_framed ev v h = search (framing, charge_text_framed, write_page_framed) depth 12

pub inline_framed : {own : Option (List ℕ)} (ev : Evals) (bytes : List ℕ) → FramedEvals own ev → IsFramed {A = (Unit {0})} own (inline ev bytes)
inline_framed ev bytes h = search (framing, write_page_framed) depth 12
