-- The programs of Reading are framed.
use Rattle.std.specs.Prelude.{Option}
use Rattle.std.specs.Prelude.{ℕ, List, [], ◌∷◌, codes}
use Rattle.resin_meaning_forms.specs.Under.lstr.Texts.{Text as LabelledText}
use Rattle.resin_meaning_forms.specs.Under.journal.declared.channel.Channel.{Channel}
use Rattle.resin_meaning_forms.specs.Under.journal.Channels.{channel_name}
use Rattle.resin_meaning_forms.specs.Under.value.declared.key.Key.TheVariants.{Text as TextKey}
use Rattle.resin_meaning_forms.specs.Under.value.declared.value.Value.{Value}
use Rattle.resin_meaning_forms.specs.Under.value.declared.value.Value.TheVariants.{Text, Arr}
use Rattle.resin_meaning_forms.specs.Under.value.Trees.{text}
use Rattle.resin_meaning_forms.specs.Under.value.Changes.{put, empty}
use Rattle.resin_meaning_forms.specs.Under.scope.Chained.{chain_of}
use Rattle.resin_meaning_forms.specs.Under.meaning.Programs.{Prog, ◌>>=◌}
use Rattle.resin_meaning_forms.specs.Under.meaning.LeavingWrites.{ask_filters}
use Rattle.resin_meaning_forms.specs.Parts.{Evals, looked}
use Rattle.resin_meaning_forms.specs.Invoke.{call_object}
use Rattle.resin_meaning_forms.specs.Writes.{plain, text_answer}
use Rattle.resin_meaning_forms.specs.Reading.{path_context, filter_by, pass_filters, read_through, keep_through}
use Rattle.resin_frame.specs.Frames.{IsFramed}
use Rattle.resin_frame.proofs.Frames.{FramedEvals, framing}
use Rattle.resin_frame.proofs.framed_forms.Invoke.{call_object_framed}
use Rattle.resin_frame.proofs.framed_forms.Writes.{text_answer_framed}
use Rattle.resin_frame.proofs.framed_forms.LeavingWrites.{ask_filters_framed}

pub filter_by_framed : {own : Option (List ℕ)} (ev : Evals) (method : List ℕ) (context : Value) (f : ℕ) (t : LabelledText) → FramedEvals own ev → IsFramed {A = LabelledText} own (filter_by ev method context f t)
filter_by_framed ev method context f t h = search (framing, call_object_framed, text_answer_framed) depth 12

pub pass_filters_framed : {own : Option (List ℕ)} (filter : (ℕ → LabelledText → Prog LabelledText)) (c : Channel) (t : LabelledText) → ((x0 : ℕ) (x1 : LabelledText) → IsFramed own (filter x0 x1)) → IsFramed {A = LabelledText} own (pass_filters filter c t)
pass_filters_framed filter c t h_filter = search (framing, ask_filters_framed) depth 12

pub read_through_framed : {own : Option (List ℕ)} (ev : Evals) (c : Channel) (context : Value) (t : LabelledText) → FramedEvals own ev → IsFramed {A = LabelledText} own (read_through ev c context t)
read_through_framed ev c context t h = search (framing, filter_by_framed, pass_filters_framed) depth 12

pub keep_through_framed : {own : Option (List ℕ)} (ev : Evals) (c : Channel) (context : Value) (t : LabelledText) → FramedEvals own ev → IsFramed {A = LabelledText} own (keep_through ev c context t)
keep_through_framed ev c context t h = search (framing, filter_by_framed, pass_filters_framed) depth 12
