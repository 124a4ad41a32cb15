-- The programs of Inputs are framed.
use Rattle.std.specs.Prelude.{ℕ, ℤ, List, [], ◌∷◌, codes, Option, Some}
use Rattle.std.specs.Fmt.{signed_decimal}
use Rattle.resin_meaning_forms.specs.Under.lstr.Texts.{Text as LabelledText}
use Rattle.resin_meaning_forms.specs.Under.journal.declared.channel.Channel.TheVariants.{Input}
use Rattle.resin_meaning_forms.specs.Under.journal.Channels.{channel_name}
use Rattle.resin_meaning_forms.specs.Under.value.declared.key.Key.{Key}
use Rattle.resin_meaning_forms.specs.Under.value.declared.key.Key.TheVariants.{Int as IntKey, Text as TextKey}
use Rattle.resin_meaning_forms.specs.Under.value.declared.value.Value.{Value}
use Rattle.resin_meaning_forms.specs.Under.value.declared.value.Value.TheVariants.{Arr}
use Rattle.resin_meaning_forms.specs.Under.value.Trees.{Tree, text, array}
use Rattle.resin_meaning_forms.specs.Under.value.Arrays.{Array, EntryList, entries_of, row_of}
use Rattle.resin_meaning_forms.specs.Under.value.Changes.{put, empty}
use Rattle.resin_meaning_forms.specs.Under.array_fn.Filled.{added_at}
use Rattle.resin_meaning_forms.specs.Under.machine.Variables.{assign}
use Rattle.resin_meaning_forms.specs.Under.meaning.Programs.{Prog, give, act, ◌>>=◌}
use Rattle.resin_meaning_forms.specs.Parts.{Evals, computed, ◌>>◌}
use Rattle.resin_meaning_forms.specs.Writes.{plain}
use Rattle.resin_meaning_forms.specs.Reading.{read_through}
use Rattle.resin_meaning_forms.specs.Inputs.{key_text, input_context, filtered_text, filtered_entries, as_tree, filtered_texts, filtered_input, filtered_array, set_inputs}
use Rattle.resin_frame.specs.Frames.{IsFramed}
use Rattle.resin_frame.proofs.Frames.{FramedEvals, framing}
use Rattle.resin_frame.proofs.framed_forms.Reading.{read_through_framed}

pub filtered_text_framed : {own : Option (List ℕ)} (ev : Evals) (context : Value) (t : Tree) → FramedEvals own ev → IsFramed {A = Tree} own (filtered_text ev context t)
filtered_text_framed ev context (text t) h = search (framing, read_through_framed) depth 12
filtered_text_framed ev context t h = search framing depth 12

pub filtered_entries_framed : {own : Option (List ℕ)} (filter : (Key → Tree → Prog Tree)) (a1 : EntryList) (a : Array) → ((x0 : Key) (x1 : Tree) → IsFramed own (filter x0 x1)) → IsFramed {A = Array} own (filtered_entries filter a1 a)
filtered_entries_framed filter [] a h_filter = search framing depth 12
filtered_entries_framed {own = own} filter (e ∷ es) a h_filter = let ih = λ (y2 : Array). filtered_entries_framed {own = own} filter es y2 h_filter in search (framing, ih) depth 12

pub filtered_texts_framed : {own : Option (List ℕ)} (ev : Evals) (context : Value) (a : Array) → FramedEvals own ev → IsFramed {A = Array} own (filtered_texts ev context a)
filtered_texts_framed ev context a h = search (framing, filtered_text_framed, filtered_entries_framed) depth 12

pub filtered_input_framed : {own : Option (List ℕ)} (ev : Evals) (name : List ℕ) (key : Key) (t : Tree) → FramedEvals own ev → IsFramed {A = Tree} own (filtered_input ev name key t)
filtered_input_framed ev name key (array r l height) h = search (framing, filtered_texts_framed) depth 12
filtered_input_framed ev name key t h = search (framing, filtered_text_framed) depth 12

pub filtered_array_framed : {own : Option (List ℕ)} (ev : Evals) (name : List ℕ) (a : Array) → FramedEvals own ev → IsFramed {A = Array} own (filtered_array ev name a)
filtered_array_framed ev name a h = search (framing, filtered_entries_framed, filtered_input_framed) depth 12

pub set_inputs_framed : {own : Option (List ℕ)} (ev : Evals) (get : Array) (post : Array) (cookie : Array) (server : Array) → FramedEvals own ev → IsFramed {A = (Unit {0})} own (set_inputs ev get post cookie server)
set_inputs_framed ev get post cookie server h = search (framing, filtered_array_framed) depth 12
