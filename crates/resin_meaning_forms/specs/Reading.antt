-- What is kept and what is read passes the filters of its channel (RESIN's default filters in outline). Nothing leaves there, so no write
-- has a number.
use Rattle.std.specs.Prelude.{ℕ, List, [], ◌∷◌, codes}
use Rattle.resin_builtin.specs.Under.lstr.Texts.{Text as LabelledText}
use Rattle.resin_target.specs.Under.journal.declared.channel.Channel.{Channel}
use Rattle.resin_target.specs.Under.journal.Channels.{channel_name}
use Rattle.resin_builtin.specs.Under.value.declared.key.Key.TheVariants.{Text as TextKey}
use Rattle.resin_builtin.specs.Under.value.declared.value.Value.{Value}
use Rattle.resin_builtin.specs.Under.value.declared.value.Value.TheVariants.{Text, Arr}
use Rattle.resin_builtin.specs.Under.value.Trees.{text}
use Rattle.resin_builtin.specs.Under.value.Changes.{put, empty}
use Rattle.resin_target.specs.Under.scope.Chained.{chain_of}
use Rattle.resin_meaning_tables.specs.Under.meaning.Programs.{Prog, ◌>>=◌}
use Rattle.resin_meaning_tables.specs.Under.meaning.LeavingWrites.{ask_filters}
use Rattle.resin_meaning_forms.specs.Parts.{Evals, looked}
use Rattle.resin_meaning_forms.specs.Invoke.{call_object}
use Rattle.resin_meaning_forms.specs.Writes.{plain, text_answer}

-- what the filters of files and of source texts are told: the channel, and the path as the script named it
abbrev pub path_context : Channel → List ℕ → Value
path_context c path = Arr (put (TextKey (codes "file")) (text (plain path)) (put (TextKey (codes "type")) (text (plain (channel_name c))) empty))

-- a filter is asked about a text, by the name of its method
abbrev pub filter_by : Evals → List ℕ → Value → ℕ → LabelledText → Prog LabelledText
filter_by ev method context f t = call_object ev f method (Text t ∷ context ∷ []) >>= text_answer

-- the filters of a channel are asked, as its chain stands at the begin, each about the answer of the one before
abbrev pub pass_filters : (ℕ → LabelledText → Prog LabelledText) → Channel → LabelledText → Prog LabelledText
pass_filters filter c t = looked (λ m. chain_of c m.chains) >>= λ chain. ask_filters filter 0 c chain t

-- a text that is read on a channel
abbrev pub read_through : Evals → Channel → Value → LabelledText → Prog LabelledText
read_through ev c context t = pass_filters (filter_by ev (codes "filter_read") context) c t

-- a text that is kept by a channel
abbrev pub keep_through : Evals → Channel → Value → LabelledText → Prog LabelledText
keep_through ev c context t = pass_filters (filter_by ev (codes "filter_write") context) c t
