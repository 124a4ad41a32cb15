-- The inputs of a request: each value passes the filters of inputs, then they are set (PHP manual, "Variables From External Sources";
-- filters after RESIN).
use Rattle.std.specs.Prelude.{ℕ, ℤ, List, [], ◌∷◌, codes, Option, Some}
use Rattle.std.specs.Fmt.{signed_decimal}
use Rattle.resin_builtin.specs.Under.lstr.Texts.{Text as LabelledText}
use Rattle.resin_target.specs.Under.journal.declared.channel.Channel.TheVariants.{Input}
use Rattle.resin_target.specs.Under.journal.Channels.{channel_name}
use Rattle.resin_builtin.specs.Under.value.declared.key.Key.{Key}
use Rattle.resin_builtin.specs.Under.value.declared.key.Key.TheVariants.{Int as IntKey, Text as TextKey}
use Rattle.resin_builtin.specs.Under.value.declared.value.Value.{Value}
use Rattle.resin_builtin.specs.Under.value.declared.value.Value.TheVariants.{Arr}
use Rattle.resin_builtin.specs.Under.value.Trees.{Tree, text, array}
use Rattle.resin_builtin.specs.Under.value.Arrays.{Array, EntryList, entries_of, row_of}
use Rattle.resin_builtin.specs.Under.value.Changes.{put, empty}
use Rattle.resin_builtin.specs.Under.array_fn.Filled.{added_at}
use Rattle.resin_target.specs.Under.machine.Variables.{assign}
use Rattle.resin_meaning_tables.specs.Under.meaning.Programs.{Prog, give, act, ◌>>=◌}
use Rattle.resin_meaning_forms.specs.Parts.{Evals, computed, ◌>>◌}
use Rattle.resin_meaning_forms.specs.Writes.{plain}
use Rattle.resin_meaning_forms.specs.Reading.{read_through}

-- a key as text
abbrev pub key_text : Key → List ℕ
key_text (IntKey n) = signed_decimal n
key_text (TextKey b) = b

-- what a filter of inputs is told: the array by its name, and the outermost key
abbrev pub input_context : List ℕ → List ℕ → Value
input_context name key = Arr (
    put (TextKey (codes "key")) (text (plain key)) (
    put (TextKey (codes "name")) (text (plain name)) (
    put (TextKey (codes "type")) (text (plain (channel_name Input))) empty)))

-- a text as its filters give it; another value stays
abbrev pub filtered_text : Evals → Value → Tree → Prog Tree
filtered_text ev context (text t) = read_through ev Input context t >>= λ u. give (text u)
filtered_text ev context t = give t

-- an array whose values are put back in their places, in order, as `filter` gives them by their keys
abbrev pub filtered_entries : (Key → Tree → Prog Tree) → EntryList → Array → Prog Array
filtered_entries filter [] a = give a
filtered_entries filter (e ∷ es) a = do
  v ← filter e.0 e.1
  b ← computed (added_at (Some e.0) v a)
  filtered_entries filter es b

abbrev pub as_tree : Array → Tree
as_tree a = array (row_of a.entries) a.largest a.height

-- the values of an array, about which the filters are told the same
abbrev pub filtered_texts : Evals → Value → Array → Prog Array
filtered_texts ev context a = filtered_entries (λ k t. filtered_text ev context t) a.entries a

-- an input: a text, or an array of texts, about whose values the filters are told the key of that array
abbrev pub filtered_input : Evals → List ℕ → Key → Tree → Prog Tree
filtered_input ev name key (array r l h) =
    filtered_texts ev (input_context name (key_text key)) (record { entries = entries_of r; largest = l; height = h }) >>= λ a. give (as_tree a)
filtered_input ev name key t = filtered_text ev (input_context name (key_text key)) t

abbrev pub filtered_array : Evals → List ℕ → Array → Prog Array
filtered_array ev name a = filtered_entries (filtered_input ev name) a.entries a

-- the inputs pass their filters in the order of get, post, cookie and server, then they are set
abbrev pub set_inputs : Evals → Array → Array → Array → Array → Prog (Unit {0})
set_inputs ev get post cookie server = do
  g ← filtered_array ev (codes "get") get
  p ← filtered_array ev (codes "post") post
  c ← filtered_array ev (codes "cookie") cookie
  s ← filtered_array ev (codes "server") server
  act (assign (codes "_GET") (Arr g))
  act (assign (codes "_POST") (Arr p))
  act (assign (codes "_COOKIE") (Arr c))
  act (assign (codes "_SERVER") (Arr s))
