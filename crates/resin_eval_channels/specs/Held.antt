-- Bytes that are to be held, with their policies, as the code has them.
use Rattle.std.specs.Prelude.{◌≡◌, ℕ, pos, List, length, zip}
use Rattle.resin_eval_queries.specs.Under.label.Sets.{empty as no_labels}
use Rattle.resin_eval_queries.specs.Under.meaning.KeeperCalls.{write_file}
use Rattle.resin_eval_queries.specs.Under.meaning.Programs.{Prog, give}
use Rattle.resin_eval_queries.specs.Under.meaning_forms.Parts.{◌>>◌}
use Rattle.resin_eval_queries.specs.Under.value.Trees.{Tree, integer}
use Rattle.resin_eval_queries.specs.Under.store.Entries.{Marked}
use Rattle.resin_eval_channels.specs.declared.files.Held.{Held}

-- the bytes, each with its policies
abbrev pub marked : Held → Marked
marked h = zip h.bytes h.marks

-- each byte has its policies
abbrev pub IsHeld : Held → Type 0
IsHeld h = length h.bytes ≡ length h.marks

-- what is held is written, and the answer is a count
abbrev pub written : List ℕ → Marked → ℕ → Prog Tree
written path d count = write_file path d >> give (integer (pos count) no_labels)
