-- Functions on files (PHP manual, "file_get_contents", "file_put_contents", "unlink" and "file_exists"; what stands beside the bytes is
-- this project's).
use Rattle.std.specs.Prelude.{ℕ, ℤ, pos, ◌+◌, ◌==◌, ◌&&◌, ◌||◌, nat_le}
use Rattle.std.specs.Prelude.{List, [], ◌∷◌, ◌++◌, length, zip, Bool, true, false, if◌then◌else◌, Option, None, Some}
use Rattle.std.specs.Ordering.{int_eq}
use Rattle.resin_builtin.specs.Under.bytes.Paths.{is_lawful_path}
use Rattle.resin_builtin.specs.Under.label.Sets.{empty as no_labels}
use Rattle.resin_builtin.specs.Under.lstr.declared.limits.TheConstants.{LONGEST}
use Rattle.resin_builtin.specs.Under.lstr.Texts.{Text as LabelledText, bytes_of}
use Rattle.resin_target.specs.Under.journal.declared.channel.Channel.TheVariants.{File}
use Rattle.resin_builtin.specs.Under.scalar.declared.faults.ScriptFault.TheVariants.{BadShadow, TextTooLong}
use Rattle.resin_builtin.specs.Under.value.Trees.{Tree, boolean, integer, text}
use Rattle.resin_target.specs.Under.heap.declared.prelude.PreludeClass.TheVariants.{ValueError}
use Rattle.resin_meaning_tables.specs.Under.store.Entries.{Marked, LabelledEntry, Good, Bad}
use Rattle.resin_meaning_tables.specs.Under.meaning.Programs.{Prog, give, ◌>>=◌}
use Rattle.resin_meaning_tables.specs.Under.meaning.KeeperCalls.{read_file, write_file, remove_file, file_exists}
use Rattle.resin_meaning_forms.specs.Parts.{Evals, faulted, thrown_new, ◌>>◌}
use Rattle.resin_meaning_forms.specs.Keeping.{thaw_entry, freeze_text}
use Rattle.resin_meaning_forms.specs.Reading.{path_context, read_through, keep_through}

-- a path that no file may have throws ValueError
abbrev pub at_lawful : {A : Type 0} → List ℕ → Prog A → Prog A
at_lawful path p = if is_lawful_path path then p else thrown_new ValueError

-- ---- file_get_contents

-- what is held is thawed, and passes the filters; false where nothing is
abbrev pub contents_of : Evals → List ℕ → Option LabelledEntry → Prog Tree
contents_of ev path None = give (boolean false)
contents_of ev path (Some e) = do
  t ← thaw_entry e
  read ← read_through ev File (path_context File path) t
  give (text read)

abbrev pub get_contents : Evals → List ℕ → Prog Tree
get_contents ev path = at_lawful path (read_file path >>= contents_of ev path)

-- ---- file_put_contents

-- FILE_APPEND
abbrev pub append_flag : ℤ
append_flag = pos 8

-- only 0 and FILE_APPEND may be given
abbrev pub is_flag : ℤ → Bool
is_flag n = int_eq n (pos 0) || int_eq n append_flag

abbrev pub flags_in : List Tree → ℤ
flags_in (integer n s ∷ ts) = n
flags_in ts = pos 0

-- new bytes behind old ones, with the sets of both; a text may not be longer than the longest, before or after
abbrev pub longer : Marked → Marked → Prog Marked
longer old new = if nat_le (length old + length new) LONGEST then give (old ++ new) else faulted TextTooLong

abbrev pub behind_held : Marked → LabelledEntry → Prog Marked
behind_held new (Good old version) = if nat_le (length old) LONGEST then longer old new else faulted TextTooLong
behind_held new (Bad bytes shadow) = if nat_le (length bytes) LONGEST then faulted BadShadow else faulted TextTooLong

abbrev pub behind_found : Marked → Option LabelledEntry → Prog Marked
behind_found new None = give new
behind_found new (Some e) = behind_held new e

-- what is to be held: the new bytes alone, or behind those that are held
abbrev pub to_hold : List ℕ → ℤ → Marked → Prog Marked
to_hold path flags new = if int_eq flags append_flag then (read_file path >>= behind_found new) else give new

-- the data passes the filters, and its policies are frozen, before the first keeper call; the answer is how many bytes the filters gave
abbrev pub put_data : Evals → List ℕ → LabelledText → ℤ → Prog Tree
put_data ev path t flags = do
  kept ← keep_through ev File (path_context File path) t
  marks ← freeze_text kept
  held ← to_hold path flags (zip (bytes_of kept) marks)
  write_file path held
  give (integer (pos (length kept)) no_labels)

abbrev pub put_contents : Evals → List ℕ → LabelledText → ℤ → Prog Tree
put_contents ev path t flags = at_lawful path (if is_flag flags then put_data ev path t flags else thrown_new ValueError)

-- ---- unlink, file_exists

abbrev pub unlink : List ℕ → Prog Tree
unlink path = at_lawful path (remove_file path >>= λ was. give (boolean was))

abbrev pub exists : List ℕ → Prog Tree
exists path = at_lawful path (file_exists path >>= λ is. give (boolean is))
