-- The programs of Files are framed.
use Rattle.std.specs.Prelude.{ℕ, ℤ, pos, ◌+◌, ◌==◌, ◌&&◌, ◌||◌, nat_le, List, [], ◌∷◌, ◌++◌, length, zip, Bool, true, false, if◌then◌else◌, Option, None, Some}
use Rattle.std.specs.Ordering.{int_eq}
use Rattle.resin_meaning_forms.specs.Under.bytes.Paths.{is_lawful_path}
use Rattle.resin_meaning_forms.specs.Under.label.Sets.{empty as no_labels}
use Rattle.resin_meaning_forms.specs.Under.lstr.declared.limits.TheConstants.{LONGEST}
use Rattle.resin_meaning_forms.specs.Under.lstr.Texts.{Text as LabelledText, bytes_of}
use Rattle.resin_meaning_forms.specs.Under.journal.declared.channel.Channel.TheVariants.{File}
use Rattle.resin_meaning_forms.specs.Under.scalar.declared.faults.ScriptFault.TheVariants.{BadShadow, TextTooLong}
use Rattle.resin_meaning_forms.specs.Under.value.Trees.{Tree, boolean, integer, text}
use Rattle.resin_meaning_forms.specs.Under.heap.declared.prelude.PreludeClass.TheVariants.{ValueError}
use Rattle.resin_meaning_forms.specs.Under.store.Entries.{Marked, LabelledEntry, Good, Bad}
use Rattle.resin_meaning_forms.specs.Under.meaning.Programs.{Prog, give, ◌>>=◌}
use Rattle.resin_meaning_forms.specs.Under.meaning.KeeperCalls.{read_file, write_file, remove_file, file_exists}
use Rattle.resin_meaning_forms.specs.Parts.{Evals, faulted, thrown_new, ◌>>◌}
use Rattle.resin_meaning_forms.specs.Keeping.{thaw_entry, freeze_text}
use Rattle.resin_meaning_forms.specs.Reading.{path_context, read_through, keep_through}
use Rattle.resin_meaning_forms.specs.Files.{at_lawful, contents_of, get_contents, append_flag, is_flag, flags_in, longer, behind_held, behind_found, to_hold, put_data, put_contents, unlink, exists}
use Rattle.resin_frame.specs.Frames.{IsFramed}
use Rattle.std.proofs.Common.{◌≡◌, Ok}
use Rattle.resin_meaning_forms.specs.Sessions.{is_of_other}
use Rattle.resin_frame.proofs.Frames.{framed_bind, framed_ended, framed_where, framed_if, framed_read, framed_write, framed_remove, framed_exists, lawful_seen, FramedEvals, framing}
use Rattle.resin_frame.proofs.framed_forms.Keeping.{freeze_text_framed, thaw_entry_framed}
use Rattle.resin_frame.proofs.framed_forms.Reading.{keep_through_framed, read_through_framed}

pub at_lawful_framed : {own : Option (List ℕ)} {A : Type 0} (path : List ℕ) (p : Prog A) → (is_lawful_path path ≡ true → IsFramed own p) → IsFramed {A = A} own (at_lawful path p)
at_lawful_framed path p h_p = framed_where (is_lawful_path path) p (thrown_new ValueError) h_p (search framing)

pub contents_of_framed : {own : Option (List ℕ)} (ev : Evals) (path : List ℕ) (a2 : Option LabelledEntry) → FramedEvals own ev → IsFramed {A = Tree} own (contents_of ev path a2)
contents_of_framed ev path None h = search framing depth 12
contents_of_framed ev path (Some e) h = search (framing, thaw_entry_framed, read_through_framed) depth 12

pub get_contents_framed : {own : Option (List ℕ)} (ev : Evals) (path : List ℕ) → FramedEvals own ev → IsFramed {A = Tree} own (get_contents ev path)
get_contents_framed ev path h =
    at_lawful_framed path _ (λ k. framed_bind _ _ (framed_read path (lawful_seen _ path k)) (λ e. contents_of_framed ev path e h))

pub longer_framed : {own : Option (List ℕ)} (old : Marked) (new : Marked) → IsFramed {A = Marked} own (longer old new)
longer_framed old new = search framing depth 12

pub behind_held_framed : {own : Option (List ℕ)} (new : Marked) (a1 : LabelledEntry) → IsFramed {A = Marked} own (behind_held new a1)
behind_held_framed new (Good old version) = search (framing, longer_framed) depth 12
behind_held_framed new (Bad bytes shadow) = search framing depth 12

pub behind_found_framed : {own : Option (List ℕ)} (new : Marked) (a1 : Option LabelledEntry) → IsFramed {A = Marked} own (behind_found new a1)
behind_found_framed new None = search framing depth 12
behind_found_framed new (Some e) = search (framing, behind_held_framed) depth 12

pub to_hold_framed : {own : Option (List ℕ)} (path : List ℕ) (flags : ℤ) (new : Marked) → is_of_other own path ≡ false → IsFramed {A = Marked} own (to_hold path flags new)
to_hold_framed path flags new k =
    framed_if _ _ _ (framed_bind _ _ (framed_read path k) (λ e. behind_found_framed new e)) (framed_ended (Ok new))

pub put_data_framed : {own : Option (List ℕ)} (ev : Evals) (path : List ℕ) (t : LabelledText) (flags : ℤ) → is_of_other own path ≡ false → FramedEvals own ev → IsFramed {A = Tree} own (put_data ev path t flags)
put_data_framed ev path t flags k h = search (framing, freeze_text_framed, keep_through_framed, to_hold_framed, framed_write) depth 12

pub put_contents_framed : {own : Option (List ℕ)} (ev : Evals) (path : List ℕ) (t : LabelledText) (flags : ℤ) → FramedEvals own ev → IsFramed {A = Tree} own (put_contents ev path t flags)
put_contents_framed ev path t flags h =
    at_lawful_framed path _ (λ k. framed_if (is_flag flags) (put_data ev path t flags) (thrown_new ValueError) (put_data_framed ev path t flags (lawful_seen _ path k) h) (search framing))

pub unlink_framed : {own : Option (List ℕ)} (path : List ℕ) → IsFramed {A = Tree} own (unlink path)
unlink_framed path = at_lawful_framed path _ (λ k. framed_bind _ _ (framed_remove path (lawful_seen _ path k)) (λ b. framed_ended (Ok (boolean b))))

pub exists_framed : {own : Option (List ℕ)} (path : List ℕ) → IsFramed {A = Tree} own (exists path)
exists_framed path = at_lawful_framed path _ (λ k. framed_bind _ _ (framed_exists path (lawful_seen _ path k)) (λ b. framed_ended (Ok (boolean b))))
