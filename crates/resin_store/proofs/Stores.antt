-- The labelled store follows what a keeper of files does.
use Rattle.std.proofs.Common.{◌≡◌, ℕ, ◌^◌, ◌<◌, List, length, ap, subst, ◌∙◌}
use Rattle.std.specs.Option.{option_map}
use Rattle.std.specs.Cmp.Lexicographic.{nat_list_cmp_total}
use Rattle.std.specs.FinMap.{get, insert, remove, contains_key, nat_cmp-IsAntisymmetric, slice_cmp-IsAntisymmetric, IsAntisymmetric}
use Rattle.resin_base.specs.Contents.{byte_order}
use Rattle.resin_base.specs.FileStore.{FileStore, entry_of, with_entry}
use Rattle.resin_store.specs.Entries.{Marked, plain_bytes, Second, AreWritten, Good, plain, lift}
use Rattle.resin_store.specs.Files.{lift_files}
use Rattle.resin_store.specs.Laws.{KeepsFiles}
use Rattle.resin_store.proofs.Maps.{get-mapped, contains-mapped, mapped-insert, mapped-remove, mapped_back}
use Rattle.resin_store.proofs.Lifts.{keeps_entries, lifts_written}

paths_same : IsAntisymmetric byte_order
paths_same = slice_cmp-IsAntisymmetric nat_cmp-IsAntisymmetric

pub keeps_files : KeepsFiles
keeps_files s = mapped_back byte_order nat_list_cmp_total paths_same lift plain keeps_entries s

-- what is read
pub lift_get : (s : FileStore) (path : List ℕ) → get (lift_files s) path ≡ option_map lift (get s path)
lift_get s path = get-mapped byte_order lift s path

pub lift_contains : (s : FileStore) (path : List ℕ) → contains_key (lift_files s) path ≡ contains_key s path
lift_contains s path = contains-mapped byte_order lift s path

pub lift_remove : (s : FileStore) (path : List ℕ) → lift_files (remove s path) ≡ remove (lift_files s) path
lift_remove s path = mapped-remove byte_order lift nat_list_cmp_total paths_same s path

-- what is written
pub lift_written : (s : FileStore) (path bytes shadow : List ℕ) (d : Marked) → AreWritten bytes shadow d
    → lift_files (with_entry s path bytes shadow) ≡ insert (lift_files s) path (Good d Second)
lift_written s path bytes shadow d w =
    mapped-insert byte_order lift nat_list_cmp_total paths_same s path (entry_of bytes shadow)
    ∙ ap (insert (lift_files s) path) (ap (λ bs. lift (entry_of bs shadow)) w.bytes_are ∙ ap (λ x. lift (entry_of (plain_bytes d) x)) w.shadow_is
    ∙ lifts_written d w.are_marks (subst (λ (x : List ℕ). length x < 2 ^ 64) w.shadow_is w.short))
