-- Laws of the labelled store.
use Rattle.std.specs.Prelude.{◌≡◌, ◌↔◌, ℕ, ℤ, ◌<◌, ◌^◌, List, [], ◌∷◌, length}
use Rattle.resin_base.specs.FileStore.{FileStore, entry_of}
use Rattle.resin_base.specs.declared.cell.Cell.TheVariants as cell
use Rattle.resin_base.specs.declared.cell.Kind.{Kind}
use Rattle.resin_base.specs.declared.cell.Kind.TheVariants as kind
use Rattle.resin_base.specs.declared.files.Entry.{Entry}
use Rattle.resin_base.specs.declared.stored.StoredCell.{StoredCell}
use Rattle.resin_shadow.specs.Marks.{TextSet, Marks, AreMarks}
use Rattle.resin_shadow.specs.Shadows.{Spells, written2}
use Rattle.resin_store.specs.Entries.{Marked, plain_bytes, marks, Version, Second, written, Good, Bad, plain, lift}
use Rattle.resin_store.specs.Files.{lift_files, plain_files}
use Rattle.resin_store.specs.Cells.{Text, Integer, stored, plain_cell, one_byte, lift_cell}

-- a keeper holds of a lifted entry what it held
abbrev pub KeepsEntries : Type 0
KeepsEntries = (e : Entry) → plain (lift e) ≡ e

-- the same of all files
abbrev pub KeepsFiles : Type 0
KeepsFiles = (s : FileStore) → plain_files (lift_files s) ≡ s

-- bytes and shadow text have as many bytes as a number of 64 bits counts
pub record IsHeld (e : Entry) : Type 0 where
  pub bytes : length e.bytes < 2 ^ 64
  pub shadow : length e.shadow < 2 ^ 64

-- marked bytes are those of an entry, and its shadow text spells their sets in this version; an empty one is of the second
pub record Tells (e : Entry) (d : Marked) (v : Version) : Type 0 where
  pub bytes_are : plain_bytes d ≡ e.bytes
  pub are_marks : AreMarks (marks d)
  pub spells : e.shadow ≡ written v (marks d)
  pub empty : e.shadow ≡ [] → v ≡ Second

-- no sets of as many bytes are spelled by the shadow text of an entry
abbrev pub SpellsNone : Entry → Type 0
SpellsNone e = (v : Marks) → AreMarks v → Spells e.shadow v → length v ≡ length e.bytes → ⊥

-- an entry is good exactly by what its shadow text tells
abbrev pub LiftsGood : Type 0
LiftsGood = (e : Entry) (d : Marked) (v : Version) → IsHeld e → (lift e ≡ Good d v) ↔ Tells e d v

-- and damaged exactly where it tells nothing
abbrev pub LiftsBad : Type 0
LiftsBad = (e : Entry) → IsHeld e → (lift e ≡ Bad e.bytes e.shadow) ↔ SpellsNone e

-- what is written in the second version is read as what it was
abbrev pub LiftsWritten : Type 0
LiftsWritten = (d : Marked) → AreMarks (marks d) → length (written2 (marks d)) < 2 ^ 64 → lift (plain (Good d Second)) ≡ Good d Second

-- a keeper holds of a lifted cell what it held
abbrev pub KeepsCells : Type 0
KeepsCells = (k : Kind) (c : StoredCell) → plain_cell (lift_cell k c) ≡ c

-- a text is good exactly by what its shadow text tells
abbrev pub LiftsTexts : Type 0
LiftsTexts =
    (bytes shadow : List ℕ) (d : Marked) (v : Version) → IsHeld (entry_of bytes shadow)
    → (lift_cell kind.Text (stored (cell.Text bytes) (cell.Text shadow)) ≡ Text d v) ↔ Tells (entry_of bytes shadow) d v

-- and so is an integer, as one byte
abbrev pub LiftsIntegers : Type 0
LiftsIntegers =
    (n : ℤ) (shadow : List ℕ) (s : TextSet) (v : Version) → IsHeld (one_byte shadow)
    → (lift_cell kind.Integer (stored (cell.Int n) (cell.Text shadow)) ≡ Integer n s v) ↔ Tells (one_byte shadow) ((0, s) ∷ []) v
