-- Names, and words in any case, from the PHP manual.
use Rattle.std.specs.Prelude.{◌≡◌, ℕ, Bool, true, false, ◌&&◌, ◌==◌, List, [], ◌∷◌, Option, Some, None, if◌then◌else◌, codes}
use Rattle.resin_scan.specs.Bytes.{begins_name, is_name_byte, lower}
use Rattle.resin_scan.specs.Lists.{Every}
use Rattle.resin_scan.specs.declared.words.Cast.{Cast}
use Rattle.resin_scan.specs.declared.words.Cast.TheVariants as c

-- a name: a letter, `_` or a byte from 128 on, then those and digits
abbrev pub IsName : List ℕ → Type 0
IsName [] = ⊥
IsName (b ∷ bs) = (begins_name b ≡ true) × Every is_name_byte bs

-- a text is this word, in any case
abbrev pub spells : List ℕ → List ℕ → Bool
spells [] [] = true
spells [] (b ∷ bs) = false
spells (c ∷ cs) [] = false
spells (c ∷ cs) (b ∷ bs) = (lower b == c) && spells cs bs

-- the cast that a word names, in any case
unfoldable pub cast_of : List ℕ → Option Cast
cast_of xs =
    if spells (codes "int") xs then Some c.Int else
    (if spells (codes "string") xs then Some c.Text else (if spells (codes "bool") xs then Some c.Bool else None))
