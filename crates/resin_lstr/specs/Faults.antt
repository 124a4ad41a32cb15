-- What a call answers whose text may be too long.
use Rattle.std.specs.Prelude.{◌≡◌, ◌<◌, ◌≤◌, length, Result, Ok, Err}
use Rattle.resin_lstr.specs.Texts.{Text, LONGEST}
use Rattle.resin_lstr.specs.declared.text.TextFault.{TextFault}
use Rattle.resin_lstr.specs.declared.text.TextFault.TheVariants.{TooLong, Memory}

-- the text where it is short enough, and TooLong where it is not; want of memory may stand in the place of either
abbrev pub GivesText : Result Text TextFault → Text → Type 0
GivesText (Ok t) x = (t ≡ x) × (length x ≤ LONGEST)
GivesText (Err TooLong) x = LONGEST < length x
GivesText (Err Memory) x = Unit {0}
