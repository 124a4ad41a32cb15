-- What the guard of pages answers.
use Rattle.resin_label.specs.Sets.{NumberSet}
use Rattle.resin_lstr.specs.Texts.{Text, bytes_of}
use Rattle.resin_guard.specs.Pages.{Places}
use Rattle.resin_guard.specs.Answers.{IsPage, IsFirstFault}
use Rattle.resin_guard.specs.Judged.{IsJudged}
use Rattle.resin_guard.specs.declared.judge.Guard.{Guard}
use Rattle.resin_guard.specs.declared.judge.Guard.TheVariants.{Pass, Bad, Untrusted}

-- of a page: Bad where it is none, with the place of its fault; else as its safe places judge it
abbrev pub IsPageGuard : NumberSet → Text → Guard → Type 0
IsPageGuard bad d (Bad at) = ((places : Places) → IsPage (bytes_of d) places → ⊥) × IsFirstFault (bytes_of d) at
IsPageGuard bad d Pass = (places : Places) × IsPage (bytes_of d) places × IsJudged bad places d Pass
IsPageGuard bad d (Untrusted at) = (places : Places) × IsPage (bytes_of d) places × IsJudged bad places d (Untrusted at)
