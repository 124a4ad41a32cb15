-- What a journal file can tell: numbers of 64 bits, those of policies and filters of 32 bits, texts of at most 16,777,216 bytes, and classes by
-- names.
use Rattle.std.specs.Prelude.{◌≡◌, ℕ, ◌<◌, ◌≤◌, ◌^◌, List, [], ◌∷◌, length}
use Rattle.resin_label.specs.Sets.{numbers}
use Rattle.resin_lstr.specs.declared.limits.TheConstants.{LONGEST}
use Rattle.resin_lstr.specs.Texts.{Text, sets_of}
use Rattle.resin_scan.specs.Words.{IsName}
use Rattle.resin_journal.specs.declared.event.Event.{Event}
use Rattle.resin_journal.specs.declared.event.Event.TheVariants.{Passed, Sent, Denied, FilterDenied}
use Rattle.resin_journal.specs.Events.{EventList}
use Rattle.resin_journal_file.specs.Files.{file_of}

-- each item of a list is as it has to be
abbrev pub Each : {X : Type 0} → (X → Type 0) → List X → Type 0
Each P [] = Unit {0}
Each P (x ∷ xs) = P x × Each P xs

abbrev pub IsNumber : ℕ → Type 0
IsNumber n = n < 2 ^ 64

-- the number of a policy or a filter
abbrev pub IsObject : ℕ → Type 0
IsObject n = n < 2 ^ 32

-- a text that is short enough, and whose bytes carry numbers of policies
abbrev pub IsLabelled : Text → Type 0
IsLabelled t = (length t ≤ LONGEST) × Each (λ s. Each IsObject (numbers s)) (sets_of t)

-- an event that a file can tell
abbrev pub CanBeTold : Event → Type 0
CanBeTold (Passed w p) = IsNumber w × IsObject p
CanBeTold (Sent w c t) = IsNumber w × IsLabelled t
CanBeTold (Denied w c p class from to by) = IsNumber w × IsObject p × IsName class × IsNumber from × IsNumber to × IsName by
CanBeTold (FilterDenied w c f class len by) = IsNumber w × IsObject f × IsName class × IsNumber len × IsName by

-- the text is the journal file of these journals
pub record IsFileOf (text : List ℕ) (js : List EventList) : Type 0 where
  pub text_is : text ≡ file_of js
  pub count : IsNumber (length js)
  pub told : Each (Each CanBeTold) js

-- the text is a journal file
abbrev pub IsFile : List ℕ → Type 0
IsFile text = (js : List EventList) × IsFileOf text js
