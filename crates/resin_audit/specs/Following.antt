-- The access law event by event: what has to be kept of the events so far, and when one more may come.
use Rattle.std.specs.Prelude.{◌≡◌, ℕ, ◌==◌, ◌&&◌, not, nat_lt, nat_eq, Bool, true, false, List, [], ◌∷◌, ◌++◌, Option, Some, None, if◌then◌else◌}
use Rattle.std.specs.Cmp.Lexicographic.{pointwise}
use Rattle.resin_journal.specs.Channels.{is_leaving}
use Rattle.resin_journal.specs.declared.channel.Channel.{Channel}
use Rattle.resin_journal.specs.Access.{is_among}
use Rattle.resin_journal_file.specs.Reading.{and_then}
use Rattle.resin_audit.specs.declared.items.Told.{Told}
use Rattle.resin_audit.specs.declared.items.Told.TheVariants.{Passed, Sent, Denied, FilterDenied}

-- the last write of a journal: its number, which is 0 where none began; the policies that returned in it, in order; and whether it went out or
-- was denied
pub record Last : Type 0 where
  pub write : ℕ
  pub passed : List ℕ
  pub ended : Bool

abbrev pub nothing_yet : Last
nothing_yet = record { write = 0; passed = []; ended = false }

-- an event of this write may come: a larger number begins a write, and the last one goes on until it ended
abbrev pub goes_on : ℕ → Last → Option Last
goes_on w s =
    if nat_lt s.write w then Some (record { write = w; passed = []; ended = false })
    else (if w == s.write && nat_lt 0 w && not s.ended then Some s else None)

-- the same of an event on a channel by which data leaves
abbrev pub may_leave : ℕ → Channel → Last → Option Last
may_leave w c s = if is_leaving c then goes_on w s else None

abbrev pub passes : ℕ → Last → Option Last
passes p s = if is_among p s.passed then None else Some (record { write = s.write; passed = s.passed ++ p ∷ []; ended = s.ended })

abbrev pub ends : Bool → Last → Option Last
ends lawful s = if lawful then Some (record { write = s.write; passed = s.passed; ended = true }) else None

abbrev pub is_none : List ℕ → Bool
is_none [] = true
is_none (p ∷ ps) = false

-- a policy denied, of which is told whether it denied some bytes
abbrev pub denies : ℕ → Channel → ℕ → Bool → Last → Option Last
denies w c p some s = and_then (may_leave w c s) (λ s. ends (some && not (is_among p s.passed)) s)

-- what is kept behind one more event, where it may come
abbrev pub behind : Told → Last → Option Last
behind (Passed w p) s = and_then (goes_on w s) (passes p)
behind (Sent w c ps) s = and_then (may_leave w c s) (λ s. ends (pointwise nat_eq s.passed ps) s)
behind (Denied w c p from to) s = denies w c p (nat_lt from to) s
behind (FilterDenied w c) s =
    if w == 0 then (if is_leaving c then None else Some s) else and_then (may_leave w c s) (λ s. ends (is_none s.passed) s)

-- what a call answers that moves on where an event may come
abbrev pub Moves : Option Last → Bool → Last → Type 0
Moves (Some s) true new = new ≡ s
Moves (Some s) false new = ⊥
Moves None true new = ⊥
Moves None false new = Unit {0}
