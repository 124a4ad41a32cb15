-- Reading a shadow text from its front: what it spells, if it is written in the one way. Whether it is so written is seen by writing it again.
use Rattle.std.specs.Prelude.{◌≡◌, ℕ, zero, suc, ◌+◌, ◌^◌, nat_eq, nat_lt, List, [], ◌∷◌, ◌++◌, length, map}
use Rattle.std.specs.Prelude.{replicate, slice_get, codes, Option, Some, None, Result, Ok, Err, if◌then◌else◌}
use Rattle.std.specs.List.{slice_split, position_or_len, before_first, after_first}
use Rattle.std.specs.Option.{option_copied}
use denote.Ref.{Bor}
use Rattle.std.specs.declared.alloc.AllocError.{AllocError}
use Rattle.std.specs.declared.vec.Vec.{Vec}
use Rattle.resin_frozen.specs.Reading.{Read, and_then, literal, cut, number, natural, front}
use Rattle.resin_frozen.specs.declared.stop.Stop.{Stop}
use Rattle.resin_frozen.specs.declared.stop.Stop.TheVariants as s
use Rattle.resin_shadow.specs.Marks.{TextSet, Marks, MarkRun, AreMarks}
use Rattle.resin_shadow.specs.declared.table.Kind.{Kind}
use Rattle.resin_shadow.specs.Runs.{set_of}

-- something is read, behind what was read before, so many times
abbrev pub times : {A : Type 0} → (A → Read A) → ℕ → A → Read A
times step zero a xs = Some (a, xs)
times step (suc n) a xs = and_then (step a xs) (λ p. times step n p.0 p.1)

-- what a step reads, unless memory runs out
abbrev pub Turns : {A U : Type 0} → Option (A × List ℕ) → Result U Stop → A → List ℕ → Type 0
Turns out (Ok u) a rest = out ≡ Some (a, rest)
Turns out (Err s.Form) a rest = out ≡ None
Turns out (Err s.Memory) a rest = Unit {0}

-- marks that are written, or that they can't be, unless memory runs out
abbrev pub Pushes : {U : Type 0} → Option Marks → Result U Stop → Marks → Type 0
Pushes out (Ok u) v = out ≡ Some v
Pushes out (Err s.Form) v = out ≡ None
Pushes out (Err s.Memory) v = Unit {0}

-- the parts of a run, unless memory runs out
abbrev pub Tells : Option (ℕ × Option (List ℕ)) → Result (ℕ × Option (Bor (List ℕ))) Stop → Type 0
Tells out (Ok p) = out ≡ Some (p.0, option_copied p.1)
Tells out (Err s.Form) = out ≡ None
Tells out (Err s.Memory) = Unit {0}

-- a policy text, and the end of its line
unfoldable pub policy_step : List (List ℕ) → Read (List (List ℕ))
policy_step acc xs = and_then (front xs) (λ t. and_then (literal (codes "\n") t.1) (λ e. Some (acc ++ t.0 ∷ [], e.1)))

-- the words of a line
abbrev pub words : List ℕ → List (List ℕ)
words l = slice_split (λ b. nat_eq b 32) l

-- the text at the place that a word tells
unfoldable pub text_told : List (List ℕ) → List ℕ → Option (List ℕ)
text_told table w = and_then (number w) (λ n. slice_get table n)

-- the texts at the places that words tell, behind others
abbrev pub texts_told : List (List ℕ) → List (List ℕ) → List (List ℕ) → Option (List (List ℕ))
texts_told table acc [] = Some acc
texts_told table acc (w ∷ ws) = and_then (text_told table w) (λ t. texts_told table (acc ++ t ∷ []) ws)

-- the set of the texts whose places a line tells
unfoldable pub set_told : List (List ℕ) → List ℕ → Option TextSet
set_told table l = and_then (texts_told table [] (words l)) (λ ts. Some (set_of ts))

-- the line of a set
unfoldable pub set_step : List (List ℕ) → List TextSet → Read (List TextSet)
set_step table acc xs = and_then (cut 10 xs) (λ l. and_then (set_told table l.0) (λ s. Some (acc ++ s ∷ [], l.1)))

-- a run by its line: its length, and what is behind a space, if there is one
unfoldable pub run_parts : List ℕ → Option (ℕ × Option (List ℕ))
run_parts l =
    if nat_lt (position_or_len (λ b. nat_eq b 32) l) (length l)
    then and_then (number (before_first (λ b. nat_eq b 32) l)) (λ n. Some (n, Some (after_first (λ b. nat_eq b 32) l)))
    else and_then (number l) (λ n. Some (n, None))

-- the set of a run by the places of its policies, and by the place of the set
abbrev pub run_set1 : List (List ℕ) → Option (List ℕ) → Option TextSet
run_set1 table None = Some []
run_set1 table (Some l) = set_told table l

abbrev pub run_set2 : List TextSet → Option (List ℕ) → Option TextSet
run_set2 table None = Some []
run_set2 table (Some w) = and_then (number w) (λ k. slice_get table k)

-- one more run, where it isn't empty and the bytes are still as many as a number of 64 bits counts
unfoldable pub longer : Marks → MarkRun → Option Marks
longer v r = if nat_eq r.0 0 then None else (if nat_lt (length v + r.0) (2 ^ 64) then Some (v ++ replicate r.0 r.1) else None)

-- a run, put behind others
abbrev pub pushed : Marks → (Option (List ℕ) → Option TextSet) → ℕ × Option (List ℕ) → Option Marks
pushed acc told p = and_then (told p.1) (λ s. longer acc (p.0, s))

unfoldable pub run_step : (Option (List ℕ) → Option TextSet) → Marks → Read Marks
run_step told acc xs = and_then (cut 10 xs) (λ l. and_then (run_parts l.0) (λ p. and_then (pushed acc told p) (λ v. Some (v, l.1))))

-- the sets that a text of the first version spells, and of the second
unfoldable pub read1 : List ℕ → Option Marks
read1 xs =
    and_then (literal (codes "resin1 ") xs) (λ o. and_then (natural 32 o.1) (λ p. and_then (natural 10 p.1) (λ r.
    and_then (times policy_step p.0 [] r.1) (λ t. and_then (times (run_step (run_set1 t.0)) r.0 [] t.1) (λ v. Some v.0)))))

unfoldable pub read2 : List ℕ → Option Marks
read2 xs =
    and_then (literal (codes "resin2 ") xs) (λ o. and_then (natural 32 o.1) (λ p. and_then (natural 32 p.1) (λ n. and_then (natural 10 n.1) (λ r.
    and_then (times policy_step p.0 [] r.1) (λ t. and_then (times (set_step t.0) n.0 [] t.1) (λ k.
    and_then (times (run_step (run_set2 k.0)) r.0 [] k.1) (λ v. Some v.0)))))))

-- what a text spells in one way of writing, where it has so many bytes
abbrev pub DecodesBy : (Marks → List ℕ) → ℕ → List ℕ → Option Marks → Type 0
DecodesBy writing len x (Some v) = (x ≡ writing v) × (length v ≡ len)
DecodesBy writing len x None = (v : Marks) → AreMarks v → x ≡ writing v → length v ≡ len → ⊥

-- what was read, if anything was, unless memory runs out
abbrev pub Found : {A : Type 0} → Result A Stop → Result (Option A) AllocError → Type 0
Found read (Err e) = Unit {0}
Found (Ok a) (Ok o) = o ≡ Some a
Found (Err s.Form) (Ok o) = o ≡ None
Found (Err s.Memory) (Ok o) = ⊥

-- the sets that were read with their numbers, and what is left behind them, or that there are none, unless memory runs out
abbrev pub ReadsKinds : {E : Type 0} → Option (List TextSet × List ℕ) → Result (Vec Kind E) Stop → List ℕ → Type 0
ReadsKinds out (Ok v) rest = out ≡ Some (map (λ k. k.set) v.items, rest)
ReadsKinds out (Err s.Form) rest = out ≡ None
ReadsKinds out (Err s.Memory) rest = Unit {0}

abbrev pub IsSet : Option TextSet → Result Kind Stop → Type 0
IsSet out (Ok k) = out ≡ Some k.set
IsSet out (Err s.Form) = out ≡ None
IsSet out (Err s.Memory) = Unit {0}
