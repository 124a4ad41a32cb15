-- The words of the program (this project).
use Rattle.std.specs.Prelude.{ℕ, Bool, ◌&&◌, not, ◌==◌, nat_lt, nat_le, nat_eq, List, [], ◌∷◌, length, if◌then◌else◌, Option, Some, None, codes}
use Rattle.std.specs.List.{list_all, slice_index}
use Rattle.std.specs.Char.{is_ascii_digit}
use Rattle.std.specs.Str.Parse.{digits_value}
use Rattle.std.specs.Cmp.Lexicographic.{pointwise}
use Rattle.resin_serve.specs.declared.logging.Logging.{Logging}
use Rattle.resin_serve.specs.declared.logging.Logging.TheVariants.{Denials, Journals}
use Rattle.resin_serve.specs.declared.words.Task.{Task}
use Rattle.resin_serve.specs.declared.words.Task.TheVariants.{Run, Audit, Sample}

abbrev pub is_word : List ℕ → List ℕ → Bool
is_word word wanted = pointwise nat_eq word wanted

-- the ticks of a request where no word says them
abbrev pub usual_fuel : ℕ
usual_fuel = 1000000

abbrev pub most_fuel : ℕ
most_fuel = 100000000

-- the largest sample
abbrev pub most_sample : ℕ
most_sample = 10000

-- one to nine digits without a leading zero
abbrev pub is_decimal : List ℕ → Bool
is_decimal text = nat_lt 0 (length text) && nat_le (length text) 9 && list_all is_ascii_digit text && not (slice_index text 0 == 48)

-- the number from 1 to the largest one that a word is
abbrev pub number_up_to : ℕ → List ℕ → Option ℕ
number_up_to most text = if is_decimal text && nat_le (digits_value 10 text) most then Some (digits_value 10 text) else None

-- what the log of a run tells that begins with this word
abbrev pub logging_of : List ℕ → Option Logging
logging_of w = if is_word w (codes "serve") then Some Denials else (if is_word w (codes "record") then Some Journals else None)

-- a run with this log and so much fuel, where both are said
abbrev pub run_with : Option Logging → Option ℕ → Option Task
run_with None fuel = None
run_with (Some logging) None = None
run_with (Some logging) (Some fuel) = Some (Run logging fuel)

-- the sample of this size, where it is said
abbrev pub sample_of : Option ℕ → Option Task
sample_of None = None
sample_of (Some number) = Some (Sample number)

-- What the words ask for: a run by `serve` and `record`, each alone or with `--fuel N`, an audit by `audit`, the sample by `sample N`; None for all
-- other words.
abbrev pub task_of : List (List ℕ) → Option Task
task_of [] = None
task_of (w ∷ []) = if is_word w (codes "audit") then Some Audit else run_with (logging_of w) (Some usual_fuel)
task_of (w ∷ n ∷ []) = if is_word w (codes "sample") then sample_of (number_up_to most_sample n) else None
task_of (w ∷ o ∷ n ∷ []) = if is_word o (codes "--fuel") then run_with (logging_of w) (number_up_to most_fuel n) else None
task_of (w ∷ o ∷ n ∷ m ∷ ws) = None
