-- How the bytes and the runs of a text are kept.
use Rattle.std.specs.Prelude.{ℕ, List, [], ◌∷◌}
use Rattle.std.specs.Rc.{rc_slice_items}
use Rattle.resin_lstr.specs.declared.text.Run.{Run}
use Rattle.resin_lstr.specs.declared.kept_bytes.HeldBytes.{HeldBytes}
use Rattle.resin_lstr.specs.declared.kept_bytes.HeldBytes.TheVariants.{Shared, Growing}
use Rattle.resin_lstr.specs.declared.kept_runs.HeldRuns.{HeldRuns}
use Rattle.resin_lstr.specs.declared.kept_runs.HeldRuns.TheVariants.{Nothing, Alone, Several}

-- shared bytes, or bytes that an owner who is alone may extend
abbrev pub held_bytes : HeldBytes → List ℕ
held_bytes (Shared bytes) = rc_slice_items bytes
held_bytes (Growing list) = list.value

-- no run, one in place, or several that are shared
abbrev pub held_runs : HeldRuns → List Run
held_runs Nothing = []
held_runs (Alone run) = run ∷ []
held_runs (Several list) = list.value
