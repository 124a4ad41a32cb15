use Rattle.std.proofs.Common.{[], ◌∷◌, refl}
use Rattle.resin_stage.proofs.Laws.{open_passed}
use Rattle.resin_state_table.proofs.stages.deny_page.Goals as goal

pub passed-requires : goal.passed-requires
passed-requires c = record { passed = []; way = c.in-Some.ensures.begun; out = refl }

pub denied-requires-clause-may : goal.denied-requires-clause-may
denied-requires-clause-may c =
    rw c.in_ok-passed-in-Some.ensures.ok (record { passed = 1 ∷ []; way = open_passed _ _ _ 1 [] c.in-Some.ensures.begun refl; out = refl })
