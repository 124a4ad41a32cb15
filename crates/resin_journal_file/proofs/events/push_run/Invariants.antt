use Rattle.std.proofs.Common.{◌≡◌, ◌++◌, ◌∷◌, take, decimal}
use Rattle.std.specs.List.{flat_map}
use Rattle.resin_journal_file.proofs.events.push_run.Given as goal

abbrev pub invariant-loop-policy : goal.invariant-loop-policy
invariant-loop-policy l = l.text ≡ l.initial.text ++ flat_map (λ n. 32 ∷ decimal n) (take l.policy-index l.policy-items)
