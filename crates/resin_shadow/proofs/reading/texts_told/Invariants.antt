-- The texts that the words before the index tell are there.
use Rattle.std.proofs.Common.{◌≡◌, [], map, drop}
use Rattle.resin_shadow.specs.Readers as spec
use Rattle.resin_shadow.proofs.reading.texts_told.Given as goal

abbrev pub invariant-loop-word : goal.invariant-loop-word
invariant-loop-word l = spec.texts_told l.policies l.texts (map (λ w. w.now) (drop l.word-index l.word-items)) ≡ spec.texts_told l.policies [] (spec.words l.line)
