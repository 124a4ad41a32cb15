use Rattle.std.proofs.Common.{◌≡◌, ◌+◌, ◌++◌, length, map}
use Rattle.resin_lstr.specs.Texts.{ArePartsFrom}
use Rattle.resin_text_fn.specs.Matches.{matched_parts}
use Rattle.resin_text_fn.proofs.search.matched_parts.Given as goal

abbrev pub invariant-loop-start : goal.invariant-loop-start
invariant-loop-start l = record {
  can : (goal.iterator-loop-start).can_next l.start-iterator;
  ends : (goal.iterator-loop-start).is_finite l.start-iterator;
  is : l.parts ++ map (λ start. (start, start + length l.needle)) l.start-iterator ≡ matched_parts l.haystack l.needle;
  behind : ArePartsFrom 0 (map (λ start. (start, start + length l.needle)) l.start-iterator) (length l.haystack);
}
