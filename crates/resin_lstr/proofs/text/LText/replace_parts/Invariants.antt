use Rattle.std.proofs.Common.{◌≡◌, ◌++◌, length, drop}
use Rattle.resin_lstr.specs.Texts.{with_parts, ArePartsFrom}
use Rattle.resin_lstr.proofs.text.LText.replace_parts.Given as goal

abbrev pub invariant-loop-start : goal.invariant-loop-start
invariant-loop-start l = record {
  parts : ArePartsFrom l.from (drop l.start-index l.parts) (length l.self);
  is : l.out ++ with_parts l.from (drop l.start-index l.parts) l.with l.self ≡ with_parts 0 l.parts l.with l.self;
}
