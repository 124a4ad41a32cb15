use Rattle.std.specs.Prelude.{ℕ, List}
use Rattle.resin_label.specs.declared.set.PSetIter.{PSetIter}

-- the numbers that are still to come
abbrev pub rest : PSetIter → List ℕ
rest it = it.rest.now
