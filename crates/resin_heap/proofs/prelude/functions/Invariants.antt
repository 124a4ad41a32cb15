use Rattle.std.proofs.Common.{◌≡◌, map, take}
use Rattle.resin_heap.specs.Prelude.{function_of}
use Rattle.resin_heap.proofs.prelude.functions.Given as goal

abbrev pub invariant-loop-method : goal.invariant-loop-method
invariant-loop-method l = l.list ≡ map function_of (take l.method-index l.methods)
