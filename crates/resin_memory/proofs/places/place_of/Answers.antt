use Rattle.std.proofs.Common.{sym, ◌∙◌, ap}
use Rattle.std.specs.Prelude.{nat_eq}
use Rattle.std.specs.Cmp.Lexicographic.{pointwise}
use Rattle.resin_memory.proofs.Find.{find-next}
use Rattle.resin_memory.proofs.places.place_of.Goals as goal

pub loop-i-preserved : goal.loop-i-preserved
loop-i-preserved g c =
    find-next _ _ _ c.index-entries-i.result c.loop-i-test.true c.loop-i.invariant
    (ap (λ x. pointwise nat_eq x c.args.key.now) (sym c.as_slice.ensures) ∙ sym c.eq.ensures ∙ c.if-eq.false)
