use Rattle.std.proofs.Common.{◌∷◌, [], sym, subst, ◌∙◌}
use Rattle.resin_shadow.specs.Marks.{Each}
use Rattle.resin_shadow.specs.Runs.{IsKindOf}
use Rattle.resin_shadow.proofs.Kept.{kinds_kept, each-append}
use Rattle.resin_shadow.proofs.Apart.{kinds_next}
use Rattle.resin_shadow.proofs.parts.kinds_of.Goals as goal

pub loop-set-preserved : goal.loop-set-preserved
loop-set-preserved c = record {
  table = c.in_ok-kind.ensures.table;
  runs = c.in_ok-kind.ensures.stays.runs ∙ c.loop-set.invariant.runs;
  kinds = subst (Each (IsKindOf c.kind_of.new.self)) (sym c.in_ok-push.ensures.items)
      (each-append (IsKindOf c.kind_of.new.self) c.loop-set.kinds.items (c.in_ok-kind.kind ∷ []) (kinds_kept c.loop-set.table c.kind_of.new.self c.loop-set.kinds.items c.in_ok-kind.ensures.stays c.loop-set.invariant.kinds) (c.in_ok-kind.ensures.kind, tt));
  sets = kinds_next c.loop-set.kinds.items c.push.new.self.items c.in_ok-kind.kind c.args.sets.now c.loop-set.set-index c.set-item.result c.loop-set-test.true c.set-item.is c.loop-set.invariant.sets c.in_ok-push.ensures.items c.in_ok-kind.ensures.set;
}
