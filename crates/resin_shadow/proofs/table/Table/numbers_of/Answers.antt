use Rattle.std.proofs.Common.{◌∙◌}
use Rattle.resin_shadow.proofs.Kept.{stays_more}
use Rattle.resin_shadow.proofs.Ending.{numbers_next}
use Rattle.resin_shadow.proofs.table.Table.numbers_of.Goals as goal

pub loop-text-preserved : goal.loop-text-preserved
loop-text-preserved c = record {
  table = c.number_of.ensures.table;
  stays = stays_more c.args.self.now c.loop-text.self c.number_of.new.self c.loop-text.invariant.stays c.number_of.ensures.stays;
  numbers = numbers_next c.loop-text.self.texts.keys c.number_of.new.self.texts.keys c.loop-text.numbers c.push.new.self c.in_ok-number.number c.as_slice-text-items.result.now c.loop-text.text-index c.in_ok-clone.field-0 c.text-item.result
      c.loop-text-test.true (c.in_ok-clone.ensures.cases ∙ c.text-item.is) c.number_of.ensures.stays.texts c.loop-text.invariant.numbers c.in_ok-number.ensures.number c.in_ok-push.ensures.ok;
}
