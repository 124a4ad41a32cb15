use Rattle.std.proofs.Common.{sym, ◌∙◌}
use Rattle.resin_step_parts.proofs.Extended.{put_behind, taken_text}
use Rattle.resin_step_parts.proofs.appends.extend.Goals as goal

pub returns-in-Text : goal.returns-in-Text
returns-in-Text c = record {
  acts = λ x e. put_behind c.args.name.now c.args.more.now _ x _ _ _ _ (taken_text _ _ x (sym c.in-Text.is ∙ c.take.ensures.value) e) c.take.ensures.after c.take.ensures.inside c.put_longer.ensures.acts;
}
