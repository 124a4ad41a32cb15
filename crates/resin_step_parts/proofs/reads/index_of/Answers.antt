use Rattle.std.proofs.Common.{refl}
use Rattle.resin_meaning_forms.proofs.target_lemmas.Ends.{answered_step}
use Rattle.resin_step_parts.proofs.reads.index_of.Goals as goal

pub returns : goal.returns
returns c = record { acts = answered_step _ _ _ _ _ _ c.at_index.ensures refl c.settle.ensures.acts }
