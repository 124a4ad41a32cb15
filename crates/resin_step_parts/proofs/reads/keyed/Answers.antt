use Rattle.std.proofs.Common.{refl}
use Rattle.std.specs.Prelude.{IsTrue}
use Rattle.resin_meaning_forms.specs.Under.value.Keys.{is_lawful}
use Rattle.resin_meaning_forms.proofs.target_lemmas.Ends.{answered_step}
use Rattle.resin_step_parts.proofs.Answered.{gives_or, settled_fact}
use Rattle.resin_step_parts.proofs.reads.keyed.Goals as goal

pub returns : goal.returns
returns c = record { acts = answered_step _ _ _ _ _ _ (gives_or _ _ c.to_key.ensures.value) refl c.settle.ensures.acts; lawful = settled_fact (λ k. IsTrue (is_lawful k)) _ _ _ _ c.settle.ensures.acts c.to_key.ensures.lawful }
