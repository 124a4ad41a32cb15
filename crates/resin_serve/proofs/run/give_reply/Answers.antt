use Rattle.std.proofs.Common.{ap, ◌∙◌, ◌++◌}
use Rattle.resin_serve.specs.Logs.{logged}
use Rattle.resin_serve.proofs.Unsaid.{unsaid}
use Rattle.resin_serve.proofs.run.give_reply.Goals as goal

pub returns-in_default-clause-gave : goal.returns-in_default-clause-gave
returns-in_default-clause-gave g c = λ store store' told told' made made'. unsaid _ _ _ _ _ _ _ store store' told told' made made'

pub returns-clause-gave : goal.returns-clause-gave
returns-clause-gave g c = λ store store' told told' made made'.
    rw (
      c.as_slice.ensures ∙ c.in-Ok.ensures.text ∙ ap (logged c.args.run.now.service.logging c.args.run.now.number) c.journal.ensures,
      c.as_slice-2.ensures ∙ c.into_parts-parts.ensures.mail,
      c.as_slice-3.ensures,
      c.as_slice-4.ensures,
      c.into_parts-parts.ensures.response,
    ) at c.give_answer.ensures.gave store store' told told' made made'
