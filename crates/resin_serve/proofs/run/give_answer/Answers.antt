use Rattle.resin_serve.proofs.Unsaid.{unsaid}
use Rattle.resin_serve.proofs.run.give_answer.Goals as goal

pub returns-in_default-clause-gave : goal.returns-in_default-clause-gave
returns-in_default-clause-gave g c = λ store store' told told' made made'. unsaid _ _ _ _ _ _ _ store store' told told' made made'

pub returns-in_default-output_record-clause-gave : goal.returns-in_default-output_record-clause-gave
returns-in_default-output_record-clause-gave g c = λ store store' told told' made made'. unsaid _ _ _ _ _ _ _ store store' told told' made made'
