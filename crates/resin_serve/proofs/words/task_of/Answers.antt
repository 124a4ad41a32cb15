use Rattle.std.proofs.Common.{sym, ap, ◌∙◌}
use Rattle.std.specs.String.{string_bytes}
use Rattle.resin_serve.specs.Words.{most_fuel, number_up_to, logging_of, run_with}
use Rattle.resin_serve.proofs.Wording.{task_three}
use Rattle.resin_serve.proofs.words.task_of.Goals as goal

pub returns : goal.returns
returns c =
    c.run_with-2.ensures ∙ ap (λ l. run_with l c.number_up_to-2.result) c.logging_of-2.ensures
    ∙ ap (run_with (logging_of (string_bytes c.index-words-0-2.result))) (c.number_up_to-2.ensures ∙ ap (number_up_to most_fuel) c.as_bytes-2.ensures.value)
    ∙ sym (task_three string_bytes c.args.words.now c.index-words-0-2.result c.index-words-1-2.result c.index-words-2.result c.if-words-ne3.false
    c.index-words-0-2.is c.index-words-1-2.is c.index-words-2.is (sym c.is_word-2.ensures ∙ c.if-not-is_word-2.false))
