use Rattle.std.proofs.Common.{ap, ◌∙◌}
use Rattle.std.specs.List.{before_first}
use Rattle.resin_inputs.specs.Cookies.{is_semicolon, put_part, put_parts}
use Rattle.resin_inputs.proofs.CookieLemmas.{first_part}
use Rattle.resin_inputs.proofs.cookies.put_parts.Goals as goal

pub parts-preserved : goal.parts-preserved
parts-preserved c =
    ap (λ a. put_parts a c.split_once.result.1.now) (c.in_ok-put_part.ensures ∙ ap (put_part c.parts.array) c.split_once.ensures.before)
    ∙ ap (put_parts (put_part c.parts.array (before_first is_semicolon c.parts.rest.now))) c.split_once.ensures.after
    ∙ first_part c.parts.array c.parts.rest.now ∙ c.parts.invariant
