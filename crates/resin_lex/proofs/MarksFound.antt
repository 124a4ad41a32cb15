-- Each mark that does not go on is what the function finds.
use Rattle.std.proofs.Common.{◌≡◌, ℕ, false, List, ◌++◌, length, Option, Some, None, refl, ◌∙◌}
use Rattle.std.specs.Prelude.{◌==◌, is_some}
use Rattle.resin_scan.specs.Bytes.{byte, is_digit}
use Rattle.resin_scan.specs.declared.words.Cast.{Cast}
use Rattle.resin_scan.proofs.Runs.{if_false}
use Rattle.resin_scan.proofs.Choices.{or_left, or_right}
use Rattle.resin_lex.specs.declared.modes.Step.TheVariants.{Token}
use Rattle.resin_lex.specs.declared.modes.Shape.TheVariants as s
use Rattle.resin_lex.specs.declared.token.Mark.{Mark}
use Rattle.resin_lex.specs.declared.token.Mark.TheVariants as m
use Rattle.resin_lex.specs.Casts.{cast_behind}
use Rattle.resin_lex.specs.Marks.{spelling, goes_on, act_of}
use Rattle.resin_lex.specs.First.{first_in_code, first_sign, first_mark, first_operator, first_equals, first_bang, first_less, first_plus, first_minus, first_dot, first_and, first_question, first_round, first_slash, first_tag_or_question, mark_step, cast_step}

no_cast : (o : Option (Cast × ℕ)) → is_some o ≡ false → cast_step o ≡ mark_step m.LeftRound 1
no_cast None h = refl
no_cast (Some p) h = absurd (cc)

-- each mark that does not go on
pub marks : (at : ℕ) (mark : Mark) (rest : List ℕ) → goes_on mark rest ≡ false → first_in_code at (spelling mark ++ rest) ≡ Token (s.Mark mark) (length (spelling mark)) (act_of mark)
unfolding first_in_code first_sign first_mark first_operator first_equals first_bang first_less first_plus first_minus first_dot first_and first_question first_round first_slash first_tag_or_question
marks at m.Semicolon rest h = refl
marks at m.Comma rest h = refl
marks at m.LeftRound rest h = no_cast (cast_behind rest) h
marks at m.RightRound rest h = refl
marks at m.LeftSquare rest h = refl
marks at m.RightSquare rest h = refl
marks at m.LeftBrace rest h = refl
marks at m.RightBrace rest h = refl
marks at m.Colon rest h = if_false (byte rest 0 == 58) _ _ h
marks at m.DoubleColon rest h = refl
marks at m.Question rest h = if_false (byte rest 0 == 62) _ _ (or_right (byte rest 0 == 63) _ h) ∙ if_false (byte rest 0 == 63) _ _ (or_left (byte rest 0 == 63) _ h)
marks at m.Coalesce rest h = if_false (byte rest 0 == 61) _ _ h
marks at m.CoalesceAssign rest h = refl
marks at m.Arrow rest h = refl
marks at m.FatArrow rest h = refl
marks at m.Assign rest h = if_false (byte rest 0 == 61) _ _ (or_left (byte rest 0 == 61) _ h) ∙ if_false (byte rest 0 == 62) _ _ (or_right (byte rest 0 == 61) _ h)
marks at m.Equal rest h = if_false (byte rest 0 == 61) _ _ h
marks at m.Identical rest h = refl
marks at m.Not rest h = if_false (byte rest 0 == 61) _ _ h
marks at m.NotEqual rest h = if_false (byte rest 0 == 61) _ _ h
marks at m.NotIdentical rest h = refl
marks at m.Less rest h = if_false (byte rest 0 == 61) _ _ (or_left (byte rest 0 == 61) _ h) ∙ if_false (byte rest 0 == 62) _ _ (or_right (byte rest 0 == 61) _ h)
marks at m.LessOrEqual rest h = if_false (byte rest 0 == 62) _ _ h
marks at m.Compare rest h = refl
marks at m.LessGreater rest h = refl
marks at m.Greater rest h = if_false (byte rest 0 == 61) _ _ h
marks at m.GreaterOrEqual rest h = refl
marks at m.Plus rest h = if_false (byte rest 0 == 43) _ _ (or_left (byte rest 0 == 43) _ h) ∙ if_false (byte rest 0 == 61) _ _ (or_right (byte rest 0 == 43) _ h)
marks at m.Increment rest h = refl
marks at m.PlusAssign rest h = refl
marks at m.Minus rest h = if_false (byte rest 0 == 45) _ _ (or_left (byte rest 0 == 45) _ h) ∙ if_false (byte rest 0 == 61) _ _ (or_left (byte rest 0 == 61) _ (or_right (byte rest 0 == 45) _ h)) ∙ if_false (byte rest 0 == 62) _ _ (or_right (byte rest 0 == 61) _ (or_right (byte rest 0 == 45) _ h))
marks at m.Decrement rest h = refl
marks at m.MinusAssign rest h = refl
marks at m.Star rest h = if_false (byte rest 0 == 61) _ _ h
marks at m.StarAssign rest h = refl
marks at m.Slash rest h = if_false (byte rest 0 == 47) _ _ (or_left (byte rest 0 == 47) _ h) ∙ if_false (byte rest 0 == 42) _ _ (or_left (byte rest 0 == 42) _ (or_right (byte rest 0 == 47) _ h)) ∙ if_false (byte rest 0 == 61) _ _ (or_right (byte rest 0 == 42) _ (or_right (byte rest 0 == 47) _ h))
marks at m.SlashAssign rest h = refl
marks at m.Percent rest h = if_false (byte rest 0 == 61) _ _ h
marks at m.PercentAssign rest h = refl
marks at m.Dot rest h = if_false (is_digit (byte rest 0)) _ _ (or_right (byte rest 0 == 61) _ h) ∙ if_false (byte rest 0 == 61) _ _ (or_left (byte rest 0 == 61) _ h)
marks at m.DotAssign rest h = refl
marks at m.And rest h = refl
marks at m.Or rest h = refl
marks at m.Bar rest h = if_false (byte rest 0 == 124) _ _ h
