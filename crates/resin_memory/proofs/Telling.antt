-- How one more call of a fake object changes its count and what it tells.
use Rattle.std.proofs.Common.{rules, arith, ◌≡◌, ℕ, suc, nat_lt, Bool, true, false, cond, List, [], ◌∷◌, ◌++◌, Some, None, refl, sym, ap, ◌∙◌, Option, append-nil}
use Rattle.resin_base.specs.Causes.{last_count, TellsMore}
use Rattle.resin_memory.specs.Tallies.{is_failing, fails_next, next_count, counted, counted_fault, outcomes, told_answers}
use Rattle.resin_memory.specs.declared.tally.Tally.{Tally}

grown : (fail : List ℕ) (made next : ℕ) (b : Bool) → next ≡ suc made → is_failing fail made ≡ b → outcomes fail next ≡ outcomes fail made ++ b ∷ []
unfolding outcomes
grown fail made next b is e = ap (outcomes fail) is ∙ ap (λ x. outcomes fail made ++ x ∷ []) e

told_below : (t : Tally) → nat_lt t.made last_count ≡ true → told_answers t ≡ Some (outcomes t.fail t.made)
unfolding told_answers
told_below t e = ap (λ b. cond b (Some (outcomes t.fail t.made)) None) e

told_last : (t : Tally) → nat_lt t.made last_count ≡ false → told_answers t ≡ None
unfolding told_answers
told_last t e = ap (λ b. cond b (Some (outcomes t.fail t.made)) None) e

tells_none : (old : Option (List Bool)) (more : List Bool) → TellsMore old None more
tells_none None more = search rules
tells_none (Some x) more = search rules

-- one more answer is told, as the call's own
pub tells_next : (old new : Tally) (b : Bool) → new.fail ≡ old.fail → new.made ≡ next_count old.made → fails_next old ≡ b
    → TellsMore (told_answers old) (told_answers new) (b ∷ [])
tells_next old new b same is e =
    elim (nat_lt new.made last_count) as (λ t. nat_lt new.made last_count ≡ t → TellsMore (told_answers old) (told_answers new) (b ∷ [])) [
      | true ↦ λ lt. let below : nat_lt old.made last_count ≡ true = grind arith in
          let next : new.made ≡ suc old.made = grind arith in
          rw (told_below old below, told_below new lt, same) (grown old.fail old.made new.made b next e)
      | false ↦ λ lt. rw (told_last new lt) (tells_none (told_answers old) (b ∷ []))
    ] refl

pub tells_counted : (old : Tally) → fails_next old ≡ false → TellsMore (told_answers old) (told_answers (counted old)) (false ∷ [])
tells_counted old is = tells_next old (counted old) false refl refl is

pub tells_fault : (old : Tally) → fails_next old ≡ true → TellsMore (told_answers old) (told_answers (counted_fault old)) (true ∷ [])
tells_fault old is = tells_next old (counted_fault old) true refl refl is

-- a call that isn't counted tells nothing more
tells_none_more : (told : Option (List Bool)) → TellsMore told told []
tells_none_more None = search rules
tells_none_more (Some told) = sym (append-nil told)

pub tells_same : (t : Tally) → TellsMore (told_answers t) (told_answers t) []
tells_same t = tells_none_more (told_answers t)

pub ruleset telling = (tells_next, tells_counted, tells_fault, tells_same)
