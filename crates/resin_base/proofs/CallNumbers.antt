-- What a numbered call does to the numbers of the run.
use Rattle.std.proofs.Common.{rules, arith, ◌≡◌, ℕ, ◌+◌, ◌-◌, ◌<◌, ◌≤◌, List, [], ◌∷◌, ◌++◌, length, take, Result, Ok, Err, ap, ◌∙◌, length-append}
use Rattle.std.proofs.lemmas.List.{take_at}
use Rattle.resin_base.specs.declared.faults.KeepFault.{KeepFault}
use Rattle.resin_base.specs.declared.faults.KeepFault.TheVariants.{Failed, Memory}
use Rattle.resin_base.specs.declared.calls.Calls.{Calls}
use Rattle.resin_base.specs.Numbering.{RiseWithin, Lists, IsAsked, AreAsked, AreNumbered, Settles}

-- the list without the number that was put last
taken_off : (xs ys : List ℕ) (x : ℕ) → ys ≡ xs ++ x ∷ [] → take (length ys - 1) ys ≡ xs
taken_off xs ys x e =
    ap (λ zs. take (length zs - 1) zs) e ∙ take_at xs (x ∷ []) _ (omega (arith, length-append xs (x ∷ [])))

-- a call that was listed and then settled is a numbered call
pub lists_settled : {A : Type 0} (old asked : Calls) (answer : Result A KeepFault) (new : Calls)
    → IsAsked old asked → Settles asked answer new → Lists old answer new
lists_settled old asked (Ok a) new ask settle = (settle.0 ∙ ap (λ n. n + 1) ask.0, settle.1 ∙ taken_off old.failed asked.failed _ ask.1)
lists_settled old asked (Err Failed) new ask settle = (settle.0 ∙ ap (λ n. n + 1) ask.0, settle.1 ∙ ask.1)
lists_settled old asked (Err Memory) new ask settle =
    let made : new.made ≡ old.made = settle.0 ∙ ask.0 in
    let failed : new.failed ≡ old.failed = settle.1 ∙ taken_off old.failed asked.failed _ ask.1 in
    λ i. record { made = made i; failed = failed i }

-- numbers in order stay in order under a larger bound, and with that bound put last
pub RiseWithin-more : (above most : ℕ) (xs : List ℕ) → RiseWithin above most xs → RiseWithin above (most + 1) xs
RiseWithin-more above most [] rise = rise
RiseWithin-more above most (x ∷ xs) rise = (rise.0, omega (arith, rise.1), RiseWithin-more x most xs rise.2)

RiseWithin-push : (above most : ℕ) (xs : List ℕ) → above ≤ most → RiseWithin above most xs → RiseWithin above (most + 1) (xs ++ (most + 1) ∷ [])
RiseWithin-push above most [] le rise = (omega arith, omega arith, search rules)
RiseWithin-push above most (x ∷ xs) le rise = (rise.0, omega (arith, rise.1), RiseWithin-push x most xs rise.1 rise.2)

-- the numbers after the next one is listed
pub asked : (made : ℕ) (before now : List ℕ) → RiseWithin 0 made before → now ≡ before ++ (made + 1) ∷ []
    → (0 < length now) × RiseWithin 0 made (take (length now - 1) now) × RiseWithin 0 (made + 1) now
asked made before now rise is = (
  omega (arith, ap length is, length-append before ((made + 1) ∷ [])),
  rw (taken_off before now _ is) rise,
  rw is (RiseWithin-push 0 made before (omega arith) rise),
)

-- numbers in order stay so where the call that was listed is settled
pub numbered_settled : {A : Type 0} (asked : Calls) (answer : Result A KeepFault) (new : Calls)
    → AreAsked asked → Settles asked answer new → AreNumbered new
numbered_settled asked (Ok a) new order settle = rw settle.0 (rw settle.1 (RiseWithin-more 0 asked.made _ order.1))
numbered_settled asked (Err Failed) new order settle = rw settle.0 (rw settle.1 order.2)
numbered_settled asked (Err Memory) new order settle = rw settle.0 (rw settle.1 order.1)

pub ruleset numbering = (lists_settled)
