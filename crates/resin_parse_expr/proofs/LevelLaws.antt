-- A level of binary operators over the one below it.
use Rattle.std.proofs.Common.{◌≡◌, ℕ, zero, suc, ◌+◌, ◌-◌, ◌<◌, List, refl, arith}
use Rattle.resin_lex.specs.declared.token.Token.{Token}
use Rattle.resin_form.specs.Reading.{and_then}
use Rattle.resin_grammar.specs.Expressions.{binaries, operations}
use Rattle.resin_grammar.specs.Reading.{under}

step : (depth n : ℕ) (ts : List Token) → under depth (binaries (suc n)) ts ≡ and_then (under depth (binaries n) ts) (λ left rest. under depth (operations (n + 5) left) rest)
unfolding binaries
step depth n ts = refl

pub binaries_step : (depth n : ℕ) (ts : List Token) → 0 < n → under depth (binaries n) ts ≡ and_then (under depth (binaries (n - 1)) ts) (λ left rest. under depth (operations (n + 4) left) rest)
binaries_step depth zero ts h = absurd (omega arith)
binaries_step depth (suc n) ts h =
    let e : suc n - 1 ≡ n = omega arith in
    let d : suc n + 4 ≡ n + 5 = omega arith in
    rw (e, d) (step depth n ts)
