-- Runs of bytes.
use Rattle.std.specs.Prelude.{◌≡◌, ℕ, Bool, true, false, List, [], ◌∷◌}

-- the text is at its end, or begins with a byte that does not pass
abbrev pub NotBefore : (ℕ → Bool) → List ℕ → Type 0
NotBefore p [] = Unit {0}
NotBefore p (b ∷ bs) = p b ≡ false

-- each byte passes
abbrev pub Every : (ℕ → Bool) → List ℕ → Type 0
Every p [] = Unit {0}
Every p (b ∷ bs) = (p b ≡ true) × Every p bs
