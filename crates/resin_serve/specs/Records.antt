-- The record of an answer in the output (this project).
use Rattle.std.specs.Prelude.{ℕ, List, [], ◌∷◌, ◌++◌, length, decimal}

-- `<conn> <len>`, a newline, the response and a newline
unfoldable pub record_text : ℕ → List ℕ → List ℕ
record_text conn response = decimal conn ++ 32 ∷ (decimal (length response) ++ 10 ∷ (response ++ 10 ∷ []))
