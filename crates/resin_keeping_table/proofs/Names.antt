-- A run of the bytes of names that begins as one is a name.
use Rattle.std.proofs.Common.{◌≡◌, ℕ, List, [], ◌∷◌, take, length, true, subst, ap, ◌∙◌}
use Rattle.std.specs.Prelude.{get_or}
use Rattle.std.specs.List.{prefix_len}
use Rattle.std.proofs.Math.Seq.{take-length}
use Rattle.resin_scan.specs.Bytes.{begins_name, is_name_byte}
use Rattle.resin_scan.specs.Lists.{Every}
use Rattle.resin_scan.specs.Words.{IsName}
use Rattle.resin_scan.proofs.Runs.{every_run}

every : (bs : List ℕ) → prefix_len is_name_byte bs ≡ length bs → Every is_name_byte bs
every bs e = subst (λ xs. Every is_name_byte xs) (ap (λ n. take n bs) e ∙ take-length bs) (every_run is_name_byte bs)

pub named : (bs : List ℕ) → begins_name (get_or bs 0 0) ≡ true → prefix_len is_name_byte bs ≡ length bs → IsName bs
named [] b e = cc
named (x ∷ xs) b e = (b, (every (x ∷ xs) e).1)
