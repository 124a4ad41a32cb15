-- One turn of the loop over the pieces of a text.
use Rattle.std.proofs.Common.{◌≡◌, ℕ, zero, suc, ◌+◌, ◌-◌, ◌<◌, List, [], ◌∷◌, ◌++◌, drop, length, get_or, refl, sym, ◌∙◌, ap, subst, arith, append_assoc}
use Rattle.std.proofs.lemmas.List.{drop-drop}
use Rattle.resin_scan.specs.Escapes.{worked, worked_on, first_piece, bytes_of}
use Rattle.resin_scan.specs.declared.escapes.Quoting.{Quoting}
use Rattle.resin_scan.specs.declared.escapes.Piece.{Piece}
use Rattle.resin_scan.proofs.Scans.{front}

pub passed : (q : Quoting) (k : ℕ) (xs : List ℕ) → worked_on q k xs ≡ worked q (drop k xs)
passed q zero [] = refl
passed q zero (b ∷ xs) = refl
passed q (suc k) [] = refl
passed q (suc k) (b ∷ xs) = passed q k xs

pub one : (q : Quoting) (xs ys : List ℕ) (b : ℕ) (p : Piece) → xs ≡ b ∷ ys → 0 < p.taken → p ≡ first_piece q xs → worked q xs ≡ bytes_of p.meaning ++ worked q (drop p.taken xs)
one q xs ys b p e z h =
    let k : p.taken ≡ suc (p.taken - 1) = omega arith in
    let f : worked q xs ≡ bytes_of (first_piece q xs).meaning ++ worked_on q ((first_piece q xs).taken - 1) ys = subst (λ v. worked q v ≡ bytes_of (first_piece q v).meaning ++ worked_on q ((first_piece q v).taken - 1) ys) (sym e) refl in
    let d : drop p.taken xs ≡ drop (p.taken - 1) ys = ap (λ v. drop p.taken v) e ∙ ap (λ i. drop i (b ∷ ys)) k in
    f ∙ ap (λ r. bytes_of r.meaning ++ worked_on q (r.taken - 1) ys) (sym h) ∙ ap (λ v. bytes_of p.meaning ++ v) (passed q (p.taken - 1) ys ∙ ap (worked q) (sym d))

pub turn : (q : Quoting) (s out new : List ℕ) (i : ℕ) (p : Piece) → i < length s → 0 < p.taken → p ≡ first_piece q (drop i s) → new ≡ out ++ bytes_of p.meaning → out ++ worked q (drop i s) ≡ worked q s → new ++ worked q (drop (i + p.taken) s) ≡ worked q s
turn q s out new i p h z t e inv =
    let o : worked q (drop i s) ≡ bytes_of p.meaning ++ worked q (drop (i + p.taken) s) = one q (drop i s) (drop (i + 1) s) (get_or s i 0) p (front i s h) z t ∙ ap (λ v. bytes_of p.meaning ++ worked q v) (drop-drop p.taken i s) in
    ap (λ v. v ++ worked q (drop (i + p.taken) s)) e ∙ append_assoc out (bytes_of p.meaning) (worked q (drop (i + p.taken) s)) ∙ ap (λ v. out ++ v) (sym o) ∙ inv
