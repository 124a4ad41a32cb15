-- The letters of a keyword, one by one.
use Rattle.std.proofs.Common.{◌≡◌, ℕ, zero, suc, ◌+◌, ◌<◌, ◌≤◌, true, false, List, [], ◌∷◌, drop, length, slice_index_or, Option, Some, arith, add-one, refl, sym, ap, ◌∙◌}
use Rattle.std.specs.Prelude.{◌==◌}
use Rattle.resin_form.specs.Reading.{Outcome, Got, Stop}
use Rattle.resin_form.specs.Reads.{first}
use Rattle.resin_form.proofs.Cases.{if_true, if_false}
use Rattle.resin_scan.specs.Bytes.{lower}
use Rattle.resin_sql_words.specs.Forms.{under}
use Rattle.resin_sql_words.specs.Words.{letters}
use Rattle.resin_sql_words.specs.declared.cursor.Placed.{Placed}

pub at_letter : (i : ℕ) (ks : List ℕ) → i < length ks → drop i ks ≡ slice_index_or ks i 0 ∷ drop (suc i) ks
at_letter zero [] h = absurd (omega arith)
at_letter zero (k ∷ ks) h = cc
at_letter (suc i) [] h = absurd (omega arith)
at_letter (suc i) (k ∷ ks) h = let s : i < length ks = omega arith in at_letter i ks s

at_end : (i : ℕ) (ks : List ℕ) → length ks ≤ i → drop i ks ≡ []
at_end zero [] h = refl
at_end zero (k ∷ ks) h = absurd (omega arith)
at_end (suc i) [] h = refl
at_end (suc i) (k ∷ ks) h = let s : length ks ≤ i = omega arith in at_end i ks s

one : (k : ℕ) (ks : List ℕ) (t : Placed) (rest : List Placed) → (lower t.byte == k) ≡ true → under (letters (k ∷ ks)) (t ∷ rest) ≡ under (letters ks) rest
unfolding letters
one k ks t rest h = if_true (under (letters ks) rest) (Stop (t ∷ rest)) h

other : (k : ℕ) (ks : List ℕ) (t : Placed) (rest : List Placed) → (lower t.byte == k) ≡ false → under (letters (k ∷ ks)) (t ∷ rest) ≡ Stop (t ∷ rest)
unfolding letters
other k ks t rest h = if_false (under (letters ks) rest) (Stop (t ∷ rest)) h

none : (k : ℕ) (ks : List ℕ) → under (letters (k ∷ ks)) [] ≡ Stop []
unfolding letters
none k ks = refl

done : (bs : List Placed) → under (letters []) bs ≡ Got tt bs
unfolding letters
done bs = refl

module _ (o : Outcome Placed (Unit {0})) (i : ℕ) (ks : List ℕ) (bs : List Placed) (so_far : under (letters (drop i ks)) bs ≡ o) where
  pub goes_on : (t : Placed) (rest : List Placed) → i < length ks → bs ≡ t ∷ rest → (lower t.byte == slice_index_or ks i 0) ≡ true → under (letters (drop (i + 1) ks)) rest ≡ o
  goes_on t rest h e l = rw add-one (sym (one (slice_index_or ks i 0) (drop (suc i) ks) t rest l) ∙ sym (ap (λ ws. under (letters ws) (t ∷ rest)) (at_letter i ks h)) ∙ sym (ap (under (letters (drop i ks))) e) ∙ so_far)

  stops_at : (w : List Placed) (ws : List ℕ) (next : Option Placed) → first w ≡ next → ((t : Placed) → next ≡ Some t → (lower t.byte == slice_index_or ks i 0) ≡ false) → ws ≡ slice_index_or ks i 0 ∷ drop (suc i) ks → under (letters ws) w ≡ Stop w
  stops_at [] ws next f l e = ap (λ us. under (letters us) []) e ∙ none (slice_index_or ks i 0) (drop (suc i) ks)
  stops_at (t ∷ w) ws next f l e = ap (λ us. under (letters us) (t ∷ w)) e ∙ other (slice_index_or ks i 0) (drop (suc i) ks) t w (l t (sym f))

  pub stops : (next : Option Placed) → i < length ks → first bs ≡ next → ((t : Placed) → next ≡ Some t → (lower t.byte == slice_index_or ks i 0) ≡ false) → o ≡ Stop bs
  stops next h f l = sym so_far ∙ stops_at bs (drop i ks) next f l (at_letter i ks h)

  pub ends : length ks ≤ i → o ≡ Got tt bs
  ends h = sym so_far ∙ ap (λ ws. under (letters ws) bs) (at_end i ks h) ∙ done bs
