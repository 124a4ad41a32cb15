-- From the outcome of reading a text to what it says of pages.
use Rattle.std.proofs.Common.{◌≡◌, ℕ, suc, ◌+◌, ◌-◌, ◌<◌, List, [], ◌∷◌, ◌++◌, inl, inr, length, take, None, Result, Ok, Err, refl, sym, ap, subst, ◌∙◌, arith, append_assoc, length-append}
use Rattle.resin_form.specs.Reading.{Outcome, Got, Stop, Deep}
use Rattle.resin_form.specs.Reads.{first}
use Rattle.resin_form.specs.Meaning.{NameSpells, NameBegins, allows_at, reading, SpellsWithin, BeginsWithin, EndsLongest}
use Rattle.resin_form.specs.Meaning as forms
use Rattle.resin_form.proofs.Exact.{Exact, exact}
use Rattle.resin_form.proofs.Fronts.{shrinks, is_read, is_refused, front_without_limits}
use Rattle.resin_form.proofs.Local.{IsSettled}
use Rattle.resin_sql_words.specs.declared.cursor.Placed.{Placed}
use Rattle.resin_sql_words.specs.Places.{placed}
use Rattle.resin_sql_words.specs.Forms.{rules, in_limits, under}
use Rattle.resin_guard.specs.Pages.{Places, page}
use Rattle.resin_guard.specs.Answers.{IsPage, IsFront, IsFirstFault}
use Rattle.resin_guard.specs.Verdicts.{page_told}

-- ---- the bytes of a front

placed_length : (k : ℕ) (bs : List ℕ) → length (placed k bs) ≡ length bs
placed_length k [] = refl
placed_length k (b ∷ bs) = ap suc (placed_length (suc k) bs)

front_bytes : (k : ℕ) (bs : List ℕ) (u rest : List Placed) → placed k bs ≡ u ++ rest → placed k (take (length u) bs) ≡ u
front_bytes k bs [] rest e = refl
front_bytes k [] (t ∷ u) rest e = cc
front_bytes k (b ∷ bs) (t ∷ u) rest e =
    let r : record { at = k; byte = b } ≡ t = cc in
    let s : placed (suc k) bs ≡ u ++ rest = cc in
    let h = front_bytes (suc k) bs u rest s in
    cc

module _ (bytes : List ℕ) (u rest : List Placed) (text : placed 0 bytes ≡ u ++ rest) where
  lengths : length bytes ≡ length u + length rest
  lengths = sym (placed_length 0 bytes) ∙ ap length text ∙ length-append u rest

  as_bytes : placed 0 (take (length u) bytes) ≡ u
  as_bytes = front_bytes 0 bytes u rest text

longer : (u : List Placed) (t : Placed) (more : List Placed) → u ++ t ∷ more ≡ (u ++ t ∷ []) ++ more
longer u t more = sym (append_assoc u (t ∷ []) more)

one_longer : (u : List Placed) (t : Placed) → length (u ++ t ∷ []) ≡ length u + 1
one_longer u t = length-append u (t ∷ [])

-- ---- the first fault

no_byte_more : (bytes : List ℕ) (u rest : List Placed) → EndsLongest rules (page []) (placed 0 bytes) u rest → length u < length bytes → IsFront (take (length u + 1) bytes) → ⊥
no_byte_more bytes u [] e h f = let l = lengths bytes u [] e.text in absurd (omega arith)
no_byte_more bytes u (t ∷ more) e h f =
    let text : placed 0 bytes ≡ (u ++ t ∷ []) ++ more = e.text ∙ longer u t more in
    let same : placed 0 (take (length (u ++ t ∷ [])) bytes) ≡ u ++ t ∷ [] = as_bytes bytes (u ++ t ∷ []) more text in
    let all : placed 0 (take (length u + 1) bytes) ≡ u ++ t ∷ [] = subst (λ n. placed 0 (take n bytes) ≡ u ++ t ∷ []) (one_longer u t) same in
    e.longest t [] more refl (subst (λ x. forms.IsFront rules (page []) x) all f)

first_fault : (bytes : List ℕ) (u rest : List Placed) → EndsLongest rules (page []) (placed 0 bytes) u rest → forms.IsFrontWithin rules in_limits 1 (page []) u → IsFirstFault bytes (length bytes - length rest)
first_fault bytes u rest e w =
    let l = lengths bytes u rest e.text in
    let n : length u ≡ length bytes - length rest = omega arith in
    subst (IsFirstFault bytes) n (record {
      in_text = omega arith;
      before = subst (λ x. forms.IsFront rules (page []) x) (sym (as_bytes bytes u rest e.text)) (front_without_limits rules (page []) in_limits 1 u w);
      no_longer = no_byte_more bytes u rest e;
    })

-- ---- what reading a text comes to

exact_page : Exact (under (page [])) (SpellsWithin rules in_limits 1 (page [])) (BeginsWithin rules in_limits 1 (page []))
exact_page = exact (allows_at in_limits 1) (reading rules in_limits 1) (shrinks rules in_limits 1) (NameSpells rules in_limits 1) (NameBegins rules in_limits 1) (λ n. absurd n) (page [])

-- the safe places of the page that a text is, or the offset of the fault where it is none
abbrev pub PageAnswers : List ℕ → Result Places ℕ → Type 0
PageAnswers bytes (Ok places) = IsPage bytes places
PageAnswers bytes (Err at) = ((places : Places) → IsPage bytes places → ⊥) × IsFirstFault bytes at

module _ (bytes : List ℕ) (rest : List Placed) where
  not_past : (places others : Places) → under (page []) (placed 0 bytes) ≡ Got places rest → (length rest ≡ 0 → ⊥) → IsPage bytes others → ⊥
  not_past places others e l s =
      let k : under (page []) (placed 0 bytes) ≡ Got others [] = exact_page.spelled (placed 0 bytes) others [] s in
      let none : rest ≡ [] = cc in
      l (ap length none)

  not_stopped : (places : Places) → under (page []) (placed 0 bytes) ≡ Stop rest → IsPage bytes places → ⊥
  not_stopped places e s = let k : under (page []) (placed 0 bytes) ≡ Got places [] = exact_page.spelled (placed 0 bytes) places [] s in cc

  past_answers : (places : Places) → under (page []) (placed 0 bytes) ≡ Got places rest → (length rest ≡ 0 → ⊥) → PageAnswers bytes (Err (length bytes - length rest))
  past_answers places e l =
      let r = is_read rules (page []) in_limits 1 (placed 0 bytes) rest places e in
      ((λ others s. not_past places others e l s), first_fault bytes r.front rest r.ends (inr (places, r.tree)))

  stop_answers : under (page []) (placed 0 bytes) ≡ Stop rest → PageAnswers bytes (Err (length bytes - length rest))
  stop_answers e =
      let r = is_refused rules (page []) in_limits 1 (placed 0 bytes) rest e in
      ((λ places s. not_stopped places e s), first_fault bytes r.front rest r.ends (inl r.begins))

pub page_answers : (bytes : List ℕ) (o : Outcome Placed Places) → under (page []) (placed 0 bytes) ≡ o → IsSettled o → PageAnswers bytes (page_told bytes o)
page_answers bytes (Got places []) e s = exact_page.got (placed 0 bytes) places [] e
page_answers bytes (Got places (t ∷ more)) e s = past_answers bytes (t ∷ more) places e (λ z. absurd (omega (arith, z)))
page_answers bytes (Stop rest) e s = stop_answers bytes rest e
page_answers bytes (Deep rest) e s = absurd s

pub nothing_left : (ts : List Placed) → first ts ≡ None → ts ≡ []
nothing_left [] e = refl
nothing_left (t ∷ ts) e = cc
