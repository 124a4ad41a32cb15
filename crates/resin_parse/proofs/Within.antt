-- Fronts within limits: what such a front begins with is one too.
use Rattle.std.proofs.Common.{◌≡◌, ℕ, zero, suc, List, [], ◌∷◌, ◌++◌, Bool, inl, inr, refl, sym, ◌∙◌, ap, subst}
use Rattle.resin_form.specs.Form.{Own, Form, After}
use Rattle.resin_form.specs.Reading.{Outcome, Got, Stop, Deep, left}
use Rattle.resin_form.specs.Meaning.{allows_at, NameSpells, NameBegins, reading, SpellsWithin, BeginsWithin, IsFrontWithin, reading_of}
use Rattle.resin_form.proofs.Exact.{Exact, exact, exact_after}
use Rattle.resin_form.proofs.Local.{Local, Extends, IsSettled, read_local, after_local}
use Rattle.resin_form.proofs.Fronts.{shrinks}

-- two ways to cut a list in two
pub data Cuts {A : Type 0} (u rest v other : List A) : Type 0 where
  same : u ≡ v → rest ≡ other → Cuts u rest v other
  longer : (x : A) (more : List A) → u ≡ v ++ x ∷ more → other ≡ (x ∷ more) ++ rest → Cuts u rest v other
  shorter : (x : A) (more : List A) → v ≡ u ++ x ∷ more → rest ≡ (x ∷ more) ++ other → Cuts u rest v other

behind : {A : Type 0} (x y : A) (u rest v other : List A) → x ≡ y → Cuts u rest v other → Cuts (x ∷ u) rest (y ∷ v) other
behind x y u rest v other h (same e r) = same (cc) r
behind x y u rest v other h (longer z more e r) = longer z more (cc) r
behind x y u rest v other h (shorter z more e r) = shorter z more (cc) r

pub cuts : {A : Type 0} (u rest v other : List A) → u ++ rest ≡ v ++ other → Cuts u rest v other
cuts [] rest [] other e = same refl e
cuts [] rest (y ∷ v) other e = shorter y v refl e
cuts (x ∷ u) rest [] other e = longer x u refl (sym e)
cuts (x ∷ u) rest (y ∷ v) other e =
    let h : x ≡ y = cc in
    let k : u ++ rest ≡ v ++ other = cc in
    behind x y u rest v other h (cuts u rest v other k)

first_none : {A : Type 0} (a b : List A) → a ++ b ≡ [] → a ≡ []
first_none [] b e = refl
first_none (x ∷ a) b e = cc

-- what is read to its end is read so up to each place before
whole_before : {Token A : Type 0} (o final : Outcome Token A) (x : List Token) → IsSettled final → left final ≡ [] → Extends o x final → IsSettled o × (left o ≡ [])
whole_before o final x s l (inr h) = (h.0, h.1)
whole_before (Got v r) final x s l (inl h) = (tt, first_none r x (sym (ap left h) ∙ l))
whole_before (Stop r) final x s l (inl h) = (tt, first_none r x (sym (ap left h) ∙ l))
whole_before (Deep r) final x s l (inl h) = absurd (subst IsSettled h s)

module _ {Token Name : Type 0} {Value : Name → Type 0} (rules : (n : Name) → After Token Name Value Own (Value n)) (allows : ℕ → Bool) where
  name_local : (depth : ℕ) (n : Name) → Local (reading rules allows depth n)
  unfolding reading
  name_local zero n ts extra = inl refl
  name_local (suc depth) n ts extra = after_local (allows_at allows depth) (reading rules allows depth) (shrinks rules allows depth) (name_local depth) (rules n) ts extra

  name_exact : (depth : ℕ) (n : Name) → Exact (reading rules allows depth n) (NameSpells rules allows depth n) (NameBegins rules allows depth n)
  unfolding reading NameSpells NameBegins
  name_exact zero n = record { got = λ ts v rest e. cc; spelled = λ ts v rest s. absurd s; stopped = λ w e. cc; begun = λ w b. absurd b }
  name_exact (suc depth) n = exact_after (allows_at allows depth) (reading rules allows depth) (shrinks rules allows depth) (NameSpells rules allows depth) (NameBegins rules allows depth) (name_exact depth) (rules n)

  module _ {A : Type 0} (F : Form Token Name Value A) (depth : ℕ) where
    abbrev read_alone : List Token → Outcome Token A
    read_alone = reading_of rules allows depth F

    local_at : Local (reading_of rules allows depth F)
    local_at = read_local (allows_at allows depth) (reading rules allows depth) (shrinks rules allows depth) (name_local depth) F

    exact_at : Exact (reading_of rules allows depth F) (SpellsWithin rules allows depth F) (BeginsWithin rules allows depth F)
    exact_at = exact (allows_at allows depth) (reading rules allows depth) (shrinks rules allows depth) (NameSpells rules allows depth) (NameBegins rules allows depth) (name_exact depth) F

    -- what is spelled is read
    pub spelled_read : (w : List Token) (v : A) → SpellsWithin rules allows depth F w v [] → reading_of rules allows depth F w ≡ Got v []
    spelled_read w v s = exact_at.spelled w v [] s

    front_read : (w : List Token) → IsFrontWithin rules allows depth F w → (o : Outcome Token A) × (read_alone w ≡ o) × IsSettled o × (left o ≡ [])
    front_read w (inl b) = (Stop [], exact_at.begun w b, tt, refl)
    front_read w (inr s) = (Got s.0 [], exact_at.spelled w s.0 [] s.1, tt, refl)

    read_front : (w : List Token) (o : Outcome Token A) → read_alone w ≡ o → IsSettled o → left o ≡ [] → IsFrontWithin rules allows depth F w
    read_front w (Got e rest) r s l = inr (e, exact_at.got w e [] (r ∙ ap (Got e) l))
    read_front w (Stop rest) r s l = inl (exact_at.stopped w (r ∙ ap Stop l))
    read_front w (Deep rest) r s l = absurd s

    -- fronts within limits are closed under fronts
    pub front_before : (u x : List Token) → IsFrontWithin rules allows depth F (u ++ x) → IsFrontWithin rules allows depth F u
    front_before u x f =
        let g = front_read (u ++ x) f in
        let h : Extends (read_alone u) x g.0 = subst (λ o. Extends (read_alone u) x o) g.1 (local_at u x) in
        let k = whole_before (read_alone u) g.0 x g.2 g.3 h in
        read_front u (read_alone u) refl k.0 k.1
