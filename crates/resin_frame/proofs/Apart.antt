-- Calls that leave one another's names alone, and stores that are the same at every name.
use Rattle.std.proofs.Common.{◌⊎◌, ◌≡◌, ℕ, zero, suc, Bool, true, false, List, [], ◌∷◌, inl, inr, refl, sym, ap, subst, ◌∙◌, arith}
use Rattle.std.specs.Cmp.Lexicographic.{nat_list_cmp_total}
use Rattle.std.specs.FinMap.{same_map, slice_cmp-IsAntisymmetric, nat_cmp-IsAntisymmetric}
use Rattle.resin_meaning_forms.specs.Under.meaning.Programs.{Store, KeeperCall}
use Rattle.resin_frame.specs.Frames.{SameAt, AgreeOn, MayChange, IsChanged, Spare}

same_bool : (a b : Bool) → (a ≡ b) ⊎ (a ≡ b → ⊥)
same_bool true true = inl refl
same_bool true false = inr (λ e. cc)
same_bool false true = inr (λ e. cc)
same_bool false false = inl refl

same_nat : (a b : ℕ) → (a ≡ b) ⊎ (a ≡ b → ⊥)
same_nat zero zero = inl refl
same_nat zero (suc b) = inr (λ e. omega arith)
same_nat (suc a) zero = inr (λ e. omega arith)
same_nat (suc a) (suc b) = elim (same_nat a b) [ inl e ↦ inl (ap suc e) | inr n ↦ inr (λ e. n (omega arith)) ]

same_name : (a b : List ℕ) → (a ≡ b) ⊎ (a ≡ b → ⊥)
same_name [] [] = inl refl
same_name [] (y ∷ ys) = inr (λ e. cc)
same_name (x ∷ xs) [] = inr (λ e. cc)
same_name (x ∷ xs) (y ∷ ys) = both (same_nat x y) (same_name xs ys)
  where
    both : (x ≡ y) ⊎ (x ≡ y → ⊥) → (xs ≡ ys) ⊎ (xs ≡ ys → ⊥) → (x ∷ xs ≡ y ∷ ys) ⊎ (x ∷ xs ≡ y ∷ ys → ⊥)
    both (inl e) (inl f) = inl (λ i. e i ∷ f i)
    both (inr n) f = inr (λ e. let h : x ≡ y = cc in n h)
    both (inl e) (inr n) = inr (λ e. let h : xs ≡ ys = cc in n h)

pub is_changed_or_not : (cs : List KeeperCall) (b : Bool) (n : List ℕ) → IsChanged cs b n ⊎ (IsChanged cs b n → ⊥)
is_changed_or_not [] b n = inr (λ h. h)
is_changed_or_not (c ∷ cs) b n = by (same_bool c.changes true) (same_bool c.on_tables b) (same_name c.name n) (is_changed_or_not cs b n)
  where
    by : (c.changes ≡ true) ⊎ (c.changes ≡ true → ⊥) → (c.on_tables ≡ b) ⊎ (c.on_tables ≡ b → ⊥) → (c.name ≡ n) ⊎ (c.name ≡ n → ⊥) → IsChanged cs b n ⊎ (IsChanged cs b n → ⊥)
        → IsChanged (c ∷ cs) b n ⊎ (IsChanged (c ∷ cs) b n → ⊥)
    by x y z (inl h) = inl (inr h)
    by (inl x) (inl y) (inl z) (inr h) = inl (inl (record { changes = x; kind = y; names = z }))
    by (inr x) y z (inr h) = inr (λ k. elim k [ inl k ↦ x k.changes | inr k ↦ h k ])
    by (inl x) (inr y) z (inr h) = inr (λ k. elim k [ inl k ↦ y k.kind | inr k ↦ h k ])
    by (inl x) (inl y) (inr z) (inr h) = inr (λ k. elim k [ inl k ↦ z k.names | inr k ↦ h k ])

pub spare_changed : (cs ds : List KeeperCall) (b : Bool) (n : List ℕ) → Spare cs ds → IsChanged ds b n → IsChanged cs b n → ⊥
spare_changed cs [] b n s h k = h
spare_changed cs (d ∷ ds) b n s (inr h) k = spare_changed cs ds b n s.1 h k
spare_changed cs (d ∷ ds) b n s (inl h) k = s.0 (subst (λ m. IsChanged cs d.on_tables m) (sym h.names) (subst (λ x. IsChanged cs x n) (sym h.kind) k))

pub agree_spared : (cs ds : List KeeperCall) (s u : Store) → Spare cs ds → ((b : Bool) (n : List ℕ) → (IsChanged cs b n → ⊥) → SameAt b n s u) → AgreeOn ds s u
agree_spared cs [] s u h k = tt
agree_spared cs (d ∷ ds) s u h k = (k d.on_tables d.name h.0, agree_spared cs ds s u h.1 k)

pub same_store : (s t : Store) → ((b : Bool) (n : List ℕ) → SameAt b n s t) → s ≡ t
same_store s t h =
    let f : s.files ≡ t.files = same_map nat_list_cmp_total (slice_cmp-IsAntisymmetric nat_cmp-IsAntisymmetric) s.files t.files (h false) in
    let g : s.tables ≡ t.tables = same_map nat_list_cmp_total (slice_cmp-IsAntisymmetric nat_cmp-IsAntisymmetric) s.tables t.tables (h true) in
    λ i. record { files = f i; tables = g i }
