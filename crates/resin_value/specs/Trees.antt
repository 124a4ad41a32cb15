-- Values: null, a boolean, an integer with its labels, a labelled text, an array or the number of an object (PHP manual, "Types").
use Rattle.std.specs.Prelude.{ℕ, ℤ, Bool, ◌≡◌, Option}
use Rattle.std.proofs.Common.{ap, refl, arith}
use Rattle.std.specs.Coded.{Coded, coded_ℕ, coded_ℤ, coded_bool, coded_list, coded_option}
use base.Stored.{Gv, gnil, gnum, gcons, num}
use Rattle.resin_value.specs.declared.key.Key.{Key}
use Rattle.resin_value.specs.declared.key.Key.TheVariants.{Int as KInt, Text as KText}
use Rattle.resin_label.specs.Sets.{NumberSet, set_code}
use Rattle.resin_lstr.specs.Texts.{Text as LabelledText, text_code}

mutual
  pub data Tree : Type 0 where
    null : Tree
    boolean : Bool → Tree
    -- a number with its labels
    integer : ℤ → NumberSet → Tree
    text : LabelledText → Tree
    -- the entries in order, the largest integer key ever used, and the height
    array : Row → Option ℤ → ℕ → Tree
    -- an object's number
    object : ℕ → Tree

  -- the entries of an array
  pub data Row : Type 0 where
    no_entry : Row
    entry : Key → Tree → Row → Row

-- ---- how values are told apart
abbrev first : Gv → Gv
first gnil = gnil
first (gnum n) = gnil
first (gcons a b) = a

abbrev rest : Gv → Gv
rest gnil = gnil
rest (gnum n) = gnil
rest (gcons a b) = b

abbrev tag : Gv → ℕ
tag g = num (first g)

abbrev key_gv : Key → Gv
key_gv (KInt n) = gcons (gnum 0) (coded_ℤ.code n)
key_gv (KText b) = gcons (gnum 1) ((coded_list coded_ℕ).code b)

pub key_inj : (p q : Key) → key_gv p ≡ key_gv q → p ≡ q
key_inj (KInt m) (KInt n) e = ap KInt (coded_ℤ.inj m n (ap rest e))
key_inj (KText a) (KText b) e = ap KText ((coded_list coded_ℕ).inj a b (ap rest e))
key_inj (KInt m) (KText b) e = absurd (let f : 0 ≡ 1 = ap tag e in omega arith)
key_inj (KText a) (KInt n) e = absurd (let f : 1 ≡ 0 = ap tag e in omega arith)

abbrev pub key_code : Coded Key
key_code = record { code = key_gv; inj = key_inj }

abbrev mutual
  tree_gv : Tree → Gv
  tree_gv null = gcons (gnum 0) gnil
  tree_gv (boolean b) = gcons (gnum 1) (coded_bool.code b)
  tree_gv (integer n s) = gcons (gnum 2) (gcons (coded_ℤ.code n) (set_code.code s))
  tree_gv (text t) = gcons (gnum 3) (text_code.code t)
  tree_gv (array r l h) = gcons (gnum 4) (gcons (row_gv r) (gcons ((coded_option coded_ℤ).code l) (gnum h)))
  tree_gv (object n) = gcons (gnum 5) (gnum n)

  row_gv : Row → Gv
  row_gv no_entry = gcons (gnum 0) gnil
  row_gv (entry p t r) = gcons (gnum 1) (gcons (key_gv p) (gcons (tree_gv t) (row_gv r)))

mutual
  pub tree_inj : (x y : Tree) → tree_gv x ≡ tree_gv y → x ≡ y
  tree_inj null null e = refl
  tree_inj (boolean a) (boolean b) e = ap boolean (coded_bool.inj a b (ap rest e))
  tree_inj (integer m s) (integer n t) e = λ i.
      integer (coded_ℤ.inj m n (ap (λ g. first (rest g)) e) i) (set_code.inj s t (ap (λ g. rest (rest g)) e) i)
  tree_inj (text s) (text t) e = ap text (text_code.inj s t (ap rest e))
  tree_inj (array r l h) (array s m k) e = λ i.
      array (row_inj r s (ap (λ g. first (rest g)) e) i) ((coded_option coded_ℤ).inj l m (ap (λ g. first (rest (rest g))) e) i)
      (coded_ℕ.inj h k (ap (λ g. rest (rest (rest g))) e) i)
  tree_inj (object m) (object n) e = ap object (coded_ℕ.inj m n (ap rest e))
  tree_inj x y e = absurd (let f : tag (tree_gv x) ≡ tag (tree_gv y) = ap tag e in omega arith)

  pub row_inj : (r s : Row) → row_gv r ≡ row_gv s → r ≡ s
  row_inj no_entry no_entry e = refl
  row_inj (entry p t r) (entry q u s) e = λ i.
      entry (key_inj p q (ap (λ g. first (rest g)) e) i) (tree_inj t u (ap (λ g. first (rest (rest g))) e) i)
      (row_inj r s (ap (λ g. rest (rest (rest g))) e) i)
  row_inj no_entry (entry q u s) e = absurd (let f : 0 ≡ 1 = ap tag e in omega arith)
  row_inj (entry p t r) no_entry e = absurd (let f : 1 ≡ 0 = ap tag e in omega arith)

abbrev pub tree_code : Coded Tree
tree_code = record { code = tree_gv; inj = tree_inj }
