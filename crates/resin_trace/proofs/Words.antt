-- The records of the grammar are the words that are read.
use Rattle.std.proofs.Common.{◌≡◌, ◌≢◌, ℕ, ◌+◌, ◌*◌, ◌-◌, ◌≤◌, List, [], ◌∷◌, ◌++◌, length, refl, sym, ◌∙◌, ap, subst, arith, ◌⊎◌, inl, inr}
use Rattle.std.specs.Prelude.{All, ◌==◌, true, false}
use Rattle.std.proofs.lemmas.Bool.{eqb-true, eqb-false}
use Rattle.std.proofs.lemmas.List.{append-nil}
use Rattle.std.proofs.lemmas.List.Elements.{All-nil, All-cons, All-head, All-tail}
use Rattle.resin_trace.specs.Records.{IsDigit, value, Numeral, Spells, Front}
use Rattle.resin_trace.specs.Reads.{Stands}
use Rattle.resin_trace.specs.Front.{front}
use Rattle.resin_trace.specs.declared.event.TraceEvent.{TraceEvent}
use Rattle.resin_trace.specs.declared.event.TraceEvent.TheVariants.{Piece, End}
use Rattle.resin_trace.specs.Front.{Found, Whole, Need, Bad}
use Rattle.resin_trace.proofs.Stages.{Lang, Stand, Tells, Empty, Sized, Digits, First, Said, Numbered, Record}
use Rattle.resin_trace.proofs.Reading.{front_tells}

grows : (v : ℕ) (ds : List ℕ) → v ≤ value v ds
grows v [] = omega arith
grows v (b ∷ ds) = let i : 10 * v + (b - 48) ≤ value (10 * v + (b - 48)) ds = grows (10 * v + (b - 48)) ds in omega arith

-- digits and what comes after them
record Cut (high : ℕ) (K : ℕ → Lang) (v : ℕ) (w : List ℕ) (e : TraceEvent) : Type 0 where
  ds : List ℕ
  more : List ℕ
  digits : All IsDigit ds
  canonical : v ≡ 0 → ds ≡ []
  bound : value v ds ≤ high
  is : w ≡ ds ++ more
  says : K (value v ds) more e

cut : (high : ℕ) (K : ℕ → Lang) (v : ℕ) (w : List ℕ) (e : TraceEvent) → v ≤ high → Digits high K v w e → Cut high K v w e
cut high K v [] e h k = absurd k
cut high K v (b ∷ w) e h (inl i) = let c : Cut high K (10 * v + (b - 48)) w e = cut high K (10 * v + (b - 48)) w e i.2 i.3 in
    record { ds = b ∷ c.ds; more = c.more; digits = All-cons IsDigit b c.ds i.0 c.digits; canonical = λ z. absurd (i.1 z); bound = c.bound; is = ap (λ l. b ∷ l) c.is; says = c.says }
cut high K v (b ∷ w) e h (inr i) = record { ds = []; more = b ∷ w; digits = All-nil IsDigit; canonical = λ z. refl; bound = h; is = refl; says = i }

joined : (high : ℕ) (K : ℕ → Lang) (v : ℕ) (ds more : List ℕ) (e : TraceEvent) → Empty (K v) → All IsDigit ds → (v ≡ 0 → ds ≡ []) → value v ds ≤ high → ((u : ℕ) → Empty (K u))
    → K (value v ds) more e → Digits high K v (ds ++ more) e
joined high K v [] [] e z d c h empty k = absurd (z e k)
joined high K v [] (b ∷ more) e z d c h empty k = inr k
joined high K v (b ∷ ds) more e z d c h empty k =
    let some : v ≢ 0 = λ i. (let n : (b ∷ ds) ≡ [] = c i in absurd (cc)) in
    let low : 10 * v + (b - 48) ≤ value (10 * v + (b - 48)) ds = grows (10 * v + (b - 48)) ds in
    inl (All-head IsDigit b ds d, some, omega arith, joined high K (10 * v + (b - 48)) ds more e (empty (10 * v + (b - 48))) (All-tail IsDigit b ds d) (λ i. absurd (some (omega arith))) h empty k)

same_value : (b : ℕ) (ds : List ℕ) → value 0 (b ∷ ds) ≡ value (b - 48) ds
same_value b ds = ap (λ v. value v ds) (omega arith)

-- a number and what comes after it
record Split (low high : ℕ) (K : ℕ → Lang) (w : List ℕ) (e : TraceEvent) : Type 0 where
  n : ℕ
  text : List ℕ
  more : List ℕ
  numeral : Numeral text n
  bound : n ≤ high
  least : low ≤ n
  is : w ≡ text ++ more
  says : K n more e

split : (low high : ℕ) (K : ℕ → Lang) (w : List ℕ) (e : TraceEvent) → 9 ≤ high → First low high K w e → Split low high K w e
split low high K [] e h k = absurd k
split low high K (b ∷ w) e h k =
    let least : low ≤ b - 48 = k.1 in
    let top : b ≤ 57 = k.0.1 in
    let bottom : 48 ≤ b = k.0.0 in
    let c : Cut high K (b - 48) w e = cut high K (b - 48) w e (omega arith) k.2 in
    let g : b - 48 ≤ value (b - 48) c.ds = grows (b - 48) c.ds in
    record {
      n = value (b - 48) c.ds;
      text = b ∷ c.ds;
      more = c.more;
      numeral = record { digits = All-cons IsDigit b c.ds k.0 c.digits; canonical = λ z. c.canonical (omega arith); says = same_value b c.ds };
      bound = c.bound;
      least = omega arith;
      is = ap (λ l. b ∷ l) c.is;
      says = c.says;
    }

zero_or : (b : ℕ) → 48 ≤ b → (b ≡ 48) ⊎ (49 ≤ b)
zero_or b h = elim (b == 48) as (λ t. (b == 48) ≡ t → (b ≡ 48) ⊎ (49 ≤ b)) [
  | true ↦ λ e. inl (eqb-true b 48 e)
  | false ↦ λ e. inr (let n : b ≢ 48 = eqb-false b 48 e in omega arith)
] refl

first_digit : (b : ℕ) (ds : List ℕ) (n low : ℕ) → Numeral (b ∷ ds) n → low ≤ 1 → low ≤ n → low ≤ b - 48
first_digit b ds n low u one l = let d : 48 ≤ b = (All-head IsDigit b ds u.digits).0 in elim (zero_or b d) as (λ _. low ≤ b - 48) [
  | inl z ↦ (let e : n ≡ value 0 (b ∷ []) = sym u.says ∙ ap (λ xs. value 0 (b ∷ xs)) (u.canonical z) in omega arith)
  | inr z ↦ omega arith
]

glue : (low high : ℕ) (K : ℕ → Lang) (text more : List ℕ) (n : ℕ) (e : TraceEvent) → low ≤ 1 → ((u : ℕ) → Empty (K u)) → Numeral text n → low ≤ n → n ≤ high → K n more e → First low high K (text ++ more) e
glue low high K [] more n e one empty u l h k = absurd u.canonical
glue low high K (b ∷ ds) more n e one empty u l h k =
    let v : value (b - 48) ds ≡ n = sym (same_value b ds) ∙ u.says in (
      All-head IsDigit b ds u.digits,
      first_digit b ds n low u one l,
      joined high K (b - 48) ds more e (empty (b - 48)) (All-tail IsDigit b ds u.digits) (λ z. (let d : 48 ≤ b = (All-head IsDigit b ds u.digits).0 in u.canonical (omega arith))) (omega arith) empty (subst (λ m. K m more e) (sym v) k),
    )

sized_of : (conn : ℕ) (bytes : List ℕ) → Sized conn (length bytes) (10 ∷ (bytes ++ 10 ∷ [])) (Piece conn bytes)
sized_of conn bytes = (refl, record { bytes = bytes; is = refl; count_is = refl; event = refl })

as_said : (conn : ℕ) (w : List ℕ) (e : TraceEvent) → First 0 1048576 (Sized conn) w e → Said conn w e
as_said conn [] e h = absurd h
as_said conn (b ∷ w) e h = inr h

-- each record of the grammar is a word
pub word_of : (w : List ℕ) (e : TraceEvent) → Spells w e → Record w e
word_of w (Piece conn bytes) s =
    subst (λ t. Record t (Piece conn bytes)) (sym s.is)
    (glue 1 1000 Numbered s.head (32 ∷ (s.size ++ 10 ∷ (bytes ++ 10 ∷ []))) conn (Piece conn bytes) (omega arith) (λ u e h. h) s.conn_is s.low s.high (
      refl,
      as_said conn (s.size ++ 10 ∷ (bytes ++ 10 ∷ [])) (Piece conn bytes)
          (glue 0 1048576 (Sized conn) s.size (10 ∷ (bytes ++ 10 ∷ [])) (length bytes) (Piece conn bytes) (omega arith) (λ u e h. h) s.size_is (omega arith) s.small (sized_of conn bytes)),
    ))
word_of w (End conn) s =
    subst (λ t. Record t (End conn)) (sym s.is)
    (glue 1 1000 Numbered s.head (32 ∷ 101 ∷ 110 ∷ 100 ∷ 10 ∷ []) conn (End conn) (omega arith) (λ u e h. h) s.conn_is s.low s.high (refl, inl (refl, (refl, refl))))

piece_of : (conn count : ℕ) (head size w u : List ℕ) (e : TraceEvent) → Numeral head conn → 1 ≤ conn → conn ≤ 1000 → Numeral size count → count ≤ 1048576 → w ≡ head ++ 32 ∷ (size ++ u) → Sized conn count u e → Spells w e
piece_of conn count head size w [] e a l h b s i k = absurd k
piece_of conn count head size w (x ∷ u) e a l h b s i k =
    subst (λ f. Spells w f) (sym k.1.event) (record {
      head = head;
      size = size;
      conn_is = a;
      low = l;
      high = h;
      size_is = subst (λ n. Numeral size n) (sym k.1.count_is) b;
      small = subst (λ n. n ≤ 1048576) (sym k.1.count_is) s;
      is = i ∙ ap (λ t. head ++ 32 ∷ (size ++ t)) (ap (λ y. y ∷ u) k.0 ∙ ap (λ t. 10 ∷ t) k.1.is);
    })

said_of : (conn : ℕ) (head w v : List ℕ) (e : TraceEvent) → Numeral head conn → 1 ≤ conn → conn ≤ 1000 → w ≡ head ++ 32 ∷ v → Said conn v e → Spells w e
said_of conn head w [] e a l h i k = absurd k
said_of conn head w (x ∷ v) e a l h i (inl k) =
    subst (λ f. Spells w f) (sym k.1.1) (record { head = head; conn_is = a; low = l; high = h; is = i ∙ ap (λ t. head ++ 32 ∷ t) (ap (λ y. y ∷ v) k.0 ∙ ap (λ t. 101 ∷ t) k.1.0) })
said_of conn head w (x ∷ v) e a l h i (inr k) =
    let c : Split 0 1048576 (Sized conn) (x ∷ v) e = split 0 1048576 (Sized conn) (x ∷ v) e (omega arith) k in
    piece_of conn c.n head c.text w c.more e a l h c.numeral c.bound (i ∙ ap (λ t. head ++ 32 ∷ t) c.is) c.says

numbered_of : (conn : ℕ) (head w v : List ℕ) (e : TraceEvent) → Numeral head conn → 1 ≤ conn → conn ≤ 1000 → w ≡ head ++ v → Numbered conn v e → Spells w e
numbered_of conn head w [] e a l h i k = absurd k
numbered_of conn head w (x ∷ v) e a l h i k = said_of conn head w v e a l h (i ∙ ap (λ y. head ++ y ∷ v) k.0) k.1

-- each word is a record of the grammar
pub record_of : (w : List ℕ) (e : TraceEvent) → Record w e → Spells w e
record_of w e k =
    let c : Split 1 1000 Numbered w e = split 1 1000 Numbered w e (omega arith) k in
    numbered_of c.n c.text w c.more e c.numeral c.least c.bound c.is c.says

stands : (text : List ℕ) → Front text → Stand Record text
stands text f = record { event = f.event; word = f.word; rest = f.rest; says = word_of f.word f.event f.spells; is = f.is }

fronts : (text : List ℕ) → Stand Record text → Front text
fronts text s = record { event = s.event; word = s.word; rest = s.rest; spells = record_of s.word s.event s.says; is = s.is }

stands_as : (text : List ℕ) (s : Found) → Tells Record 0 text s → Stands text s
stands_as text (Whole event used) t = record { word = t.word; rest = t.rest; spells = record_of t.word event t.says; is = t.is; used_is = (let u = t.used_is in omega arith) }
stands_as text Need t = (λ f. t.none (stands text f), (t.more, fronts (text ++ t.more) t.comes))
stands_as text Bad t = (λ f. t [] (subst (λ x. Stand Record x) (sym (append-nil text)) (stands text f)), λ g. t g.0 (stands (text ++ g.0) g.1))

pub front_stands : (text : List ℕ) → Stands text (front text)
front_stands text = stands_as text (front text) (front_tells text)
