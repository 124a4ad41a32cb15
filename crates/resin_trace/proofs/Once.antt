-- One text has one longest run of records.
use Rattle.std.proofs.Common.{◌≡◌, ℕ, ◌+◌, ◌*◌, ◌≤◌, List, [], ◌∷◌, ◌++◌, length, take, refl, sym, ◌∙◌, ap, subst, arith, inl, inr, append_assoc}
use Rattle.std.proofs.lemmas.List.{append_cancel_left}
use Rattle.std.proofs.Math.Seq.{take-append_seam}
use Rattle.resin_trace.specs.Records.{IsDigit, limit, Spells, NoRecord, Splits, Records, OnlyRecords}
use Rattle.resin_trace.specs.Front.{digit}
use Rattle.resin_trace.specs.declared.event.TraceEvent.{TraceEvent}
use Rattle.resin_trace.specs.declared.event.TraceEvent.TheVariants.{Piece}
use Rattle.resin_trace.proofs.Stages.{Lang, Empty, Ends, Bytes, Sized, Digits, First, Said, Numbered, head_of, tail_of}
use Rattle.resin_trace.proofs.Words.{word_of}

-- two words of which one text begins are the same, and say the same
abbrev Sure : Lang → Type 0
Sure L = (w w' r r' : List ℕ) (e e' : TraceEvent) → L w e → L w' e' → w ++ r ≡ w' ++ r' → (w ≡ w') × (e ≡ e')

record Aligned (L : Lang) (b : ℕ) (rest w' r' : List ℕ) (e' : TraceEvent) : Type 0 where
  w : List ℕ
  is : w' ≡ b ∷ w
  says : L (b ∷ w) e'
  same : rest ≡ w ++ r'

align : (L : Lang) (b : ℕ) (rest w' r' : List ℕ) (e' : TraceEvent) → Empty L → L w' e' → b ∷ rest ≡ w' ++ r' → Aligned L b rest w' r' e'
align L b rest [] r' e' z k q = absurd (z e' k)
align L b rest (c ∷ w') r' e' z k q = let h : b ≡ c = ap (head_of 0) q in
    record { w = w'; is = ap (λ d. d ∷ w') (sym h); says = subst (λ d. L (d ∷ w') e') (sym h) k; same = ap tail_of q }

-- by one byte
by_byte : (L : Lang) → Empty L → ((b : ℕ) (w w' r r' : List ℕ) (e e' : TraceEvent) → L (b ∷ w) e → L (b ∷ w') e' → w ++ r ≡ w' ++ r' → (w ≡ w') × (e ≡ e')) → Sure L
by_byte L z f [] w' r r' e e' k k' q = absurd (z e k)
by_byte L z f (b ∷ w) w' r r' e e' k k' q =
    let a : Aligned L b (w ++ r) w' r' e' = align L b (w ++ r) w' r' e' z k' q in
    let g : (w ≡ a.w) × (e ≡ e') = f b w a.w r r' e e' k a.says a.same in
    (ap (λ l. b ∷ l) g.0 ∙ sym a.is, g.1)

sure_end : (conn : ℕ) (word : List ℕ) → Sure (Ends conn word)
sure_end conn word w w' r r' e e' k k' q = (k.0 ∙ sym k'.0, k.1 ∙ sym k'.1)

front_of : (bytes r : List ℕ) (count : ℕ) → length bytes ≡ count → take count ((bytes ++ 10 ∷ []) ++ r) ≡ bytes
front_of bytes r count h = ap (take count) (append_assoc bytes (10 ∷ []) r) ∙ ap (λ n. take n (bytes ++ 10 ∷ r)) (sym h) ∙ take-append_seam bytes (10 ∷ r)

sure_bytes : (conn count : ℕ) → Sure (Bytes conn count)
sure_bytes conn count w w' r r' e e' k k' q =
    let all : (k.bytes ++ 10 ∷ []) ++ r ≡ (k'.bytes ++ 10 ∷ []) ++ r' = ap (λ l. l ++ r) (sym k.is) ∙ q ∙ ap (λ l. l ++ r') k'.is in
    let same : k.bytes ≡ k'.bytes = sym (front_of k.bytes r count k.count_is) ∙ ap (take count) all ∙ front_of k'.bytes r' count k'.count_is in
    (k.is ∙ ap (λ l. l ++ 10 ∷ []) same ∙ sym k'.is, k.event ∙ ap (λ l. Piece conn l) same ∙ sym k'.event)

sure_sized : (conn count : ℕ) → Sure (Sized conn count)
sure_sized conn count = by_byte (Sized conn count) (λ e h. h) (λ b w w' r r' e e' k k' q. sure_bytes conn count w w' r r' e e' k.1 k'.1 q)

module _ (K : ℕ → Lang) (high : ℕ) (apart : (v b : ℕ) (w : List ℕ) (e : TraceEvent) → IsDigit b → K v (b ∷ w) e → ⊥) (sure : (v : ℕ) → Sure (K v)) where
  sure_digits : (v : ℕ) → Sure (Digits high K v)
  sure_digits v [] w' r r' e e' k k' q = absurd k
  sure_digits v (b ∷ w) w' r r' e e' k k' q =
      let a : Aligned (Digits high K v) b (w ++ r) w' r' e' = align (Digits high K v) b (w ++ r) w' r' e' (λ e h. h) k' q in
      let whole : b ∷ (w ++ r) ≡ b ∷ (a.w ++ r') = ap (λ l. b ∷ l) a.same in
      let g : ((b ∷ w) ≡ (b ∷ a.w)) × (e ≡ e') =
      elim k as (λ _. ((b ∷ w) ≡ (b ∷ a.w)) × (e ≡ e')) [
        | inl i ↦ elim a.says as (λ _. ((b ∷ w) ≡ (b ∷ a.w)) × (e ≡ e')) [
          | inl j ↦ (let f : (w ≡ a.w) × (e ≡ e') = sure_digits (10 * v + digit b) w a.w r r' e e' i.3 j.3 a.same in (ap (λ l. b ∷ l) f.0, f.1))
          | inr j ↦ absurd (apart v b a.w e' i.0 j)
        ]
        | inr i ↦ elim a.says as (λ _. ((b ∷ w) ≡ (b ∷ a.w)) × (e ≡ e')) [
          | inl j ↦ absurd (apart v b w e j.0 i)
          | inr j ↦ sure v (b ∷ w) (b ∷ a.w) r r' e e' i j whole
        ]
      ] in
      (g.0 ∙ sym a.is, g.1)

  sure_first : (low : ℕ) → Sure (First low high K)
  sure_first low = by_byte (First low high K) (λ e h. h) (λ b w w' r r' e e' k k' q. sure_digits (digit b) w w' r r' e e' k.2 k'.2 q)

sized_apart : (conn v b : ℕ) (w : List ℕ) (e : TraceEvent) → IsDigit b → Sized conn v (b ∷ w) e → ⊥
sized_apart conn v b w e d k = let l : 48 ≤ b = d.0 in let m : b ≡ 10 = k.0 in absurd (omega arith)

numbered_apart : (v b : ℕ) (w : List ℕ) (e : TraceEvent) → IsDigit b → Numbered v (b ∷ w) e → ⊥
numbered_apart v b w e d k = let l : 48 ≤ b = d.0 in let m : b ≡ 32 = k.0 in absurd (omega arith)

no_letter : (conn b : ℕ) (w : List ℕ) (e : TraceEvent) → b ≡ 101 → First 0 1048576 (Sized conn) (b ∷ w) e → ⊥
no_letter conn b w e h k = let l : b ≤ 57 = k.0.1 in absurd (omega arith)

sure_said : (conn : ℕ) → Sure (Said conn)
sure_said conn = by_byte (Said conn) (λ e h. h) (λ b w w' r r' e e' k k' q.
    elim k as (λ _. (w ≡ w') × (e ≡ e')) [
      | inl i ↦ elim k' as (λ _. (w ≡ w') × (e ≡ e')) [ inl j ↦ sure_end conn (110 ∷ 100 ∷ 10 ∷ []) w w' r r' e e' i.1 j.1 q | inr j ↦ absurd (no_letter conn b w' e' i.0 j) ]
      | inr i ↦ elim k' as (λ _. (w ≡ w') × (e ≡ e')) [
        | inl j ↦ absurd (no_letter conn b w e j.0 i)
        | inr j ↦ (let f : ((b ∷ w) ≡ (b ∷ w')) × (e ≡ e') = sure_first (Sized conn) 1048576 (sized_apart conn) (sure_sized conn) 0 (b ∷ w) (b ∷ w') r r' e e' i j (ap (λ l. b ∷ l) q) in (ap tail_of f.0, f.1))
      ]
    ])

sure_numbered : (conn : ℕ) → Sure (Numbered conn)
sure_numbered conn = by_byte (Numbered conn) (λ e h. h) (λ b w w' r r' e e' k k' q. sure_said conn w w' r r' e e' k.1 k'.1 q)

-- one record stands at the front, and no other
pub sure_record : (w w' r r' : List ℕ) (e e' : TraceEvent) → Spells w e → Spells w' e' → w ++ r ≡ w' ++ r' → (w ≡ w') × (e ≡ e')
sure_record w w' r r' e e' k k' q = sure_first Numbered 1000 numbered_apart sure_numbered 1 w w' r r' e e' (word_of w e k) (word_of w' e' k') q

-- two readings of one text, with no record after either, are the same
pub once : (place : ℕ) (text : List ℕ) (es es' : List (TraceEvent × ℕ)) (rest rest' : List ℕ) → Splits place text es rest → Splits place text es' rest' → NoRecord rest → NoRecord rest' → (es ≡ es') × (rest ≡ rest')
once place text [] [] rest rest' s s' n n' = (refl, sym s ∙ s')
once place text [] (y ∷ es') rest rest' s s' n n' = absurd (n (record { event = y.0; word = s'.0; rest = s'.1; spells = s'.2; is = sym s ∙ s'.3 }))
once place text (x ∷ es) [] rest rest' s s' n n' = absurd (n' (record { event = x.0; word = s.0; rest = s.1; spells = s.2; is = sym s' ∙ s.3 }))
once place text (x ∷ es) (y ∷ es') rest rest' s s' n n' =
    let f : (s.0 ≡ s'.0) × (x.0 ≡ y.0) = sure_record s.0 s'.0 s.1 s'.1 x.0 y.0 s.2 s'.2 (sym s.3 ∙ s'.3) in
    let more : s.1 ≡ s'.1 = append_cancel_left s.0 s.1 s'.1 (sym s.3 ∙ s'.3 ∙ ap (λ l. l ++ s'.1) (sym f.0)) in
    let places : x.1 ≡ y.1 = s.4 ∙ ap (λ l. place + length l) f.0 ∙ sym s'.4 in
    let g : (es ≡ es') × (rest ≡ rest') = once x.1 s.1 es es' rest rest' s.5 (subst (λ p. Splits p s.1 es' rest') (sym places) (subst (λ t. Splits y.1 t es' rest') (sym more) s'.5)) n n' in
    (ap (λ l. x ∷ l) g.0 ∙ ap (λ z. z ∷ es') (ap (λ a. (a, x.1)) f.1 ∙ ap (λ p. (y.0, p)) places), g.1)

pub only_records : (text : List ℕ) (events : List (TraceEvent × ℕ)) (rest : List ℕ) → Records text events rest → OnlyRecords text events rest
only_records text events rest r = record {
  events_are = λ others left s. (once 0 (take limit text) others events left rest s.splits r.splits s.longest r.longest).0;
  rest_is = λ others left s. (once 0 (take limit text) others events left rest s.splits r.splits s.longest r.longest).1;
}
