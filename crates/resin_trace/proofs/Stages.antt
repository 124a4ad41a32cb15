-- What stands at the front, read byte by byte.
use Rattle.std.proofs.Common.{◌≡◌, ◌≢◌, ℕ, suc, ◌+◌, ◌*◌, ◌≤◌, List, [], ◌∷◌, ◌++◌, length, sym, ap, subst, arith, ◌⊎◌}
use Rattle.std.proofs.lemmas.List.{append-nil}
use Rattle.resin_trace.specs.Records.{IsDigit}
use Rattle.resin_trace.specs.Front.{digit}
use Rattle.resin_trace.specs.declared.event.TraceEvent.{TraceEvent}
use Rattle.resin_trace.specs.declared.event.TraceEvent.TheVariants.{Piece, End}
use Rattle.resin_trace.specs.Front.{Found, Whole, Need, Bad}

-- texts and what they say
abbrev pub Lang : Type 1
Lang = List ℕ → TraceEvent → Type 0

pub record Stand (L : Lang) (text : List ℕ) : Type 0 where
  pub event : TraceEvent
  pub word : List ℕ
  pub rest : List ℕ
  pub says : L word event
  pub is : text ≡ word ++ rest

pub record Standing (L : Lang) (at : ℕ) (text : List ℕ) (event : TraceEvent) (used : ℕ) : Type 0 where
  pub word : List ℕ
  pub rest : List ℕ
  pub says : L word event
  pub is : text ≡ word ++ rest
  pub used_is : used ≡ at + length word

pub record Waits (L : Lang) (text : List ℕ) : Type 0 where
  pub none : Stand L text → ⊥
  pub more : List ℕ
  pub comes : Stand L (text ++ more)

-- an answer that tells what stands at the front
abbrev pub Tells : Lang → ℕ → List ℕ → Found → Type 0
Tells L at text (Whole event used) = Standing L at text event used
Tells L at text Need = Waits L text
Tells L at text Bad = (more : List ℕ) → Stand L (text ++ more) → ⊥

-- the words of a language, after one byte
abbrev pub Empty : Lang → Type 0
Empty L = (e : TraceEvent) → L [] e → ⊥

abbrev pub Into : Lang → Lang → ℕ → Type 0
Into L M b = (w : List ℕ) (e : TraceEvent) → L (b ∷ w) e → M w e

abbrev pub From : Lang → Lang → ℕ → Type 0
From L M b = (w : List ℕ) (e : TraceEvent) → M w e → L (b ∷ w) e

abbrev pub head_of : ℕ → List ℕ → ℕ
head_of d [] = d
head_of d (b ∷ bs) = b

abbrev pub tail_of : List ℕ → List ℕ
tail_of [] = []
tail_of (b ∷ bs) = bs

shorter : (L M : Lang) (b : ℕ) (bs : List ℕ) → Empty L → Into L M b → Stand L (b ∷ bs) → Stand M bs
shorter L M b bs none into s =
    elim s.word as (λ w. L w s.event → (b ∷ bs) ≡ w ++ s.rest → Stand M bs) [
      | [] ↦ λ h e. absurd (none s.event h)
      | c ∷ w ↦ λ h e. record { event = s.event; word = w; rest = s.rest; says = into w s.event (subst (λ d. L (d ∷ w) s.event) (sym (ap (head_of b) e)) h); is = ap tail_of e }
    ] s.says s.is

longer : (L M : Lang) (b : ℕ) (bs : List ℕ) → From L M b → Stand M bs → Stand L (b ∷ bs)
longer L M b bs from s = record { event = s.event; word = b ∷ s.word; rest = s.rest; says = from s.word s.event s.says; is = ap (λ l. b ∷ l) s.is }

-- one byte
pub one_byte : (L M : Lang) (at b : ℕ) (bs : List ℕ) → Empty L → Into L M b → From L M b → (s : Found) → Tells M (suc at) bs s → Tells L at (b ∷ bs) s
one_byte L M at b bs none into from (Whole event used) t = record {
  word = b ∷ t.word;
  rest = t.rest;
  says = from t.word event t.says;
  is = ap (λ l. b ∷ l) t.is;
  used_is = (let u = t.used_is in omega arith);
}
one_byte L M at b bs none into from Need t = record {
  none = λ s. t.none (shorter L M b bs none into s);
  more = t.more;
  comes = longer L M b (bs ++ t.more) from t.comes;
}
one_byte L M at b bs none into from Bad t = λ more s. t more (shorter L M b (bs ++ more) none into s)

-- another language with the same words that begin with this byte
pub same_words : (L M : Lang) (at b : ℕ) (bs : List ℕ) → Empty L → Empty M → ((w : List ℕ) (e : TraceEvent) → L (b ∷ w) e → M (b ∷ w) e) → ((w : List ℕ) (e : TraceEvent) → M (b ∷ w) e → L (b ∷ w) e)
    → (s : Found) → Tells M at (b ∷ bs) s → Tells L at (b ∷ bs) s
same_words L M at b bs none none' into from s t =
    let across : (N O : Lang) (cs : List ℕ) → Empty N → ((w : List ℕ) (e : TraceEvent) → N (b ∷ w) e → O (b ∷ w) e) → Stand N (b ∷ cs) → Stand O (b ∷ cs) =
    λ N O cs z f u. elim u.word as (λ w. N w u.event → (b ∷ cs) ≡ w ++ u.rest → Stand O (b ∷ cs)) [
      | [] ↦ λ h e. absurd (z u.event h)
      | c ∷ w ↦ λ h e. record { event = u.event; word = c ∷ w; rest = u.rest; says = subst (λ d. O (d ∷ w) u.event) (ap (head_of b) e) (f w u.event (subst (λ d. N (d ∷ w) u.event) (sym (ap (head_of b) e)) h)); is = e }
    ] u.says u.is in
    elim s as (λ s. Tells M at (b ∷ bs) s → Tells L at (b ∷ bs) s) [
      | Whole event used ↦ λ t. elim t.word as (λ w. M w event → (b ∷ bs) ≡ w ++ t.rest → used ≡ at + length w → Standing L at (b ∷ bs) event used) [
        | [] ↦ λ h e u. absurd (none' event h)
        | c ∷ w ↦ λ h e u. record { word = c ∷ w; rest = t.rest; says = subst (λ d. L (d ∷ w) event) (ap (head_of b) e) (from w event (subst (λ d. M (d ∷ w) event) (sym (ap (head_of b) e)) h)); is = e; used_is = u }
      ] t.says t.is t.used_is
      | Need ↦ λ t. record { none = λ u. t.none (across L M bs none into u); more = t.more; comes = across M L (bs ++ t.more) none' from t.comes }
      | Bad ↦ λ t. λ more u. t more (across L M (bs ++ more) none into u)
    ] t

-- no word begins with this byte
pub no_byte : (L : Lang) (at b : ℕ) (bs : List ℕ) → Empty L → ((w : List ℕ) (e : TraceEvent) → L (b ∷ w) e → ⊥) → Tells L at (b ∷ bs) Bad
no_byte L at b bs none never = λ more s. (
    elim s.word as (λ w. L w s.event → (b ∷ (bs ++ more)) ≡ w ++ s.rest → ⊥) [
      | [] ↦ λ h e. none s.event h
      | c ∷ w ↦ λ h e. never w s.event (subst (λ d. L (d ∷ w) s.event) (sym (ap (head_of b) e)) h)
    ] s.says s.is)

-- the text is at its end
pub at_end : (L : Lang) (at : ℕ) → Empty L → (w : List ℕ) (e : TraceEvent) → L w e → Tells L at [] Need
at_end L at none w e h = record {
  none = λ s. elim s.word as (λ w. L w s.event → [] ≡ w ++ s.rest → ⊥) [ [] ↦ λ h e. none s.event h | c ∷ w ↦ λ h e. absurd (cc) ] s.says s.is;
  more = w;
  comes = record { event = e; word = w; rest = []; says = h; is = sym (append-nil w) };
}

-- the languages of the stages
abbrev pub Ends : ℕ → List ℕ → Lang
Ends conn word w e = (w ≡ word) × (e ≡ End conn)

pub record Bytes (conn count : ℕ) (w : List ℕ) (e : TraceEvent) : Type 0 where
  pub bytes : List ℕ
  pub is : w ≡ bytes ++ 10 ∷ []
  pub count_is : length bytes ≡ count
  pub event : e ≡ Piece conn bytes

abbrev pub Sized : ℕ → ℕ → Lang
Sized conn count [] e = ⊥
Sized conn count (b ∷ w) e = (b ≡ 10) × Bytes conn count w e

-- digits up to a bound, and what comes after them
abbrev pub Digits : ℕ → (ℕ → Lang) → ℕ → Lang
Digits high K value [] e = ⊥
Digits high K value (b ∷ w) e =
    (IsDigit b × (value ≢ 0) × (10 * value + digit b ≤ high) × Digits high K (10 * value + digit b) w e) ⊎ K value (b ∷ w) e

abbrev pub First : ℕ → ℕ → (ℕ → Lang) → Lang
First low high K [] e = ⊥
First low high K (b ∷ w) e = IsDigit b × (low ≤ digit b) × Digits high K (digit b) w e

abbrev pub Said : ℕ → Lang
Said conn [] e = ⊥
Said conn (b ∷ w) e = ((b ≡ 101) × Ends conn (110 ∷ 100 ∷ 10 ∷ []) w e) ⊎ First 0 1048576 (Sized conn) (b ∷ w) e

abbrev pub Numbered : ℕ → Lang
Numbered conn [] e = ⊥
Numbered conn (b ∷ w) e = (b ≡ 32) × Said conn w e

abbrev pub Record : Lang
Record = First 1 1000 Numbered
