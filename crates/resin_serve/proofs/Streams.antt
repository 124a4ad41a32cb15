-- The answers of a connection, however its stream is cut.
use Rattle.std.proofs.Common.{◌≡◌, ℕ, zero, suc, ◌+◌, ◌-◌, ◌<◌, ◌≤◌, true, false, cond, List, [], ◌∷◌, ◌++◌, length, drop, Option, Some, None, refl, sym, ap, ◌∙◌, arith, append_assoc, length-append, length-drop, subst}
use Rattle.std.specs.Prelude.{IsSome}
use Rattle.std.proofs.lemmas.List.{append-nil, drop-append-le}
use Rattle.resin_site.specs.Under.http.declared.request.Request.{Request}
use Rattle.resin_site.specs.Under.http.Stream.{Answer, asks, refuses, first, answers, answers_in, on_answer}
use Rattle.resin_site.proofs.http_lemmas.StreamLemmas.{front_of, answers_none, answers_some}
use Rattle.resin_trace.specs.Lines.{Waiting, stream_of, added, used}
use Rattle.resin_serve.specs.Lines.{still}

none_of : (s : List ℕ) → length s ≤ 0 → first s ≡ None
none_of s h = elim (first s) as (λ o. first s ≡ o → first s ≡ None) [
  | None ↦ λ e. e
  | Some p ↦ λ e. (let f = front_of s p e in let a : 0 < p.1 = f.some in let b : p.1 ≤ length s = f.within in absurd (omega arith))
] refl

-- enough fuel is enough
enough : (n m : ℕ) (s : List ℕ) → length s ≤ n → length s ≤ m → answers_in n s ≡ answers_in m s
enough zero m s h k = answers_none zero s (none_of s h) ∙ sym (answers_none m s (none_of s h))
enough (suc n) zero s h k = answers_none (suc n) s (none_of s k) ∙ sym (answers_none zero s (none_of s k))
enough (suc n) (suc m) s h k = elim (first s) as (λ o. first s ≡ o → answers_in (suc n) s ≡ answers_in (suc m) s) [
  | None ↦ λ e. answers_none (suc n) s e ∙ sym (answers_none (suc m) s e)
  | Some p ↦ λ e. let f = front_of s p e in
      let a : 0 < p.1 = f.some in
      let l : length (drop p.1 s) ≡ length s - p.1 = length-drop p.1 s in
      answers_some n s p e ∙ ap (on_answer p.0) (enough n m (drop p.1 s) (omega arith) (omega arith)) ∙ sym (answers_some m s p e)
] refl

-- the answers of a stream whose front is decided, whatever follows
pub answers_more : (s t : List ℕ) (p : Answer × ℕ) → first s ≡ Some p → answers (s ++ t) ≡ on_answer p.0 (answers (drop p.1 s ++ t))
answers_more s t p e =
    let f = front_of s p e in
    let a : 0 < p.1 = f.some in
    let b : p.1 ≤ length s = f.within in
    let len : length (s ++ t) ≡ length s + length t = length-append s t in
    let dl : length (drop p.1 (s ++ t)) ≡ length (s ++ t) - p.1 = length-drop p.1 (s ++ t) in
    enough (length (s ++ t)) (suc (length (s ++ t))) (s ++ t) (omega arith) (omega arith)
    ∙ answers_some (length (s ++ t)) (s ++ t) p (f.stays t)
    ∙ ap (on_answer p.0) (enough (length (s ++ t)) (length (drop p.1 (s ++ t))) (drop p.1 (s ++ t)) (omega arith) (omega arith)
    ∙ ap answers (drop-append-le p.1 s t b))

-- nothing is decided of no bytes
no_front : (s : List ℕ) (p : Answer × ℕ) → s ≡ [] → first s ≡ Some p → ⊥
no_front s p z e =
    let f = front_of s p e in
    let a : 0 < p.1 = f.some in
    let b : p.1 ≤ length s = f.within in
    let n : length s ≡ 0 = ap length z in
    omega arith

still_open : (w : Waiting) (more : List ℕ) → w.refused ≡ false → still (Some w) more ≡ answers (w.stream ++ more)
unfolding still
still_open w more e = ap (λ b. cond b [] (answers (w.stream ++ more))) e

still_refused : (w : Waiting) (more : List ℕ) → w.refused ≡ true → still (Some w) more ≡ []
unfolding still
still_refused w more e = ap (λ b. cond b [] (answers (w.stream ++ more))) e

stream_open : (w : Waiting) → w.refused ≡ false → stream_of (Some w) ≡ w.stream
stream_open w e = ap (λ b. cond b [] w.stream) e

stream_refused : (w : Waiting) → w.refused ≡ true → stream_of (Some w) ≡ []
stream_refused w e = ap (λ b. cond b [] w.stream) e

-- a connection whose stream decides nothing gives nothing
pub turn_need : (w : Option Waiting) → first (stream_of w) ≡ None → still w [] ≡ []
unfolding still answers_in
turn_need None f = refl
turn_need (Some w) f = elim w.refused as (λ b. w.refused ≡ b → still (Some w) [] ≡ []) [
  | true ↦ λ e. still_refused w [] e
  | false ↦ λ e. still_open w [] e ∙ ap answers (append-nil w.stream) ∙ answers_none (length w.stream) w.stream (ap first (sym (stream_open w e)) ∙ f)
] refl

-- a request is the connection's next answer, and its bytes are taken
pub turn_ask : (w : Option Waiting) (r : Request) (n : ℕ) → first (stream_of w) ≡ Some (asks r, n)
    → ((more : List ℕ) → still w more ≡ asks r ∷ still (used n w) more) × (length (stream_of (used n w)) < length (stream_of w))
turn_ask None r n f = absurd (no_front [] (asks r, n) refl f)
turn_ask (Some w) r n f = elim w.refused as (λ b. w.refused ≡ b → ((more : List ℕ) → still (Some w) more ≡ asks r ∷ still (used n (Some w)) more) × (length (stream_of (used n (Some w))) < length (stream_of (Some w)))) [
  | true ↦ λ e. absurd (no_front (stream_of (Some w)) (asks r, n) (stream_refused w e) f)
  | false ↦ λ e.
      let decides : first w.stream ≡ Some (asks r, n) = ap first (sym (stream_open w e)) ∙ f in
      let fr = front_of w.stream (asks r, n) decides in
      let a : 0 < n = fr.some in
      let b : n ≤ length w.stream = fr.within in
      let next : Waiting = record { stream = drop n w.stream; refused = w.refused } in
      let x : length (stream_of (Some next)) ≡ length (drop n w.stream) = ap length (stream_open next e) in
      let y : length (stream_of (Some w)) ≡ length w.stream = ap length (stream_open w e) in
      let z : length (drop n w.stream) ≡ length w.stream - n = length-drop n w.stream in (
        λ more. still_open w more e ∙ answers_more w.stream more (asks r, n) decides ∙ ap (λ l. asks r ∷ l) (sym (still_open next more e)),
        omega arith,
      )
] refl

-- a refusal is its last
pub turn_refuse : (w : Option Waiting) (status n : ℕ) → first (stream_of w) ≡ Some (refuses status, n)
    → (more : List ℕ) → still w more ≡ refuses status ∷ still (Some (record { stream = []; refused = true })) more
turn_refuse None status n f more = absurd (no_front [] (refuses status, n) refl f)
turn_refuse (Some w) status n f more = elim w.refused as (λ b. w.refused ≡ b → still (Some w) more ≡ refuses status ∷ still (Some (record { stream = []; refused = true })) more) [
  | true ↦ λ e. absurd (no_front (stream_of (Some w)) (refuses status, n) (stream_refused w e) f)
  | false ↦ λ e.
      let decides : first w.stream ≡ Some (refuses status, n) = ap first (sym (stream_open w e)) ∙ f in
      still_open w more e ∙ answers_more w.stream more (refuses status, n) decides ∙ ap (λ l. refuses status ∷ l) (sym (still_refused (record { stream = []; refused = true }) more refl))
] refl

-- a refused connection gives nothing
pub refused_none : (more : List ℕ) → still (Some (record { stream = []; refused = true })) more ≡ []
refused_none more = still_refused (record { stream = []; refused = true }) more refl

-- a piece comes before what follows
pub still_added : (w : Option Waiting) (piece more : List ℕ) → still (Some (added w piece)) more ≡ still w (piece ++ more)
unfolding still
still_added None piece more = refl
still_added (Some w) piece more = elim w.refused as (λ b. w.refused ≡ b → still (Some (cond b w (record { stream = w.stream ++ piece; refused = false }))) more ≡ still (Some w) (piece ++ more)) [
  | true ↦ λ e. still_refused w more e ∙ sym (still_refused w (piece ++ more) e)
  | false ↦ λ e. ap answers (append_assoc w.stream piece more) ∙ sym (still_open w (piece ++ more) e)
] refl

pub still_nothing : (w : Option Waiting) (more : List ℕ) → w ≡ None → still w more ≡ answers more
unfolding still
still_nothing w more e = ap (λ o. still o more) e

-- the same, where the stream and the connection after it are told by equations
pub need_at : (w : Option Waiting) (s : List ℕ) → s ≡ stream_of w → first s ≡ None → still w [] ≡ []
need_at w s e f = turn_need w (ap first (sym e) ∙ f)

pub ask_at : (w w' : Option Waiting) (s : List ℕ) (r : Request) (n : ℕ) → s ≡ stream_of w → first s ≡ Some (asks r, n) → w' ≡ used n w
    → ((more : List ℕ) → still w more ≡ asks r ∷ still w' more) × (length (stream_of w') < length (stream_of w))
ask_at w w' s r n e f u =
    subst (λ v. ((more : List ℕ) → still w more ≡ asks r ∷ still v more) × (length (stream_of v) < length (stream_of w))) (sym u) (turn_ask w r n (ap first (sym e) ∙ f))

pub refuse_at : (w w' : Option Waiting) (s : List ℕ) (status : ℕ) → s ≡ stream_of w → ((n : ℕ) × (first s ≡ Some (refuses status, n))) → w' ≡ Some (record { stream = []; refused = true })
    → ((more : List ℕ) → still w more ≡ refuses status ∷ still w' more) × ((more : List ℕ) → still w' more ≡ [])
refuse_at w w' s status e f u =
    subst (λ v. ((more : List ℕ) → still w more ≡ refuses status ∷ still v more) × ((more : List ℕ) → still v more ≡ [])) (sym u) (turn_refuse w status f.0 (ap first (sym e) ∙ f.1), refused_none)

pub used_some : (w w' : Option Waiting) (n : ℕ) → w' ≡ used n w → IsSome w → IsSome w'
used_some None w' n u h = absurd (cc)
used_some (Some w) w' n u h = subst IsSome (sym u) refl
