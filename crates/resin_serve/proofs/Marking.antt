-- The marks of the streams of connections stay right.
use Rattle.std.proofs.Common.{◌≡◌, ◌≢◌, ℕ, true, false, nat_eq, List, [], ◌++◌, Option, Some, None, refl, sym, ap, subst, arith, ◌⊎◌, inl, inr}
use Rattle.std.specs.Prelude.{if◌then◌else◌, Result, Ok, Err, OnOk, OnErr}
use Rattle.std.proofs.lemmas.Bool.{eqb-true}
use Rattle.std.proofs.lemmas.Bool.Decides.{nat_tests}
use Rattle.resin_site.specs.Under.http.declared.marks.Mark.{Mark}
use Rattle.resin_site.specs.Under.http.Marks.{IsMark}
use Rattle.resin_site.proofs.http_lemmas.WaitLemmas.{mark_stays}
use Rattle.resin_trace.specs.Lines.{Waiting, at, stream_of, added}
use Rattle.resin_serve.specs.Waiting_streams.{start, mark_at, AreMarks}

-- nothing is known of any stream
pub start_right : (s : List ℕ) → IsMark s start
start_right s = (omega arith, refl)

pub none_right : (connections : List (Option Waiting)) → AreMarks connections []
none_right connections c = start_right (stream_of (at connections c))

differ : (c d : ℕ) → nat_eq c d ≡ false → c ≢ d
differ c d e same = grind (arith, nat_tests)

-- one connection changed, and its mark is right
pub changed : (old new : List (Option Waiting)) (marks marks' : List Mark) (conn : ℕ) → AreMarks old marks
    → ((c : ℕ) → c ≢ conn → at new c ≡ at old c) → ((c : ℕ) → c ≢ conn → mark_at marks' c ≡ mark_at marks c)
    → IsMark (stream_of (at new conn)) (mark_at marks' conn) → AreMarks new marks'
changed old new marks marks' conn right streams others here c =
    elim (nat_eq c conn) as (λ b. nat_eq c conn ≡ b → IsMark (stream_of (at new c)) (mark_at marks' c)) [
      | true ↦ λ e. subst (λ k. IsMark (stream_of (at new k)) (mark_at marks' k)) (sym (eqb-true c conn e)) here
      | false ↦ λ e.
          let ne = differ c conn e in
          subst (λ w. IsMark (stream_of w) (mark_at marks' c)) (sym (streams c ne)) (subst (IsMark (stream_of (at old c))) (sym (others c ne)) (right c))
    ] refl

-- the mark of a connection of which nothing is known any more
pub forgotten : (s : List ℕ) (m : Mark) → (m ≡ start) ⊎ (m ≡ start) → IsMark s m
forgotten s m (inl e) = subst (IsMark s) (sym e) (start_right s)
forgotten s m (inr e) = subst (IsMark s) (sym e) (start_right s)

-- a mark that was kept, or not
pub kept_or_not : (s : List ℕ) (m k : Mark) → (m ≡ k) ⊎ (m ≡ start) → IsMark s k → IsMark s m
kept_or_not s m k (inl e) right = subst (IsMark s) (sym e) right
kept_or_not s m k (inr e) right = subst (IsMark s) (sym e) (start_right s)

-- a mark stays right of a connection on which a piece came
pub right_added : (w : Option Waiting) (bytes : List ℕ) (m : Mark) → IsMark (stream_of w) m → IsMark (stream_of (Some (added w bytes))) m
right_added None bytes m right = mark_stays [] bytes m right
right_added (Some w) bytes m right =
    elim w.refused as (λ b. w.refused ≡ b → IsMark (stream_of (Some (if b then w else record { stream = w.stream ++ bytes; refused = false }))) m) [
      | true ↦ λ e. right
      | false ↦ λ e. mark_stays w.stream bytes m (subst (λ s. IsMark s m) (ap (λ b. if b then [] else w.stream) e) right)
    ] refl

-- a piece came on a connection, or there was no memory for it
pub added_marks : {T E : Type 0} (r : Result T E) (old new : List (Option Waiting)) (marks marks' : List Mark) (conn : ℕ) (bytes : List ℕ)
    → AreMarks old marks → ((c : ℕ) → mark_at marks' c ≡ mark_at marks c) → ((c : ℕ) → c ≢ conn → at new c ≡ at old c)
    → OnOk r (at new conn ≡ Some (added (at old conn) bytes)) → OnErr r (at new conn ≡ at old conn) → AreMarks new marks'
added_marks (Ok x) old new marks marks' conn bytes right same others ok err =
    changed old new marks marks' conn right others (λ c ne. same c)
    (subst (IsMark (stream_of (at new conn))) (sym (same conn)) (subst (λ w. IsMark (stream_of w) (mark_at marks conn)) (sym ok) (right_added (at old conn) bytes (mark_at marks conn) (right conn))))
added_marks (Err x) old new marks marks' conn bytes right same others ok err =
    changed old new marks marks' conn right others (λ c ne. same c)
    (subst (IsMark (stream_of (at new conn))) (sym (same conn)) (subst (λ w. IsMark (stream_of w) (mark_at marks conn)) (sym err) (right conn)))
