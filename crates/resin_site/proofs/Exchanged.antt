-- Two framed answers that leave each other alone, in either order.
use Rattle.std.proofs.Common.{◌⊎◌, ◌≡◌, ℕ, ◌+◌, ◌<◌, ◌≤◌, Bool, false, List, ◌++◌, length, inl, inr, refl, sym, ap, subst, ◌∙◌, arith, length-append}
use Rattle.resin_request.specs.Under.base.Causes.{is_listed, last_count}
use Rattle.resin_request.specs.Under.frame.Frames.{SameAt, IsChanged, Spare}
use Rattle.resin_request.specs.Under.meaning.Programs.{KeeperCall}
use Rattle.resin_request.proofs.frame_lemmas.{same_sym, same_trans, agree_sym}
use Rattle.resin_request.proofs.apart_lemmas.{is_changed_or_not, spare_changed, agree_spared, same_store}
use Rattle.resin_site.specs.Framing.{SayTheSameAs, NeedsNoMore}
use Rattle.resin_site.specs.Keeping.{Store, state}
use Rattle.resin_site.specs.Replies.{Reply}
use Rattle.resin_site.proofs.Framed.{FramedAnswer, Follows}

pub record InEitherOrder (number : ℕ) (a b b' a' : Reply) : Type 0 where
  pub first : SayTheSameAs (number + 1) a a'
  pub second : SayTheSameAs number b b'
  pub after : b.after ≡ a'.after

pub in_either_order : (P Q : List ℕ → Store → ℕ → ℕ → Reply) → FramedAnswer P → FramedAnswer Q
    → (K : List ℕ) (s : Store) (made number : ℕ)
    → let a = P K s made number in
    let b = Q K a.after.store a.after.made (number + 1) in
    let b' = Q K s made number in
    Spare a.calls b.calls → Spare b.calls a.calls → ((i : ℕ) → i < length (a.calls ++ b.calls) → is_listed K (made + i + 1) ≡ false)
    → NeedsNoMore made a → NeedsNoMore (made + length a.calls) b
    → InEitherOrder number a b b' (P K b'.after.store b'.after.made (number + 1))
in_either_order P Q fp fq K s made number spare spared succeed first second = record {
  first = alone.says;
  second = sooner.says;
  after = λ i. record { store = store i; made = as_many i };
}
  where
    a : Reply
    a = P K s made number

    b : Reply
    b = Q K a.after.store a.after.made (number + 1)

    b' : Reply
    b' = Q K s made number

    a' : Reply
    a' = P K b'.after.store b'.after.made (number + 1)

    len : length (a.calls ++ b.calls) ≡ length a.calls + length b.calls
    len = length-append a.calls b.calls

    m : a.after.made ≡ made + length a.calls
    m = fp.counts K s made number

    m2 : b.after.made ≡ a.after.made + length b.calls
    m2 = fq.counts K a.after.store a.after.made (number + 1)

    m' : b'.after.made ≡ made + length b'.calls
    m' = fq.counts K s made number

    m2' : a'.after.made ≡ b'.after.made + length a'.calls
    m2' = fp.counts K b'.after.store b'.after.made (number + 1)

    -- the second answer, without the first
    sooner : Follows number a.after.store s b b'
    sooner = fq.frames K K a.after.store s a.after.made made (number + 1) number
        (agree_sym b.calls s a.after.store (agree_spared a.calls b.calls s a.after.store spare (fp.keeps K s made number)))
        (λ i lt.
        let k : made + (length a.calls + i) + 1 ≡ a.after.made + i + 1 = omega (arith, m) in
        ap (is_listed K) (sym k) ∙ succeed (length a.calls + i) (omega (arith, len, lt)) ∙ sym (succeed i (omega (arith, len, lt))))
        (inr (subst (λ n. NeedsNoMore n b) (sym m) second, let most = second.most in omega (arith, most)))

    lb : length b.calls ≡ length b'.calls
    lb = ap length sooner.says.calls

    -- the first answer, behind the second
    alone : Follows (number + 1) s b'.after.store a a'
    alone = fp.frames K K s b'.after.store made b'.after.made number (number + 1)
        (agree_spared b'.calls a.calls s b'.after.store (subst (λ ds. Spare ds a.calls) sooner.says.calls spared) (fq.keeps K s made number))
        (λ i lt.
        let k : made + (length b'.calls + i) + 1 ≡ b'.after.made + i + 1 = omega (arith, m') in
        succeed i (omega (arith, len, lt)) ∙ sym (succeed (length b'.calls + i) (omega (arith, len, lt, lb))) ∙ ap (is_listed K) k)
        (inr (first, let most = second.most in omega (arith, m', lb, most)))

    la : length a.calls ≡ length a'.calls
    la = ap length alone.says.calls

    same : (t : Bool) (n : List ℕ) → IsChanged b.calls t n ⊎ (IsChanged b.calls t n → ⊥) → SameAt t n b.after.store a'.after.store
    same t n (inr h) = same_trans t n b.after.store a.after.store a'.after.store
        (same_sym t n a.after.store b.after.store (fq.keeps K a.after.store a.after.made (number + 1) t n h))
        (alone.stores t n (fq.keeps K s made number t n (λ k. h (subst (λ ds. IsChanged ds t n) (sym sooner.says.calls) k))))
    same t n (inl h) = same_trans t n b.after.store b'.after.store a'.after.store
        (sooner.stores t n (same_sym t n s a.after.store (fp.keeps K s made number t n free)))
        (fp.keeps K b'.after.store b'.after.made (number + 1) t n (λ k. free (subst (λ cs. IsChanged cs t n) (sym alone.says.calls) k)))
      where
        free : IsChanged a.calls t n → ⊥
        free = spare_changed a.calls b.calls t n spare h

    store : b.after.store ≡ a'.after.store
    store = same_store b.after.store a'.after.store (λ t n. same t n (is_changed_or_not b.calls t n))

    as_many : b.after.made ≡ a'.after.made
    as_many = omega (arith, m, m2, m', m2', la, lb)
