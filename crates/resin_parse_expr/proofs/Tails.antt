-- What is left behind the front of a list, by its length; and the answers that follow.
use Rattle.std.proofs.Common.{◌≡◌, ℕ, ◌-◌, List, ◌++◌, length, take, drop, sym, ◌∙◌, ap, subst, arith, length-append, append_assoc}
use Rattle.std.proofs.Math.Seq.{drop-append_seam}
use Rattle.std.proofs.lemmas.List.{take-append-drop}
use Rattle.resin_form.specs.Meaning.{IsRead, IsRefused}
use Rattle.resin_lex.specs.declared.token.Token.{Token}
use Rattle.resin_tree.specs.declared.expression.Expr.{Expr}
use Rattle.resin_grammar.specs.Expressions.{rules, expression}
use Rattle.resin_grammar.specs.Reading.{is_low}
use Rattle.resin_parse_expr.specs.Answers.{place_of}

pub behind_front : {A : Type 0} (all front rest : List A) (at : ℕ) → drop at all ≡ front ++ rest → drop (length all - length rest) all ≡ rest
behind_front all front rest at e =
    let whole : all ≡ (take at all ++ front) ++ rest = sym (take-append-drop at all) ∙ ap (λ x. take at all ++ x) e ∙ sym (append_assoc (take at all) front rest) in
    let long = ap length whole in
    let parts = length-append (take at all ++ front) rest in
    let count : length all - length rest ≡ length (take at all ++ front) = omega (arith, long, parts) in
    rw count (subst (λ x. drop (length (take at all ++ front)) x ≡ rest) (sym whole) (drop-append_seam (take at all ++ front) rest))

-- `ts`: what was read from; `next`: the index of what is left
module _ (all ts rest : List Token) (at next depth : ℕ) (same : ts ≡ drop at all) (count : next ≡ length all - length rest) where
  behind : (front : List Token) → drop at all ≡ front ++ rest → drop next all ≡ rest
  behind front e = rw count (behind_front all front rest at e)

  pub tree_at : (e f : Expr) → f ≡ e → IsRead rules expression is_low depth ts e rest → IsRead rules expression is_low depth (drop at all) f (drop next all)
  tree_at e f same_tree r =
      let q : IsRead rules expression is_low depth (drop at all) e rest = subst (λ x. IsRead rules expression is_low depth x e rest) same r in
      subst (λ x. IsRead rules expression is_low depth (drop at all) f x) (sym (behind q.front q.ends.text))
      (subst (λ x. IsRead rules expression is_low depth (drop at all) x rest) (sym same_tree) q)

  pub refused_at : (end place : ℕ) → place ≡ place_of end (drop next all) → IsRefused rules expression is_low depth ts rest
      → (x : List Token) × IsRefused rules expression is_low depth (drop at all) x × (place ≡ place_of end x)
  refused_at end place e r =
      let q : IsRefused rules expression is_low depth (drop at all) rest = subst (λ x. IsRefused rules expression is_low depth x rest) same r in
      (rest, q, e ∙ ap (place_of end) (behind q.front q.ends.text))
