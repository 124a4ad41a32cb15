-- Lines, and where the first byte of a kind stands.
use Rattle.std.proofs.Common.{arith, ◌≡◌, ℕ, ◌+◌, ◌==◌, Bool, true, false, cond, not, ◌&&◌, ◌||◌, List, [], ◌∷◌, ◌++◌, length, take, drop, refl, sym, ap, ◌∙◌, append_assoc, append-nil}
use Rattle.std.specs.List.{list_all, list_any, prefix_len, before_first, after_first}
use Rattle.std.proofs.Math.Seq.{take-append_seam, drop-append-add}
use Rattle.std.proofs.lemmas.List.{take_all}
use Rattle.std.proofs.lemmas.Bool.{not_from_false, not_from_true, not-true}
use Rattle.std.proofs.lemmas.List.Folds.{list_all-append}
use Rattle.std.proofs.lemmas.List.Sums.{AllPass-from_list_all}
use Rattle.std.proofs.lemmas.List.Splits.{slice_split_at}
use Rattle.std.proofs.lemmas.List.Elements.{All-weaker}
use Rattle.std.specs.Prelude.{All}
use Rattle.httparse.specs.Grammar.{LineEnd, crlf, lf, print_end}
use Rattle.httparse.specs.Pieces.{is_newline}
use Rattle.resin_http.specs.Head.{lines_of, is_return, text_of, end_of}

pub both : (a b : Bool) → (a && b) ≡ true → (a ≡ true) × (b ≡ true)
both true b e = (refl, e)
both false b e = (e, absurd (cc))

pub and_of : (a b : Bool) → a ≡ true → b ≡ true → (a && b) ≡ true
and_of a b x y = rw (x, y) refl

-- a run of passing elements, and the one that stops it
pub prefix-run : {X : Type 0} (q : X → Bool) (w : List X) (x : X) (r : List X) → list_all q w ≡ true → q x ≡ false
    → prefix_len q (w ++ x ∷ r) ≡ length w
prefix-run q [] x r all stopped = ap (λ b. cond b (1 + prefix_len q r) 0) stopped
prefix-run q (y ∷ w) x r all stopped =
    let p = both (q y) (list_all q w) all in
    let rest : prefix_len q (w ++ x ∷ r) ≡ length w = prefix-run q w x r p.1 stopped in
    ap (λ b. cond b (1 + prefix_len q (w ++ x ∷ r)) 0) p.0 ∙ (omega arith)

pub prefix-all : {X : Type 0} (q : X → Bool) (w : List X) → list_all q w ≡ true → prefix_len q w ≡ length w
prefix-all q [] all = refl
prefix-all q (y ∷ w) all =
    let p = both (q y) (list_all q w) all in
    let rest : prefix_len q w ≡ length w = prefix-all q w p.1 in
    ap (λ b. cond b (1 + prefix_len q w) 0) p.0 ∙ (omega arith)

pub weaker : {X : Type 0} (p q : X → Bool) (w : List X) → ((x : X) → p x ≡ true → q x ≡ true) → list_all p w ≡ true → list_all q w ≡ true
weaker p q [] of all = refl
weaker p q (y ∷ w) of all =
    let b = both (p y) (list_all p w) all in
    and_of (q y) (list_all q w) (of y b.0) (weaker p q w of b.1)

pub any-none : {X : Type 0} (p : X → Bool) (w : List X) → list_all (λ x. not (p x)) w ≡ true → list_any p w ≡ false
any-none p [] all = refl
any-none p (y ∷ w) all =
    let b = both (not (p y)) (list_all (λ x. not (p x)) w) all in
    let stopped : p y ≡ false = not-true (p y) b.0 in
    ap (λ t. t || list_any p w) stopped ∙ any-none p w b.1

pub any-append : {X : Type 0} (p : X → Bool) (w : List X) (x : X) → p x ≡ true → list_any p (w ++ x ∷ []) ≡ true
any-append p [] x passes = ap (λ t. t || false) passes
any-append p (y ∷ w) x passes = ap (λ t. p y || t) (any-append p w x passes) ∙ or-true (p y)
  where
    or-true : (b : Bool) → (b || true) ≡ true
    or-true true = refl
    or-true false = refl

-- what stands before the first, and after it
pub before-stop : (p : ℕ → Bool) (w : List ℕ) (x : ℕ) (r : List ℕ) → list_all (λ b. not (p b)) w ≡ true → p x ≡ true → before_first p (w ++ x ∷ r) ≡ w
before-stop p w x r all stop =
    ap (λ n. take n (w ++ x ∷ r)) (prefix-run (λ b. not (p b)) w x r all (not_from_true (p x) stop)) ∙ take-append_seam w (x ∷ r)

pub after-stop : (p : ℕ → Bool) (w : List ℕ) (x : ℕ) (r : List ℕ) → list_all (λ b. not (p b)) w ≡ true → p x ≡ true → after_first p (w ++ x ∷ r) ≡ r
after-stop p w x r all stop =
    ap (λ n. drop (n + 1) (w ++ x ∷ r)) (prefix-run (λ b. not (p b)) w x r all (not_from_true (p x) stop)) ∙ drop-append-add w (x ∷ r) 1

pub before-none : (p : ℕ → Bool) (w : List ℕ) → list_all (λ b. not (p b)) w ≡ true → before_first p w ≡ w
before-none p w all =
    ap (λ n. take n w) (prefix-all (λ b. not (p b)) w all) ∙ take_all (length w) w (omega arith)

-- a byte that ends no line
abbrev pub is_plain : ℕ → Bool
is_plain b = not (is_newline b)

-- the CR of a line end
abbrev pub mark_of : LineEnd → List ℕ
mark_of crlf = 13 ∷ []
mark_of lf = []

pub plain_return : (b : ℕ) → is_plain b ≡ true → not (is_return b) ≡ true
plain_return b e = de_morgan (b == 13) (b == 10) e
  where
    de_morgan : (x y : Bool) → not (x || y) ≡ true → not x ≡ true
    de_morgan true y e = e
    de_morgan false y e = refl

pub plain_feed : (b : ℕ) → is_plain b ≡ true → (b == 10) ≡ false
plain_feed b e = de_morgan (b == 13) (b == 10) e
  where
    de_morgan : (x y : Bool) → not (x || y) ≡ true → y ≡ false
    de_morgan true y e = absurd (cc)
    de_morgan false true e = absurd (cc)
    de_morgan false false e = refl

-- no element passes
pub none-false : {X : Type 0} (p : X → Bool) (w : List X) → list_all (λ x. not (p x)) w ≡ true → All (λ x. p x ≡ false) w
none-false p w all =
    All-weaker (λ x. not (p x) ≡ true) (λ x. p x ≡ false) (λ x h. not-true (p x) h) w (AllPass-from_list_all (λ x. not (p x)) w all)

pub no_feed : (text : List ℕ) → list_all is_plain text ≡ true → list_all (λ b. not (b == 10)) text ≡ true
no_feed text plain = weaker is_plain (λ b. not (b == 10)) text (λ b h. not_from_false (b == 10) (plain_feed b h)) plain

pub no_return : (text : List ℕ) → list_all is_plain text ≡ true → list_all (λ b. not (is_return b)) text ≡ true
no_return text plain = weaker is_plain (λ b. not (is_return b)) text plain_return plain

-- a line comes off a text
pub lines-line : (text : List ℕ) (e : LineEnd) (rest : List ℕ) → list_all is_plain text ≡ true
    → lines_of (text ++ (print_end e ++ rest)) ≡ (text ++ mark_of e) ∷ lines_of rest
lines-line text crlf rest plain =
    ap lines_of (sym (append_assoc text (13 ∷ []) (10 ∷ rest)))
    ∙ slice_split_at (λ b. b == 10) (text ++ 13 ∷ []) 10 rest
    (none-false (λ b. b == 10) (text ++ 13 ∷ []) (list_all-append (λ b. not (b == 10)) text (13 ∷ []) ∙ and_of _ _ (no_feed text plain) refl)) refl
lines-line text lf rest plain =
    slice_split_at (λ b. b == 10) text 10 rest (none-false (λ b. b == 10) text (no_feed text plain)) refl
    ∙ ap (λ t. t ∷ lines_of rest) (sym (append-nil text))

-- what a line spells, and how it ended
pub text-line : (text : List ℕ) (e : LineEnd) → list_all is_plain text ≡ true → text_of (text ++ mark_of e) ≡ text
text-line text crlf plain = before-stop is_return text 13 [] (no_return text plain) refl
text-line text lf plain = ap text_of (append-nil text) ∙ before-none is_return text (no_return text plain)

pub end-line : (text : List ℕ) (e : LineEnd) → list_all is_plain text ≡ true → end_of (text ++ mark_of e) ≡ e
end-line text crlf plain = ap (λ b. cond b crlf lf) (any-append is_return text 13 refl)
end-line text lf plain = ap (λ w. cond (list_any is_return w) crlf lf) (append-nil text) ∙ ap (λ b. cond b crlf lf) (any-none is_return text (no_return text plain))
