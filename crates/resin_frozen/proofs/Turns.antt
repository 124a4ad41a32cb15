-- One turn of a loop that reads pairs, and what a value is by its first two bytes.
use Rattle.std.proofs.Common.{◌≡◌, ℕ, zero, suc, ◌+◌, true, false, cond, List, Option, Some, None, Err, codes, sym, ap, ◌∙◌, arith}
use Rattle.resin_value.specs.Trees.{Tree}
use Rattle.resin_value.specs.Arrays.{Array}
use Rattle.resin_frozen.specs.declared.keys.Keys.{Keys}
use Rattle.resin_frozen.specs.declared.keys.Keys.TheVariants.{Lawful}
use Rattle.resin_frozen.specs.declared.stop.Stop.{Stop}
use Rattle.resin_frozen.specs.declared.stop.Stop.TheVariants.{Form, Memory}
use Rattle.resin_frozen.specs.Policies.{tree_of_array}
use Rattle.resin_frozen.specs.Reads.{Reads, ReadsValue}
use Rattle.resin_frozen.specs.Reading.{Read, and_then, is_text, taken, pair, pairs, braced, array_behind, scalar_behind, value_with, value}

-- ---- pairs
pub turn : (V : Read Tree) (keys : Keys) (n m : ℕ) (a b : Array) (xs mid : List ℕ) → n ≡ suc m → pair V keys a xs ≡ Some (b, mid) → pairs V keys n a xs ≡ pairs V keys m b mid
turn V keys n m a b xs mid e h = ap (λ k. pairs V keys k a xs) e ∙ ap (λ o. and_then o (λ p. pairs V keys m p.0 p.1)) h

pub fails : (V : Read Tree) (keys : Keys) (n m : ℕ) (a : Array) (xs new after : List ℕ) (stop : Stop) (o : Option (Array × List ℕ)) → n ≡ suc m → pairs V keys n a xs ≡ o → Reads (pair V keys a xs) (Err stop) new → Reads o (Err stop) after
fails V keys n m a xs new after Form o e is h = sym is ∙ ap (λ k. pairs V keys k a xs) e ∙ ap (λ o. and_then o (λ p. pairs V keys m p.0 p.1)) h
fails V keys n m a xs new after Memory o e is h = tt

pub ends : (V : Read Tree) (keys : Keys) (n : ℕ) (a : Array) (xs : List ℕ) → n ≡ 0 → pairs V keys n a xs ≡ Some (a, xs)
ends V keys n a xs e = ap (λ k. pairs V keys k a xs) e

-- ---- values
with_kind : (inner : Read Tree) (xs kind rest : List ℕ) → taken 2 xs ≡ Some (kind, rest) → value_with inner xs ≡ cond (is_text kind (codes "a:")) (inner rest) (scalar_behind kind rest)
unfolding value_with
with_kind inner xs kind rest h = ap (λ o. and_then o (λ t. cond (is_text t.0 (codes "a:")) (inner t.1) (scalar_behind t.0 t.1))) h

pub scalar : (room : ℕ) (xs kind rest : List ℕ) → taken 2 xs ≡ Some (kind, rest) → is_text kind (codes "a:") ≡ false → value room xs ≡ scalar_behind kind rest
unfolding value
scalar zero xs kind rest h f = with_kind (λ _. None) xs kind rest h ∙ ap (λ b. cond b None (scalar_behind kind rest)) f
scalar (suc room) xs kind rest h f = with_kind (array_behind (value room)) xs kind rest h ∙ ap (λ b. cond b (array_behind (value room) rest) (scalar_behind kind rest)) f

pub no_room : (room : ℕ) (xs kind rest : List ℕ) → taken 2 xs ≡ Some (kind, rest) → is_text kind (codes "a:") ≡ true → room ≡ 0 → value room xs ≡ None
unfolding value
no_room zero xs kind rest h f e = with_kind (λ _. None) xs kind rest h ∙ ap (λ b. cond b None (scalar_behind kind rest)) f
no_room (suc room) xs kind rest h f e = absurd (omega arith)

pub array : (room inner : ℕ) (xs kind rest : List ℕ) → taken 2 xs ≡ Some (kind, rest) → is_text kind (codes "a:") ≡ true → inner + 1 ≡ room
    → value room xs ≡ and_then (braced (value inner) Lawful rest) (λ a. Some (tree_of_array a.0, a.1))
unfolding value array_behind
array zero inner xs kind rest h f e = absurd (omega arith)
array (suc room) inner xs kind rest h f e =
    let same : room ≡ inner = omega arith in
    with_kind (array_behind (value room)) xs kind rest h ∙ ap (λ b. cond b (array_behind (value room) rest) (scalar_behind kind rest)) f ∙ ap (λ n. and_then (braced (value n) Lawful rest) (λ a. Some (tree_of_array a.0, a.1))) same

pub array_got : (room inner : ℕ) (xs kind rest new : List ℕ) (a : Array) → taken 2 xs ≡ Some (kind, rest) → is_text kind (codes "a:") ≡ true → inner + 1 ≡ room → braced (value inner) Lawful rest ≡ Some (a, new)
    → value room xs ≡ Some (tree_of_array a, new)
array_got room inner xs kind rest new a h f e b = array room inner xs kind rest h f e ∙ ap (λ o. and_then o (λ a. Some (tree_of_array a.0, a.1))) b

pub array_fails : (room inner : ℕ) (xs kind rest new after : List ℕ) (stop : Stop) → taken 2 xs ≡ Some (kind, rest) → is_text kind (codes "a:") ≡ true → inner + 1 ≡ room → Reads (braced (value inner) Lawful rest) (Err stop) new
    → ReadsValue (value room xs) (Err stop) after
array_fails room inner xs kind rest new after Form h f e b = array room inner xs kind rest h f e ∙ ap (λ o. and_then o (λ a. Some (tree_of_array a.0, a.1))) b
array_fails room inner xs kind rest new after Memory h f e b = tt
