-- The fields of a line are read back.
use Rattle.std.proofs.Common.{◌≡◌, ℕ, ◌+◌, ◌^◌, ◌<◌, Bool, true, false, cond, List, [], ◌∷◌, ◌++◌, length, take, drop, Some, None, refl, sym, ap, ◌∙◌, arith, append_assoc, add-one, suc}
use Rattle.std.specs.Prelude.{◌||◌, not, nat_eq, nat_lt, decimal}
use Rattle.std.specs.Str.{all_ascii_digits}
use Rattle.std.specs.List.{All, join_with_byte, position_or_len, list_all}
use Rattle.std.proofs.lemmas.Bool.Decides.{nat_tests}
use Rattle.std.proofs.lemmas.List.Elements.{All-nil, All-cons}
use Rattle.std.proofs.lemmas.List.Splits.{slice_split_at, slice_split_none}
use Rattle.std.proofs.lemmas.List.Folds.{list_all-append}
use Rattle.std.proofs.lemmas.Str.Parse.{tells_all_ascii_digits, numerals_by_value}
use Rattle.std.proofs.lemmas.Fmt.{digits_decimal}
use Rattle.resin_scan.specs.Bytes.{is_name_byte, is_digit}
use Rattle.resin_scan.specs.Lists.{Every}
use Rattle.resin_scan.specs.Words.{IsName}
use Rattle.resin_scan.proofs.Runs.{run_exact, take_front}
use Rattle.resin_journal.specs.declared.channel.Channel.{Channel}
use Rattle.resin_journal.specs.declared.channel.Channel.TheVariants.{Http, Header, Email, File, Sql, Code, Input, Func}
use Rattle.resin_journal.specs.Channels.{channel_name}
use Rattle.resin_journal_file.specs.Files.{line}
use Rattle.resin_journal_file.specs.Reading.{cut, fields_of, name, channel}
use Rattle.resin_journal_file.proofs.Decimals.{both, and_left, and_right}

-- the byte doesn't stand in the text
abbrev pub lacks : ℕ → List ℕ → Bool
lacks c xs = list_all (λ b. not (nat_eq b c)) xs

true_false : true ≡ false → ⊥
true_false e = cc

not_true : (b : Bool) → not b ≡ true → b ≡ false
not_true true h = absurd (true_false (sym h))
not_true false h = refl

pub every_from : (p : ℕ → Bool) (xs : List ℕ) → list_all p xs ≡ true → Every p xs
every_from p [] h = tt
every_from p (x ∷ xs) h = (and_left _ _ h, every_from p xs (and_right _ _ h))

every_to : (p : ℕ → Bool) (xs : List ℕ) → Every p xs → list_all p xs ≡ true
every_to p [] h = refl
every_to p (x ∷ xs) h = both _ _ h.0 (every_to p xs h.1)

all_lacks : (c : ℕ) (xs : List ℕ) → lacks c xs ≡ true → All (λ b. nat_eq b c ≡ false) xs
all_lacks c [] h = All-nil (λ b. nat_eq b c ≡ false)
all_lacks c (x ∷ xs) h = All-cons (λ b. nat_eq b c ≡ false) x xs (not_true _ (and_left _ _ h)) (all_lacks c xs (and_right _ _ h))

-- ---- lines
pub fields-line : (f : List ℕ) (fs : List (List ℕ)) → lacks 32 f ≡ true → list_all (lacks 32) fs ≡ true → fields_of (join_with_byte 32 (f ∷ fs)) ≡ f ∷ fs
fields-line f [] h hs = slice_split_none (λ b. nat_eq b 32) f (all_lacks 32 f h)
fields-line f (g ∷ fs) h hs =
    slice_split_at (λ b. nat_eq b 32) f 32 (join_with_byte 32 (g ∷ fs)) (all_lacks 32 f h) refl
    ∙ ap (λ gs. f ∷ gs) (fields-line g fs (and_left _ _ hs) (and_right _ _ hs))

pub lacks-fields : (f : List ℕ) (fs : List (List ℕ)) → lacks 10 f ≡ true → list_all (lacks 10) fs ≡ true → lacks 10 (join_with_byte 32 (f ∷ fs)) ≡ true
lacks-fields f [] h hs = h
lacks-fields f (g ∷ fs) h hs =
    list_all-append (λ b. not (nat_eq b 10)) f (32 ∷ join_with_byte 32 (g ∷ fs))
    ∙ both _ _ h (lacks-fields g fs (and_left _ _ hs) (and_right _ _ hs))

past : (c : ℕ) (xs ys : List ℕ) → drop (length xs + 1) (xs ++ c ∷ ys) ≡ ys
past c xs ys = rw add-one (behind xs)
  where
    behind : (zs : List ℕ) → drop (suc (length zs)) (zs ++ c ∷ ys) ≡ ys
    behind [] = refl
    behind (z ∷ zs) = behind zs

same_number : (c : ℕ) → nat_eq c c ≡ true
same_number c = grind (arith, nat_tests)

pub lt_true : (a b : ℕ) → a < b → nat_lt a b ≡ true
lt_true a b h = grind (arith, nat_tests)

pub longer : (xs : List ℕ) (c : ℕ) (ys : List ℕ) → length xs < length (xs ++ c ∷ ys)
longer [] c ys = omega arith
longer (x ∷ xs) c ys = let i = longer xs c ys in omega (arith, i)

-- what stands before a byte that it lacks is taken off the front
pub cut-front : (c : ℕ) (xs ys : List ℕ) → lacks c xs ≡ true → cut c (xs ++ c ∷ ys) ≡ Some (xs, ys)
cut-front c xs ys h =
    let place : position_or_len (λ b. nat_eq b c) (xs ++ c ∷ ys) ≡ length xs =
    run_exact (λ b. not (nat_eq b c)) xs (c ∷ ys) (every_from _ xs h) (ap not (same_number c)) in
    ap (λ n. cond (nat_lt n (length (xs ++ c ∷ ys))) (Some (take n (xs ++ c ∷ ys), drop (n + 1) (xs ++ c ∷ ys))) None) place
    ∙ ap (λ b. cond b (Some (take (length xs) (xs ++ c ∷ ys), drop (length xs + 1) (xs ++ c ∷ ys))) None) (lt_true _ _ (longer xs c ys))
    ∙ ap (λ ts. Some (ts, drop (length xs + 1) (xs ++ c ∷ ys))) (take_front xs (c ∷ ys))
    ∙ ap (λ rest. Some (xs, rest)) (past c xs ys)

-- a line whose fields hold neither blank nor newline says what its fields say
pub cut-line : (f : List ℕ) (fs : List (List ℕ)) (rest : List ℕ) → list_all (lacks 10) (f ∷ fs) ≡ true → cut 10 (line (f ∷ fs) ++ rest) ≡ Some (join_with_byte 32 (f ∷ fs), rest)
cut-line f fs rest h =
    ap (cut 10) (append_assoc (join_with_byte 32 (f ∷ fs)) (10 ∷ []) rest)
    ∙ cut-front 10 (join_with_byte 32 (f ∷ fs)) rest (lacks-fields f fs (and_left _ _ h) (and_right _ _ h))

-- ---- what the fields are
lacks_kind : (p : ℕ → Bool) (c : ℕ) → p c ≡ false → (xs : List ℕ) → list_all p xs ≡ true → lacks c xs ≡ true
lacks_kind p c none [] h = refl
lacks_kind p c none (x ∷ xs) h = both _ _ (other (nat_eq x c) refl) (lacks_kind p c none xs (and_right _ _ h))
  where
    other : (b : Bool) → nat_eq x c ≡ b → not (nat_eq x c) ≡ true
    other true e = let q : x ≡ c = grind (arith, nat_tests) in absurd (true_false (sym (and_left _ _ h) ∙ (ap p q ∙ none)))
    other false e = ap not e

digits : (ds : List ℕ) → all_ascii_digits ds ≡ true → (c : ℕ) → c < 48 → lacks c ds ≡ true
digits [] h c lt = refl
digits (d ∷ ds) h c lt =
    let k = (tells_all_ascii_digits).parts d ds h in
    let e : nat_eq d c ≡ false = let l = k.0 in grind (arith, nat_tests) in
    both _ _ (ap not e) (digits ds k.1 c lt)

pub lacks-decimal : (c n : ℕ) → c < 48 → n < 2 ^ 64 → lacks c (decimal n) ≡ true
lacks-decimal c n low h = digits (decimal n) (digits_decimal (numerals_by_value _ tells_all_ascii_digits) n h) c low

pub name_bytes : (s : List ℕ) → IsName s → list_all is_name_byte s ≡ true
name_bytes [] h = absurd h
name_bytes (b ∷ bs) h = both _ _ (ap (λ x. x || is_digit b) h.0) (every_to is_name_byte bs h.1)

pub lacks-name : (c : ℕ) (s : List ℕ) → is_name_byte c ≡ false → IsName s → lacks c s ≡ true
lacks-name c s none h = lacks_kind is_name_byte c none s (name_bytes s h)

pub name-name : (s : List ℕ) → IsName s → name s ≡ Some s
name-name [] h = absurd h
name-name (b ∷ bs) h = ap (λ x. cond x (Some (b ∷ bs)) None) (both _ _ h.0 (every_to is_name_byte bs h.1))

pub channel-name : (c : Channel) → channel (channel_name c) ≡ Some c
channel-name Http = refl
channel-name Header = refl
channel-name Email = refl
channel-name File = refl
channel-name Sql = refl
channel-name Code = refl
channel-name Input = refl
channel-name Func = refl

pub lacks-channel : (c : Channel) → (lacks 32 (channel_name c) ≡ true) × (lacks 10 (channel_name c) ≡ true)
lacks-channel Http = (refl, refl)
lacks-channel Header = (refl, refl)
lacks-channel Email = (refl, refl)
lacks-channel File = (refl, refl)
lacks-channel Sql = (refl, refl)
lacks-channel Code = (refl, refl)
lacks-channel Input = (refl, refl)
lacks-channel Func = (refl, refl)
