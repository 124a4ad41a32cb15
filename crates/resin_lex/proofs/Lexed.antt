-- What is read is lexed, and the other way round.
use Rattle.std.proofs.Common.{◌≡◌, ◌≢◌, ℕ, ◌+◌, List, [], ◌∷◌, ◌++◌, take, drop, length, Option, Some, None, refl, sym, ◌∙◌, ap, subst}
use Rattle.std.proofs.lemmas.List.{take-append-drop}
use Rattle.resin_scan.proofs.Runs.{drop_front}
use Rattle.resin_lex.specs.First.{first}
use Rattle.resin_lex.specs.Grammar.{InCode, Around, InQuotes, InIndex, InProperty, Stands}
use Rattle.resin_lex.specs.Grammar as g
use Rattle.resin_lex.specs.Kinds.{kind_of}
use Rattle.resin_lex.specs.Modes.{after, top}
use Rattle.resin_lex.specs.Reads.{Reads, token_of}
use Rattle.resin_lex.specs.Reads as r
use Rattle.resin_lex.specs.Lexes.{Lexes, NothingStands, HasTokens, HasFront, IsRow, before}
use Rattle.resin_lex.specs.Lexes as l
use Rattle.resin_lex.specs.declared.modes.Open.{Open}
use Rattle.resin_lex.specs.declared.modes.Open.TheVariants.{Outside, Brace, Quote, Index, Property}
use Rattle.resin_lex.specs.declared.modes.Act.{Act}
use Rattle.resin_lex.specs.declared.modes.Step.{Step}
use Rattle.resin_lex.specs.declared.modes.Step.TheVariants.{Token, Skip, Fault}
use Rattle.resin_lex.specs.declared.token.TokenKind.{TokenKind}
use Rattle.resin_lex.specs.declared.token.Token as t
use Rattle.resin_lex.proofs.Told.{Tale, told, TakesToken, takes_token, takes_none}
use Rattle.resin_lex.proofs.Found.{complete}
use Rattle.resin_lex.proofs.MarksSound.{Sound}
use Rattle.resin_lex.proofs.Stood.{sound}
use Rattle.resin_scan.specs.Words.{IsName}
use Rattle.resin_scan.specs.Numbers.{IsInteger}
use Rattle.resin_scan.specs.Numbers as num
use Rattle.resin_lex.specs.Marks.{spelling}
use Rattle.resin_lex.specs.declared.token.Mark.{Mark}
use Rattle.resin_lex.specs.declared.token.Mark.TheVariants as m

-- what a step says of the text
stands_at : (o : Option Open) (at : ℕ) (xs : List ℕ) (st : Step) → xs ≢ [] → first o at xs ≡ st → Sound (Stands o at) xs st
stands_at o at [] st h e = absurd (h refl)
stands_at o at (b ∷ bs) st h e = subst (Sound (Stands o at) (b ∷ bs)) e (sound o at b bs)

-- what is told of a text that is taken apart
whole : (o : Option Open) (at n : ℕ) (what : Option TokenKind) (act : Act) (xs : List ℕ) → Stands o at what act (take n xs) (drop n xs) → told xs (first o at xs) ≡ Some (what, length (take n xs), act)
whole o at n what act xs h = subst (λ v. told v (first o at v) ≡ Some (what, length (take n xs), act)) (take-append-drop n xs) (complete o at what act (take n xs) (drop n xs) h)

same_len : (a b : Option TokenKind × ℕ × Act) → ◌≡◌ {A = Tale} (Some a) (Some b) → a.1 ≡ b.1
same_len a b e = let f : a ≡ b = cc in ap (λ (v : Option TokenKind × ℕ × Act). v.1) f

nothing_told : (a : Option TokenKind × ℕ × Act) → ◌≡◌ {A = Tale} None (Some a) → ⊥
nothing_told a e = cc

pub lexes : (os : List Open) (at : ℕ) (xs : List ℕ) (ts : List t.Token) (fault : Option ℕ) → Reads os at xs ts fault → Lexes os at xs ts fault
lexes os at xs ts fault r.ends = l.ends
lexes os at xs ts fault (r.token {n = n} {shape = shape} {act = act} {tokens = us} h e q) =
    let w = take n xs in
    let st = stands_at (top os) at xs (Token shape n act) h e in
    let len : length w ≡ n = same_len (Some (kind_of shape w), length w, act) (Some (kind_of shape w), n, act) (sym (whole (top os) at n (Some (kind_of shape w)) act xs st) ∙ ap (told xs) e) in
    subst (λ m. Lexes os at xs (record { kind = kind_of shape w; from = at; to = at + m } ∷ us) fault) len
    (l.token (kind_of shape w) act w (drop n xs) (sym (take-append-drop n xs)) st (subst (λ m. Lexes (after act os) (at + m) (drop n xs) us fault) (sym len) (lexes (after act os) (at + n) (drop n xs) us fault q)))
lexes os at xs ts fault (r.skip {n = n} {act = act} h e q) =
    let w = take n xs in
    let st = stands_at (top os) at xs (Skip n act) h e in
    let len : length w ≡ n = same_len (None, length w, act) (None, n, act) (sym (whole (top os) at n None act xs st) ∙ ap (told xs) e) in
    l.blank act w (drop n xs) (sym (take-append-drop n xs)) st (subst (λ m. Lexes (after act os) (at + m) (drop n xs) ts fault) (sym len) (lexes (after act os) (at + n) (drop n xs) ts fault q))
lexes os at xs ts fault (r.fails h e) = l.fails h (λ what act w rest p st. nothing_told (what, length w, act) (ap (told (w ++ rest)) (sym e ∙ ap (first (top os) at) p) ∙ complete (top os) at what act w rest st))

-- where nothing stands, the function finds nothing
silent : (o : Option Open) (at b : ℕ) (bs : List ℕ) → NothingStands o at (b ∷ bs) → (st : Step) → Sound (Stands o at) (b ∷ bs) st → st ≡ Fault
silent o at b bs h Fault p = refl
silent o at b bs h (Skip n act) p = absurd (h None act (take n (b ∷ bs)) (drop n (b ∷ bs)) (sym (take-append-drop n (b ∷ bs))) p)
silent o at b bs h (Token shape n act) p = absurd (h (Some (kind_of shape (take n (b ∷ bs)))) act (take n (b ∷ bs)) (drop n (b ∷ bs)) (sym (take-append-drop n (b ∷ bs))) p)

nothing_found : (o : Option Open) (at : ℕ) (xs : List ℕ) → xs ≢ [] → NothingStands o at xs → first o at xs ≡ Fault
nothing_found o at [] k h = absurd (k refl)
nothing_found o at (b ∷ bs) k h = silent o at b bs h (first o at (b ∷ bs)) (sound o at b bs)

-- what stands is not empty
integer_some : (w rest : List ℕ) (n : ℕ) → IsInteger w rest n → w ≢ []
integer_some w rest n (num.decimal h i p) = λ q. cc
integer_some w rest n (num.octal i p) = λ q. cc
integer_some w rest n (num.hexadecimal i) = λ q. cc
integer_some w rest n (num.binary i) = λ q. cc

mark_some : (mark : Mark) → spelling mark ≢ []
mark_some m.Semicolon = λ q. cc
mark_some m.Comma = λ q. cc
mark_some m.LeftRound = λ q. cc
mark_some m.RightRound = λ q. cc
mark_some m.LeftSquare = λ q. cc
mark_some m.RightSquare = λ q. cc
mark_some m.LeftBrace = λ q. cc
mark_some m.RightBrace = λ q. cc
mark_some m.Colon = λ q. cc
mark_some m.DoubleColon = λ q. cc
mark_some m.Question = λ q. cc
mark_some m.Coalesce = λ q. cc
mark_some m.CoalesceAssign = λ q. cc
mark_some m.Arrow = λ q. cc
mark_some m.FatArrow = λ q. cc
mark_some m.Assign = λ q. cc
mark_some m.Equal = λ q. cc
mark_some m.Identical = λ q. cc
mark_some m.Not = λ q. cc
mark_some m.NotEqual = λ q. cc
mark_some m.NotIdentical = λ q. cc
mark_some m.Less = λ q. cc
mark_some m.LessOrEqual = λ q. cc
mark_some m.Compare = λ q. cc
mark_some m.LessGreater = λ q. cc
mark_some m.Greater = λ q. cc
mark_some m.GreaterOrEqual = λ q. cc
mark_some m.Plus = λ q. cc
mark_some m.Increment = λ q. cc
mark_some m.PlusAssign = λ q. cc
mark_some m.Minus = λ q. cc
mark_some m.Decrement = λ q. cc
mark_some m.MinusAssign = λ q. cc
mark_some m.Star = λ q. cc
mark_some m.StarAssign = λ q. cc
mark_some m.Slash = λ q. cc
mark_some m.SlashAssign = λ q. cc
mark_some m.Percent = λ q. cc
mark_some m.PercentAssign = λ q. cc
mark_some m.Dot = λ q. cc
mark_some m.DotAssign = λ q. cc
mark_some m.And = λ q. cc
mark_some m.Or = λ q. cc
mark_some m.Bar = λ q. cc

code_some : (at : ℕ) (what : Option TokenKind) (act : Act) (w rest : List ℕ) → InCode at what act w rest → w ≢ []
code_some at what act w rest (g.blanks h e j) = λ q. cc
code_some at what act w rest (g.line_comment h j) = λ q. cc
code_some at what act w rest (g.slash_comment h) = λ q. cc
code_some at what act w rest (g.block_comment h) = λ q. cc
code_some at what act w rest (g.closing_tag h) = λ q. cc
code_some at what act w rest (g.word h j) = λ q. subst IsName q h
code_some at what act w rest (g.variable h j) = λ q. cc
code_some at what act w rest (g.integer i l h) = integer_some w rest _ i
code_some at what act w rest (g.mark mark h) = mark_some mark
code_some at what act w rest (g.cast before word behind e f h i) = λ q. cc
code_some at what act w rest (g.single r t) = λ q. cc
code_some at what act w rest (g.double r t) = λ q. cc
code_some at what act w rest (g.opening r h) = λ q. cc

around_some : (what : Option TokenKind) (act : Act) (w rest : List ℕ) → Around what act w rest → w ≢ []
around_some what act w rest (g.inline r) = λ q. cc
around_some what act w rest g.echo_tag = λ q. cc
around_some what act w rest (g.php_tag a b c d) = λ q. cc

quotes_some : (place : ℕ) (what : Option TokenKind) (act : Act) (w rest : List ℕ) → InQuotes place what act w rest → w ≢ []
quotes_some place what act w rest g.closing = λ q. cc
quotes_some place what act w rest (g.value h j i a) = λ q. cc
quotes_some place what act w rest (g.indexed h) = λ q. cc
quotes_some place what act w rest (g.owner h a) = λ q. cc
quotes_some place what act w rest g.braced = λ q. cc
quotes_some place what act w rest (g.stretch q t) = λ p. cc

index_some : (what : Option TokenKind) (act : Act) (w rest : List ℕ) → InIndex what act w rest → w ≢ []
index_some what act w rest (g.index h) = λ q. cc
index_some what act w rest (g.index_variable h) = λ q. cc

property_some : (what : Option TokenKind) (act : Act) (w rest : List ℕ) → InProperty what act w rest → w ≢ []
property_some what act w rest (g.property h j) = λ q. cc

pub some : (o : Option Open) (at : ℕ) (what : Option TokenKind) (act : Act) (w rest : List ℕ) → Stands o at what act w rest → w ≢ []
some None at what act w rest h = code_some at what act w rest h
some (Some Brace) at what act w rest h = code_some at what act w rest h
some (Some Outside) at what act w rest h = around_some what act w rest h
some (Some (Quote place)) at what act w rest h = quotes_some place what act w rest h
some (Some (Index place)) at what act w rest h = index_some what act w rest h
some (Some (Property place)) at what act w rest h = property_some what act w rest h

with_rest : (w rest : List ℕ) → w ≢ [] → (w ++ rest) ≢ []
with_rest [] rest h = absurd (h refl)
with_rest (b ∷ w) rest h = λ q. cc

as_read : (os : List Open) (at n : ℕ) (kind : TokenKind) (act : Act) (xs : List ℕ) (us : List t.Token) (fault : Option ℕ) → xs ≢ [] → TakesToken xs (first (top os) at xs) kind n act → Reads (after act os) (at + n) (drop n xs) us fault → Reads os at xs (record { kind = kind; from = at; to = at + n } ∷ us) fault
as_read os at n kind act xs us fault h p q = subst (λ k. Reads os at xs (record { kind = k; from = at; to = at + n } ∷ us) fault) p.spelled (r.token h p.step q)

pub reads : (os : List Open) (at : ℕ) (xs : List ℕ) (ts : List t.Token) (fault : Option ℕ) → Lexes os at xs ts fault → Reads os at xs ts fault
reads os at xs ts fault l.ends = r.ends
reads os at xs ts fault (l.token {tokens = us} kind act w rest e st q) =
    subst (λ ys. Reads os at ys (record { kind = kind; from = at; to = at + length w } ∷ us) fault) (sym e)
    (as_read os at (length w) kind act (w ++ rest) us fault (with_rest w rest (some (top os) at (Some kind) act w rest st)) (takes_token (w ++ rest) (first (top os) at (w ++ rest)) kind (length w) act (complete (top os) at (Some kind) act w rest st))
    (subst (λ ys. Reads (after act os) (at + length w) ys us fault) (sym (drop_front w rest)) (reads (after act os) (at + length w) rest us fault q)))
reads os at xs ts fault (l.blank act w rest e st q) =
    subst (λ ys. Reads os at ys ts fault) (sym e)
    (r.skip (with_rest w rest (some (top os) at None act w rest st)) (takes_none (w ++ rest) (first (top os) at (w ++ rest)) (length w) act (complete (top os) at None act w rest st)) (subst (λ ys. Reads (after act os) (at + length w) ys ts fault) (sym (drop_front w rest)) (reads (after act os) (at + length w) rest ts fault q)))
reads os at xs ts fault (l.fails k h) = r.fails k (nothing_found (top os) at xs k h)

-- The whole text without a fault, and with one
pub front_whole : (src : List ℕ) (ts : List t.Token) (fault : Option ℕ) → HasFront src ts fault → fault ≡ None → HasTokens src ts None
front_whole src ts None h e = subst (λ us. HasTokens src us None) (sym h.1.1) h.1.0
front_whole src ts (Some place) h e = absurd (cc)

pub front_fault : (src : List ℕ) (ts : List t.Token) (fault : Option ℕ) (place : ℕ) → HasFront src ts fault → fault ≡ Some place → (all : List t.Token) × HasTokens src all (Some place)
front_fault src ts fault place h e = (h.0, subst (λ f. HasTokens src h.0 f) e h.1.0)
