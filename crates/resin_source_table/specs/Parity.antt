-- A small grammar, as an example: sums of ones, with brackets and `!`, and whether they are odd.
use Rattle.std.specs.Prelude.{ℕ, suc, ◌<◌, Bool, true, false, not, List, Result, Ok, Err}
use denote.Ref.{MutBor}
use Rattle.resin_form.specs.Form.{Begin, Own, Named, Form, give, andthen, next, many, After, plain, followed, taken, opens, enters, call}
use Rattle.resin_form.specs.Reading.{Reader, read, read_after}
use Rattle.resin_form.specs.Meaning.{allows_at, always, reading, IsRead, IsRefused, IsTooDeep}
use Rattle.resin_form.specs.Reads.{Reads}
use Rattle.resin_form.specs.declared.fault.Fault.{Fault}
use Rattle.resin_form.specs.declared.fault.Fault.TheVariants.{Syntax, TooDeep, Memory}
use Rattle.resin_source_table.specs.declared.parity.Sign.{Sign}
use Rattle.resin_source_table.specs.declared.parity.Sign.TheVariants.{One, Plus, Not, Open, Close}
use Rattle.resin_source_table.specs.declared.parity.Construct.{Construct}
use Rattle.resin_source_table.specs.declared.parity.Construct.TheVariants.{Bracketed, Negated}

-- Each construct is a name of the grammar and gives whether it is odd.
abbrev pub Value : Construct → Type 0
Value n = Bool

abbrev pub Rule : Type 1
Rule = Form Sign Construct Value Bool

abbrev pub Behind : Type 1
Behind = After Sign Construct Value Named Bool

abbrev pub begins_term : Sign → Bool
begins_term One = true
begins_term Not = true
begins_term Open = true
begins_term _ = false

abbrev pub is_plus : Sign → Bool
is_plus Plus = true
is_plus _ = false

abbrev pub is_close : Sign → Bool
is_close Close = true
is_close _ = false

-- whether a sum is odd, by whether its parts are
abbrev pub differs : Bool → Bool → Bool
differs true b = not b
differs false b = b

-- an opening bracket opens a construct
unfoldable pub opened : Behind
opened = opens 0 (call Bracketed)

-- a `!` opens nothing: the term behind it is a construct, which its own first sign enters
unfoldable pub negated : Behind
negated = followed (call Negated) (λ odd. give (not odd))

-- a one, a sum in brackets, or a term behind `!`, by its first sign
abbrev pub term : Sign → Behind
term Open = opened
term Not = negated
term _ = plain (give true)

abbrev pub next_term : Rule
next_term = next begins_term term

-- the term behind a `!`
unfoldable pub entered : Rule
entered = next begins_term (λ t. enters (term t))

-- a term behind a plus
unfoldable pub added : Bool → Rule
added odd = andthen next_term (λ other. give (differs odd other))

-- `+ term` again and again
unfoldable pub more : Bool → Rule
more odd = many (λ _ t. is_plus t) (λ odd _. taken (added odd)) odd

unfoldable pub sum : Rule
sum = andthen next_term more

unfoldable pub bracketed : Rule
bracketed = andthen sum (λ odd. next is_close (λ _. taken (give odd)))

abbrev pub rules : (n : Construct) → After Sign Construct Value Own (Value n)
rules Bracketed = plain bracketed
rules Negated = plain entered

-- what the signs begin with, by a form, where so many constructs may still open in one another
abbrev pub under : {A : Type 0} → ℕ → Form Sign Construct Value A → Reader Sign A
under depth F = read (allows_at always (suc depth)) (reading rules always (suc depth)) F

abbrev pub behind : {b : Begin} {A : Type 0} → ℕ → After Sign Construct Value b A → Reader Sign A
behind depth F = read_after (allows_at always (suc depth)) (reading rules always (suc depth)) F

-- what the sum at the front of the signs is, where so many constructs may be open in one another, unless memory runs out
abbrev pub Gives : ℕ → List Sign → Result Bool Fault → List Sign → Type 0
Gives depth ts (Ok odd) rest = IsRead rules sum always (suc depth) ts odd rest
Gives depth ts (Err Syntax) rest = IsRefused rules sum always (suc depth) ts rest
Gives depth ts (Err TooDeep) rest = IsTooDeep rules sum always (suc depth) ts rest
Gives depth ts (Err Memory) rest = Unit {0}

abbrev pub body : Construct → Rule
body Bracketed = bracketed
body Negated = entered

-- a function value that reads the inside of a construct, where fewer constructs than the bound may still open in it
pub record Nests (bound : ℕ) (pre : MutBor (List Sign) → Construct → ℕ → Type 0)
    (post : MutBor (List Sign) → Construct → ℕ → Result Bool Fault → MutBor (List Sign) → Type 0) : Type 0 where
  pub callable : (old : MutBor (List Sign)) (n : Construct) (depth : ℕ) → depth < bound → pre old n depth
  pub reads : (old new : MutBor (List Sign)) (n : Construct) (depth : ℕ) (r : Result Bool Fault) → depth < bound → post old n depth r new
      → Reads (under depth (body n) old.now) r new.now
