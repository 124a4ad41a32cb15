-- Scalars, their conversions and their comparisons (PHP 8 in this project's profile, which has no floats).
use Rattle.std.specs.Prelude.{ℕ, ℤ, pos, Bool, true, false, not, ◌&&◌, nat_eq, if◌then◌else◌, List, [], codes, Result, Ok, Err}
use Rattle.std.specs.Ordering.{nat_cmp, int_cmp, int_eq, bool_cmp, ordering_reverse}
use Rattle.std.specs.Cmp.Lexicographic.{slice_cmp, pointwise}
use Rattle.std.specs.Fmt.{signed_decimal}
use Rattle.std.specs.declared.cmp.Ordering.{Ordering}
use Rattle.std.specs.declared.cmp.Ordering.TheVariants.{Equal}
use Rattle.resin_bytes.specs.declared.number.NumberForm.{NumberForm}
use Rattle.resin_bytes.specs.declared.number.NumberForm.TheVariants.{Int as IntForm, Float as FloatForm, Not as NoForm}
use Rattle.resin_bytes.specs.Numbers.{numeric_form, leading_form}
use Rattle.resin_scalar.specs.declared.scalar.NumFault.{NumFault}
use Rattle.resin_scalar.specs.declared.scalar.NumFault.TheVariants.{Float, Not}
use Rattle.resin_scalar.specs.declared.scalar.Scalar.{Scalar}
use Rattle.resin_scalar.specs.declared.scalar.Scalar.TheVariants.{Null as SNull, Bool as SBool, Int as SInt, Text as SText}

-- a scalar, with the bytes of its text
pub data Plain : Type 0 where
  null : Plain
  boolean : Bool → Plain
  integer : ℤ → Plain
  text : List ℕ → Plain

abbrev pub plain_of : Scalar → Plain
plain_of SNull = null
plain_of (SBool b) = boolean b
plain_of (SInt n) = integer n
plain_of (SText b) = text b.now

-- two texts have the same bytes
abbrev pub same_bytes : List ℕ → List ℕ → Bool
same_bytes = pointwise nat_eq

-- as a boolean: neither null nor false nor 0 nor the empty text nor the text `0` (PHP manual, "Converting to boolean")
abbrev pub truth_of : Plain → Bool
truth_of null = false
truth_of (boolean b) = b
truth_of (integer n) = not (int_eq n (pos 0))
truth_of (text b) = not (same_bytes b []) && not (same_bytes b (codes "0"))

-- true counts as 1, false as 0
abbrev pub one_of : Bool → ℤ
one_of true = pos 1
one_of false = pos 0

-- the number of a whole text, which must be an integer form
abbrev pub number_in : NumberForm → Result ℤ NumFault
number_in (IntForm n) = Ok n
number_in FloatForm = Err Float
number_in NoForm = Err Not

-- as a number in arithmetic (PHP manual, "Numeric strings")
abbrev pub number_of : Plain → Result ℤ NumFault
number_of null = Ok (pos 0)
number_of (boolean b) = Ok (one_of b)
number_of (integer n) = Ok n
number_of (text b) = number_in (numeric_form b)

-- the number at the front of a text, 0 where there is none
abbrev pub front_number_in : NumberForm → Result ℤ NumFault
front_number_in (IntForm n) = Ok n
front_number_in FloatForm = Err Float
front_number_in NoForm = Ok (pos 0)

-- by the cast `(int)` (PHP manual, "Converting to integer")
abbrev pub int_of : Plain → Result ℤ NumFault
int_of null = Ok (pos 0)
int_of (boolean b) = Ok (one_of b)
int_of (integer n) = Ok n
int_of (text b) = front_number_in (leading_form b)

-- two texts by their bytes
abbrev pub byte_order : List ℕ → List ℕ → Ordering
byte_order = slice_cmp nat_cmp

-- an integer against a text of this form: as numbers where the text is numeric, else the integer's decimal text against it by bytes
abbrev pub order_integer_by : NumberForm → ℤ → List ℕ → Result Ordering NumFault
order_integer_by (IntForm n) m y = Ok (int_cmp m n)
order_integer_by FloatForm m y = Err Float
order_integer_by NoForm m y = Ok (byte_order (signed_decimal m) y)

abbrev pub order_integer : ℤ → List ℕ → Result Ordering NumFault
order_integer m y = order_integer_by (numeric_form y) m y

-- two texts of these forms: as numbers where both are numeric, else by bytes
abbrev pub order_texts_by : NumberForm → NumberForm → List ℕ → List ℕ → Result Ordering NumFault
order_texts_by NoForm g x y = Ok (byte_order x y)
order_texts_by f NoForm x y = Ok (byte_order x y)
order_texts_by (IntForm m) (IntForm n) x y = Ok (int_cmp m n)
order_texts_by f g x y = Err Float

-- two texts with the same bytes are equal, whatever their form
abbrev pub order_texts : List ℕ → List ℕ → Result Ordering NumFault
order_texts x y = if same_bytes x y then Ok Equal else order_texts_by (numeric_form x) (numeric_form y) x y

-- an order seen from the other side
abbrev pub turned : Result Ordering NumFault → Result Ordering NumFault
turned (Ok o) = Ok (ordering_reverse o)
turned (Err e) = Err e

-- the order of two scalars under `==`, `<` and `<=>` (PHP manual, "Comparison with various types"): null against a text as the empty text by
-- bytes, two numbers as numbers, texts by the rules above, and with null or a boolean on either side as booleans, false before true
abbrev pub order_of : Plain → Plain → Result Ordering NumFault
order_of null (text y) = Ok (byte_order [] y)
order_of (text x) null = Ok (byte_order x [])
order_of (integer m) (integer n) = Ok (int_cmp m n)
order_of (integer m) (text y) = order_integer m y
order_of (text x) (integer n) = turned (order_integer n x)
order_of (text x) (text y) = order_texts x y
order_of a b = Ok (bool_cmp (truth_of a) (truth_of b))
