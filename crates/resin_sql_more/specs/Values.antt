-- What an item of a total makes of its cells, which are read and aren't NULL: a value without labels. The one set that it carries is merged
-- of the distinct sets of those cells' bytes and integers, in the order in which they first occur; COUNT(*) carries nothing.
use Rattle.std.specs.Prelude.{ℕ, ℤ, pos, negsuc, ◌+ℤ◌, ◌^◌, nat_lt, Bool}
use Rattle.std.specs.Prelude.{List, [], ◌∷◌, ◌++◌, length, flat_map, Option, Some, None, Result, Ok, Err, if◌then◌else◌}
use Rattle.resin_base.specs.declared.cell.Cell.{Cell}
use Rattle.resin_base.specs.declared.cell.Cell.TheVariants as cell
use Rattle.std.specs.Fmt.{signed_decimal}
use Rattle.resin_sql.specs.declared.tree.Comparison.{Comparison}
use Rattle.resin_sql.specs.declared.tree.Comparison.TheVariants.{Less, Greater}
use Rattle.resin_joint.specs.declared.tree.TotalItem.{TotalItem}
use Rattle.resin_joint.specs.declared.tree.TotalItem.TheVariants as i
use Rattle.resin_rows.specs.Cells.{meets}
use Rattle.resin_sql_more.specs.declared.values.TotalFault.{TotalFault}
use Rattle.resin_sql_more.specs.declared.values.TotalFault.TheVariants.{IntegerOverflow, TextTooLong}

-- from -2^63 to 2^63 - 1
abbrev pub fits : ℤ → Bool
fits (pos n) = nat_lt n (2 ^ 63)
fits (negsuc n) = nat_lt n (2 ^ 63)

-- the sum of integers in their order; none where a partial sum leaves 64 bits
abbrev pub sum_from : ℤ → List Cell → Option ℤ
sum_from n [] = Some n
sum_from n (cell.Int x ∷ cells) = if fits (n +ℤ x) then sum_from (n +ℤ x) cells else None
sum_from n (c ∷ cells) = sum_from n cells

-- the first of the cells that are least, or greatest: a later one stands for it only where it is less, or greater. Integers are compared as
-- numbers, texts by their bytes.
abbrev pub first_best : Comparison → Cell → List Cell → Cell
first_best better c [] = c
first_best better c (d ∷ cells) = first_best better (if meets better d c then d else c) cells

abbrev pub as_text : Cell → List ℕ
as_text cell.Null = []
as_text (cell.Int n) = signed_decimal n
as_text (cell.Text t) = t

-- the cells as texts, with commas between them
abbrev pub concatenated : Cell → List Cell → List ℕ
concatenated c cells = as_text c ++ flat_map (λ d. 44 ∷ as_text d) cells

abbrev pub as_sum : Option ℤ → Result Cell TotalFault
as_sum None = Err IntegerOverflow
as_sum (Some n) = Ok (cell.Int n)

-- a text of at most 16,777,216 bytes
abbrev pub within : List ℕ → Result Cell TotalFault
within t = if nat_lt 16777216 (length t) then Err TextTooLong else Ok (cell.Text t)

abbrev pub value_of : TotalItem → ℕ → Cell → List Cell → Result Cell TotalFault
value_of i.Count chosen c cells = Ok (cell.Int (pos chosen))
value_of (i.Sum column) chosen c cells = as_sum (sum_from (pos 0) (c ∷ cells))
value_of (i.Min column) chosen c cells = Ok (first_best Less c cells)
value_of (i.Max column) chosen c cells = Ok (first_best Greater c cells)
value_of (i.GroupConcat column) chosen c cells = within (concatenated c cells)

-- without cells it is NULL
abbrev pub value_of_none : TotalItem → ℕ → Result Cell TotalFault
value_of_none i.Count chosen = Ok (cell.Int (pos chosen))
value_of_none (i.Sum column) chosen = Ok cell.Null
value_of_none (i.Min column) chosen = Ok cell.Null
value_of_none (i.Max column) chosen = Ok cell.Null
value_of_none (i.GroupConcat column) chosen = Ok cell.Null

-- an item's value; `chosen`: how many rows were chosen
abbrev pub item_value : TotalItem → ℕ → List Cell → Result Cell TotalFault
item_value it chosen [] = value_of_none it chosen
item_value it chosen (c ∷ cells) = value_of it chosen c cells
