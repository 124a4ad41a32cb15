-- Constant expressions: an integer, with or without `-`, a text without interpolation, a constant, or an array of these.
use Rattle.std.specs.Prelude.{ℕ, ℤ, pos, negsuc, neg_ℤ, Bool, true, false, not, ◌&&◌, List, [], ◌∷◌, ◌++◌, Option, Some, None, is_some, unwrap_or}
use Rattle.resin_form.specs.Form.{Own, Named, give, next, maybe, many, plain, taken}
use Rattle.resin_lex.specs.declared.token.TokenKind.{TokenKind}
use Rattle.resin_lex.specs.declared.token.TokenKind.TheVariants as k
use Rattle.resin_lex.specs.declared.token.Mark.TheVariants as m
use Rattle.resin_scan.specs.declared.keywords.Keyword.TheVariants as word
use Rattle.resin_tree.specs.declared.declaration.Constant.{Constant}
use Rattle.resin_tree.specs.declared.declaration.ConstantItem.{ConstantItem}
use Rattle.resin_tree.specs.declared.expression.ConstantName.{ConstantName}
use Rattle.resin_tree.specs.declared.expression.ConstantName.TheVariants as known
use Rattle.resin_grammar.specs.declared.sign.Sign.{Sign}
use Rattle.resin_grammar.specs.declared.sign.Sign.TheVariants as s
use Rattle.resin_grammar.specs.Signs.{is_sign}
use Rattle.resin_grammar.specs.Operators.{constant_of}
use Rattle.resin_program_grammar.specs.Trees as tree
use Rattle.resin_program_grammar.specs.Names.{ConstantItems, Digits}
use Rattle.resin_program_grammar.specs.Combine.{Rule, Behind, ◌>>=◌, ◌>>◌, either, expects, eats, opened}

abbrev pub begins_constant : TokenKind → Bool
begins_constant (k.Int n) = true
begins_constant (k.Text x) = true
begins_constant (k.Name n) = is_some (constant_of n)
begins_constant (k.Mark m.Minus) = true
begins_constant (k.Mark m.LeftSquare) = true
begins_constant (k.Keyword word.Array) = true
begins_constant _ = false

-- the number that a token spells. An integer of a source text has no sign of its own.
abbrev pub without_sign : ℤ → Option ℤ
without_sign (pos n) = Some (pos n)
without_sign (negsuc n) = None

abbrev pub digits_of : TokenKind → Option ℤ
digits_of (k.Int n) = without_sign n
digits_of _ = None

unfoldable pub digits : Rule ℤ
digits = next (λ t. is_some (digits_of t.kind)) (λ t. taken (give (unwrap_or (digits_of t.kind) (pos 0))))

-- `-` and an integer
unfoldable pub negative : Behind Named Constant
negative = opened Digits (λ n. give (tree.int (neg_ℤ n)))

unfoldable pub constant_array : Sign → Behind Named Constant
constant_array close = opened (ConstantItems close) (λ items. give (tree.array items))

-- `array(..)`
unfoldable pub long_constant_array : Rule Constant
long_constant_array = next (λ t. is_sign s.LeftRound t.kind) (λ _. constant_array s.RightRound)

abbrev pub constant_behind : TokenKind → Behind Named Constant
constant_behind (k.Int n) = plain (give (tree.int n))
constant_behind (k.Text x) = plain (give (tree.text x))
constant_behind (k.Name n) = plain (give (tree.constant_named (unwrap_or (constant_of n) known.Null)))
constant_behind (k.Mark m.Minus) = negative
constant_behind (k.Mark m.LeftSquare) = constant_array s.RightSquare
constant_behind _ = plain long_constant_array

unfoldable pub constant : Rule Constant
constant = next (λ t. begins_constant t.kind) (λ t. constant_behind t.kind)

-- `c` or `c => c`, behind the items so far
abbrev pub valued : List ConstantItem → Constant → Bool → Rule (List ConstantItem)
valued items a true = constant >>= λ v. give (items ++ tree.item (Some a) v ∷ [])
valued items a false = give (items ++ tree.item None a ∷ [])

unfoldable pub pair_after : List ConstantItem → Rule (List ConstantItem)
pair_after items = constant >>= λ a. eats s.FatArrow >>= valued items a

-- the items so far, and whether the bracket has come
abbrev pub item_unless : List ConstantItem → Bool → Rule (List ConstantItem × Bool)
item_unless items true = give (items, true)
item_unless items false = pair_after items >>= λ more. give (more, false)

-- the closing bracket, or an item
unfoldable pub item : Sign → List ConstantItem → Rule (List ConstantItem × Bool)
item close items = eats close >>= item_unless items

unfoldable pub more_items : Sign → List ConstantItem × Bool → Rule (List ConstantItem × Bool)
more_items close done = many (λ done t. not done.1 && is_sign s.Comma t.kind) (λ done _. taken (item close done.0)) done

-- the items of an array, a last comma allowed, and the closing bracket
unfoldable pub items : Sign → Rule (List ConstantItem)
items close = item close [] >>= more_items close >>= λ done. either done.1 (give done.0) (expects close >> give done.0)
