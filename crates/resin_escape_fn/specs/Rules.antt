-- The rules of the escapes by their names in the code.
use Rattle.std.specs.Prelude.{ℕ, List}
use Rattle.resin_escape_fn.specs.declared.escape.Escape.{Escape}
use Rattle.resin_escape_fn.specs.declared.escape.Escape.TheVariants.{Html, Slashes, Quotes, Url, RawUrl, Hex}
use Rattle.resin_escape_fn.specs.Escapes.{html_entity, slashed, doubled_quote, url_escape, raw_url_escape, hex_pair}

abbrev pub rule_of : Escape → ℕ → List ℕ
rule_of Html = html_entity
rule_of Slashes = slashed
rule_of Quotes = doubled_quote
rule_of Url = url_escape
rule_of RawUrl = raw_url_escape
rule_of Hex = hex_pair
