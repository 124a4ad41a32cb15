-- The digits read so far and those that are left give the number of all.
use Rattle.std.proofs.Common.{◌≡◌, ◌<◌, ◌^◌, drop}
use Rattle.std.specs.List.{list_all}
use Rattle.std.specs.Char.{is_ascii_digit}
use Rattle.std.specs.Str.Parse.{digits_value, digits_value_after}
use Rattle.resin_serve.proofs.words.number_up_to.Given as goal

abbrev pub invariant-loop-digit : goal.invariant-loop-digit
invariant-loop-digit l = record {
  few : l.number < 10 ^ l.digit-index;
  number : digits_value_after 10 l.number (drop l.digit-index l.text) ≡ digits_value 10 l.text;
  digits : list_all is_ascii_digit (drop l.digit-index l.text) ≡ list_all is_ascii_digit l.text;
}
