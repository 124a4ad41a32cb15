-- what the contracts of the public calls cite
pub mod Lexes
pub use Rattle.resin_lex.specs.Lexes.{HasTokens, HasFront, IsLexed, IsRow}
pub mod Lines
pub use Rattle.resin_lex.specs.Lines.{line_of, line_of_token}
-- what these stand on
pub mod Modes
pub mod Casts
pub mod Marks
pub mod First
pub mod Kinds
pub mod Grammar
pub mod Reads
