-- what the contracts of the public calls cite
pub mod Directives
pub use Rattle.resin_format.specs.Directives.{directives, kinds, is_integer_place}
pub mod Formats
pub use Rattle.resin_format.specs.Formats.{formatted}
-- what these stand on
pub mod Forms
pub mod Arguments
pub mod Found
pub mod Under
