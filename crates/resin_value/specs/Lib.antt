-- what the contracts of the public calls cite
pub mod Keys
pub use Rattle.resin_value.specs.Keys.{key_eq, is_lawful, text_key}
pub mod Arrays
pub use Rattle.resin_value.specs.Arrays.{EntryList, entries_code, Array, array_code, entries_size, array_size}
pub mod Seen
pub use Rattle.resin_value.specs.Seen.{tree_of, pairs_of, seen}
pub mod Falls
pub use Rattle.resin_value.specs.Falls.{falls}
pub mod Changes
pub use Rattle.resin_value.specs.Changes.{lookup, raised, next_of, put, appended, without, empty, IsArray}
pub mod Compare
pub use Rattle.resin_value.specs.Compare.{scalar_of, is_true, order_trees, equal_trees, identical_trees}
pub mod Laws
pub use Rattle.resin_value.specs.Laws.{FindsWhatWasPut, PutsAtOneKey, ForgetsWhatWasRemoved, RemovesOneKey, AppendsLast, IgnoresLabels}
-- what these stand on
pub mod Placed
pub mod Kept
pub mod Trees
pub mod Values
pub mod Under
