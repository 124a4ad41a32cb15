-- what the contracts of the public calls cite
pub mod Records
pub use Rattle.resin_trace.specs.Records.{limit, HasRecords, OnlyRecords}
pub mod Seen
pub use Rattle.resin_trace.specs.Seen.{begin, fed}
pub mod Reads
pub use Rattle.resin_trace.specs.Reads.{HandsOut, Feeds, Finishes}
pub mod Lines
pub use Rattle.resin_trace.specs.Lines.{Waiting, at, stream_of, added, used}
pub mod Verdicts
pub use Rattle.resin_trace.specs.Verdicts.{Ends, HasRead, HasEnd, IsMemoryOr}
-- what these stand on
pub mod Front
