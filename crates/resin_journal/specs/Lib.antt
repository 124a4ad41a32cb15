-- what the contracts of the public calls cite, here and above
pub mod Channels
pub use Rattle.resin_journal.specs.Channels.{channel_name}
pub mod Events
pub use Rattle.resin_journal.specs.Events.{EventList, events_code}
pub mod Access
pub use Rattle.resin_journal.specs.Access.{ObeysAccessLaw}
pub mod Lines
pub use Rattle.resin_journal.specs.Lines.{line_of}
