-- The lemmas of `resin_step_parts`, passed on one by one: the whole of its proofs holds each goal of each function too.
pub use Rattle.resin_step_parts.proofs.Answered
pub use Rattle.resin_step_parts.proofs.Declares
pub use Rattle.resin_step_parts.proofs.Lists
pub use Rattle.resin_step_parts.proofs.Loops
pub use Rattle.resin_step_parts.proofs.Named
pub use Rattle.resin_step_parts.proofs.Objects
pub use Rattle.resin_step_parts.proofs.Pure
pub use Rattle.resin_step_parts.proofs.Steps
pub use Rattle.resin_step_parts.proofs.Ticks
