-- The lemmas of `resin_eval_nested`, passed on one by one: the whole of its proofs holds each goal of each function too.
pub use Rattle.resin_eval_nested.proofs.Arguments
pub use Rattle.resin_eval_nested.proofs.Arms
pub use Rattle.resin_eval_nested.proofs.Exits
pub use Rattle.resin_eval_nested.proofs.Leaf_means
