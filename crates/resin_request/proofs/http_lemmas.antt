-- The lemmas of `resin_http`, passed on one by one: the whole of its proofs holds each goal of each function too.
pub use Rattle.resin_http.proofs.FieldLemmas
pub use Rattle.resin_http.proofs.HeadLemmas
pub use Rattle.resin_http.proofs.LineLemmas
pub use Rattle.resin_http.proofs.MarkLemmas
pub use Rattle.resin_http.proofs.ShortestLemmas
pub use Rattle.resin_http.proofs.StreamLemmas
pub use Rattle.resin_http.proofs.WaitLemmas
