pub mod Answered
pub mod Lists
pub mod Named
pub mod Objects
pub mod Ticks
pub mod Declares
pub mod Loops
pub mod Pure
pub mod Steps
pub mod Extended
-- Passed on to the crates above, which list this one alone.
pub use Rattle.resin_meaning_forms.proofs.builtin_lemmas
pub use Rattle.resin_meaning_forms.proofs.bytes_lemmas
pub use Rattle.resin_meaning_forms.proofs.label_lemmas
pub use Rattle.resin_meaning_forms.proofs.meaning_lemmas
pub use Rattle.resin_meaning_forms.proofs.target_lemmas
