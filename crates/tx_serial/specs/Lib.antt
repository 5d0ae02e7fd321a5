-- Flat storage, private runs on it, and the histories that are legal there.
pub mod Flat
pub mod Attempt
pub mod Fate
pub mod Run
pub mod Ending
pub mod Remains
pub mod Room
pub mod Apply
pub mod History
pub mod Alike
pub mod Changes
pub mod Text
pub mod Stored
-- what callers name of crates below
pub use Rattle.tx_journal.specs.declared.entries.Entry
pub use Rattle.z_effect.specs.TransactionEffect
pub use Rattle.z_touch.specs.Refusals
pub use Rattle.tx_journal.specs.Content
pub use Rattle.tx_journal.specs.Image
pub use Rattle.tx_journal.specs.declared.events.Event
pub use Rattle.store_cache.specs.Overlay
