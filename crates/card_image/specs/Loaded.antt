-- What a load says, re-exported for the crates above.
pub use Rattle.card_load.specs.declared.Loaded.{Loaded}
pub use Rattle.card_load.specs.Load.{said_loaded}
