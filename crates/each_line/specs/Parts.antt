-- The lines that end in a part of the input, answered one after another: passed on from the crate that says it.
pub use Rattle.lines_parts.specs.Parts.{lines_here, held_here, PartDone, PartsDone}
unfoldable pub use Rattle.lines_parts.specs.Parts.{left_by}
