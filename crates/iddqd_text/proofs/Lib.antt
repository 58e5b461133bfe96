mod Rows
mod RunRows
pub mod Chain
pub mod Counting
pub mod Cutting
pub mod Fields
mod Impossible
pub mod Moving
pub mod Numbering
pub mod Parsing
pub mod Printing
pub mod Replying
pub mod Sorting
pub mod Spelling
