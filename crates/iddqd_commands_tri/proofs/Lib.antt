-- Made by tests/widths from crates/iddqd_commands_bi/proofs/Lib.antt: change that file.
pub mod Runs
