mod Loading
mod OrderLemmas
mod Paying
mod Refusing
mod Swapping
mod Transfers
mod Undone
