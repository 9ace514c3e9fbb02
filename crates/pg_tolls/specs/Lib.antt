pub mod Tariffs
pub mod Stated
pub mod Marks
pub mod Charges
pub mod Captured
pub mod inner
pub mod lemmas
