pub mod Board
pub mod Escaping
pub mod Heading
pub mod Lines
pub mod Page
