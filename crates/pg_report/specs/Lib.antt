pub mod Run
pub mod Statuses
pub mod Shortest
pub mod Sides
pub mod Within
pub mod Showing
pub mod Expecting
pub mod Answering
