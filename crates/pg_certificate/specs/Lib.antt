pub mod Spelling
pub mod Reading
pub mod Reader
pub mod Writer
pub mod Stream
pub mod Pushing
pub mod Laws
pub mod inner
