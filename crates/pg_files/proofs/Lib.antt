mod Whole
mod Slashes
