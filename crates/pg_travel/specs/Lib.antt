pub mod Walks
pub mod Origins
pub mod Needs
pub mod Decided
pub mod TravelPrices
pub mod PricesDecided
pub mod lemmas
pub mod inner
