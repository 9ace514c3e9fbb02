pub mod PriceLists
pub mod PriceRecords
pub mod inner
