pub mod PriceTests
