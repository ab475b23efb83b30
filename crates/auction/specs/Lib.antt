pub mod Rules
pub mod Decided
pub mod Laws
pub mod PriceLaws
pub mod RuleText
