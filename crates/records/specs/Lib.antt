pub mod Required
pub mod DvsecRule
pub mod DualRule
pub mod Inner
