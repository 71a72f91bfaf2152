pub mod Below
pub mod Costs
pub mod Budgets
