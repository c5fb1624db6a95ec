pub mod LeafBudgets
pub mod Servers
pub mod CoreLoad
pub mod Systems
pub mod Admitting
mod Examples
