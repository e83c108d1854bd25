pub mod Visit
pub mod Descent
