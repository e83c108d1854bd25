pub mod Grammar
pub mod Machine
pub mod Text
