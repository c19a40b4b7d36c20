pub mod Number
pub mod Grammar
pub mod Reading
