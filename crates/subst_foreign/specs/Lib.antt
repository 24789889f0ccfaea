pub mod Foreign
pub mod Grammar
pub mod Question
pub mod Reading
pub mod RefusedDisplay
pub mod Template
pub mod Text
