pub mod Expanded
pub mod Files
pub mod Letters
pub mod Run
pub mod Status
pub mod Templates
pub mod WholeRun
pub mod Written
