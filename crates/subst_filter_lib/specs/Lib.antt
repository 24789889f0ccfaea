pub mod Arguments
pub mod Device
pub mod FilterRun
pub mod RunError
pub mod Task
