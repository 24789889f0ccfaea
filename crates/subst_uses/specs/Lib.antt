pub mod Colours
pub mod CommandLine
pub mod Compose
pub mod Config
pub mod Layers
pub mod Report
pub mod Settings
