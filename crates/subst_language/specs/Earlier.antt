-- The earlier language, without `${name?}`, and how the present one extends it. Each definition that changed
-- is here in its earlier form, under the same name; all others are shared.
pub mod Answer
pub mod BadItem
pub mod Extension
pub mod Sentence
pub mod Tree
pub mod Value
pub mod WellFormed
