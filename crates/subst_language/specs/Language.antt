-- The template language, defined without the code: no definition here has a cursor, a counter, a stack or a
-- jump.
pub mod Answer
pub mod BadItem
pub mod Balanced
pub mod Bytes
pub mod Character
pub mod Counts
pub mod Escaped
pub mod Followed
pub mod Join
pub mod Laws
pub mod LookUp
pub mod Moved
pub mod Name
pub mod NamesIn
pub mod Sentence
pub mod Several
pub mod Steps
pub mod Tree
pub mod Value
pub mod ValueLength
pub mod Variables
pub mod WellFormed
pub mod Written
