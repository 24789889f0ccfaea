-- The parts that a source is parsed into: their meaning, and the sink that takes them. No contract of a
-- public function of `subst` cites the definitions of these modules.
pub mod Meaning
pub mod Sink
pub mod Span
