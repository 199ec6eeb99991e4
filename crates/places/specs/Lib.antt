-- Ticks as digits: where an entry stands on the wheel, when its slot wakes, how often it moves. Over the base and the number of levels.
pub mod Ticks
pub mod Answers
