pub mod FilterLemmas
pub mod NamedLemmas
pub mod StoryLemmas
pub mod TextLemmas
pub mod UnplacedLemmas
pub mod WalkLemmas
