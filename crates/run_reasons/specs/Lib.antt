pub mod Facts
pub mod Ground
pub mod Laws
pub mod Placed
pub mod Sentence
pub mod StoryFacts
pub mod Walk
pub mod Why
