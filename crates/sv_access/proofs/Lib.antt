pub mod CaseLemmas
pub mod StoryLemmas
