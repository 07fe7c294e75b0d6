pub mod StoryLaws
pub mod ControlLaws
pub mod WaitLaws
pub mod WorkLaws
pub mod StepLaws
pub mod AnswerLaws
pub mod QuestionLaws
