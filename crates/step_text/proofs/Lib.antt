pub mod Stepping
pub mod Found
pub mod Refusing
pub mod TakingLaws
pub mod StepTexts
