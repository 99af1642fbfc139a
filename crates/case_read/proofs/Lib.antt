pub mod Lines
pub mod Lengths
pub mod Refusing
pub mod CaseTexts
