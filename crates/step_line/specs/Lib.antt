pub mod StepLine
