pub mod Below
pub mod StepItems
