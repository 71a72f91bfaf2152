pub mod StepBindings
