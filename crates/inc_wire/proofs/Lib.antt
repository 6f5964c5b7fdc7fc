pub mod FieldSteps
pub mod Lists
pub mod Taking
