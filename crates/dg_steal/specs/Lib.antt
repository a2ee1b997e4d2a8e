pub mod Rule
pub mod Known
