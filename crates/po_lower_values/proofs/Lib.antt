mod Fixed
pub mod Added
