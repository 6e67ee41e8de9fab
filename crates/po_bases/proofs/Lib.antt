mod Ends
pub mod Covered
pub mod BasesLaws
pub mod FilledLaws
