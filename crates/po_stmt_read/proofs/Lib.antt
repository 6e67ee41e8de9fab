pub mod Results
pub mod SameNames
pub mod Reading
pub mod Variables
pub mod Items
pub mod Bodies
