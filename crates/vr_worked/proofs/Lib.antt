pub mod TightSchedules
pub mod SearchRows
pub mod ImportedFile
