-- Lemmas on scans and searches.
pub mod ScanEnding
pub mod SearchBounds
