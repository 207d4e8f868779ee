pub mod Printed
pub mod Tables
pub mod Shape
