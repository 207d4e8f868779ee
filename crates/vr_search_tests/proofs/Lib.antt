pub mod ValidRules
