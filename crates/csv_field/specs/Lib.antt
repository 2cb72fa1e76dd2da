pub mod FieldGrammar
pub mod FieldReading
