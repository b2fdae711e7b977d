pub mod Label
pub mod Symbols
pub mod Printed
