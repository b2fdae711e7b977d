pub mod Decimal
pub mod Numeral
pub mod Duration
pub mod Escape
pub mod Time
pub mod NumeralLength
