mod Among
mod DigitRows
mod Octal
mod Quoted
mod Results
mod StringLiterals
mod Suffixes
mod ConstantTypes
