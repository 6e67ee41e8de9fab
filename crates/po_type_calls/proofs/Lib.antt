mod CalledFunctions
mod Formatted
mod Passed
mod Printed
mod TypingsOfCalls
