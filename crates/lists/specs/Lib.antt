pub mod Called
pub mod Engine
pub mod Interpreter
