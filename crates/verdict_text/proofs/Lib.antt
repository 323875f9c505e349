pub mod JobLines
pub mod BlockLines
pub mod LinesBack
pub mod Literals
pub mod RoundTrip
