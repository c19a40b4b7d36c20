-- The laws of the C calls.
pub mod Calling
pub mod RoundTrip
pub mod EventNames
pub mod OneAnswer
pub mod HexTexts
pub mod OneHex
pub mod StreamAnswers
