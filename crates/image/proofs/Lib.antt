pub mod Refusals
pub mod Records
pub mod Following
pub mod RoundTrip
pub mod Laws
pub mod Putting
