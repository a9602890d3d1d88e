pub mod Laws
pub mod NearestLimits
pub mod LimitsText
pub mod Listing
