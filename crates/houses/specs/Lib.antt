pub mod Houses
pub mod Deciding
pub mod HousesLaws
