-- what a card does to its station
pub mod Laws
