-- one serial more
pub mod Serials
-- the order of the joint list
pub mod Order
