-- the joint list
pub mod Joint
-- the line of a multi-queue root
pub mod Line
-- what follows from the definition of the joint list
pub mod Laws
