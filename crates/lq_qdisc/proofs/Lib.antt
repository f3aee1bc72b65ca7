-- what the calls come to
pub mod ViewRelations
-- steps after steps
pub mod ListLemmas
pub mod TakeLemmas
pub mod DirectLemmas
pub mod RunLemmas
-- the steps of a call, as a seat alone sees them; what an answer of the device leaves, and serving; a packet that is brought; the
-- packets of a run; what an attempt leaves; and a packet that goes past the bands
pub mod AloneForms
pub mod AloneOffers
pub mod AloneServed
pub mod AloneBrought
pub mod AloneTurns
pub mod AloneRests
pub mod AlonePast
pub mod AloneSteps
pub mod AloneCalls
pub mod SendLemmas
-- when the first seat's packet is refused
pub mod FirstLemmas
pub mod TransmitLemmas
pub mod StepLemmas
pub mod ViewLemmas
pub mod OfferLemmas
pub mod LockLemmas
-- what a put comes to
pub mod PutLemmas
