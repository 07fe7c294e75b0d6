pub mod StandingLaws
pub mod CouplingLaws
pub mod LegalLaws
pub mod EndingLaws
pub mod OfferLaws
