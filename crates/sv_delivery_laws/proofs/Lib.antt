pub mod SentLemmas
pub mod DeliveryLemmas
pub mod ExchangeLemmas
pub mod MomentLemmas
pub mod AddedLemmas
pub mod StretchLemmas
