mod RequestLemmas
mod HistoryLemmas
mod QueueLemmas
mod SenderLemmas
