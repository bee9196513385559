mod EntryLemmas
mod PendingLemmas
