-- Lemmas by topic.
mod SlotObjects
