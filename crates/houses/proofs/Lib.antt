pub mod SlotIn
