pub mod AllSlots
