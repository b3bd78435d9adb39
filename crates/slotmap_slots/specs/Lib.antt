pub mod Slot
pub mod LayoutLends
pub mod Numbers
pub mod SlotsLend
