-- When a heap is in order, and the heap in lent words.
pub mod HeapOrder
pub mod Seats
pub mod Stands
