pub mod Rows
pub mod SeatBoards
pub mod Seats
pub mod Tables
