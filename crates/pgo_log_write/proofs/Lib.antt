mod Joined
mod LeavesWritten
mod Matching
mod Ends
mod RunLaws
