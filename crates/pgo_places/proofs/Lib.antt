mod Contents
mod Enough
pub mod Evaluations
mod FewerTurns
mod FirstReads
mod FirstWalks
mod Identifiers
mod InstanceNames
mod Moves
mod Names
mod OwnPuts
mod Picks
mod PlaceLaws
mod Puts
mod Readiness
mod LabelSections
pub mod Standing
pub mod Starts
mod Updates
mod Walks
pub mod FirstLeft
