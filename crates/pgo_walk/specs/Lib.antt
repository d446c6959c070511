pub mod Frames
pub mod SettingPlaces
pub mod FrameView
pub mod Emitted
pub mod Behind
pub mod Ended
