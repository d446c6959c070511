pub mod Contents
pub mod ContentView
pub mod Mailboxes
pub mod Alike
