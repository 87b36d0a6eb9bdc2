mod First
mod Joined
mod Positions
mod Delivering
mod AnyRuns
mod Running
mod Gathering
mod Replaying
