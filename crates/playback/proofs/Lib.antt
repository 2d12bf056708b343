mod Joining
mod Looping
mod Playing
mod Replaying
mod Single
