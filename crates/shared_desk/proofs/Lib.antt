mod Lists
mod Kept
mod Raising
mod Turning
mod Standings
mod Closing
