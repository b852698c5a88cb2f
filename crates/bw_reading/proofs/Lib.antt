mod Handed
mod Led
mod Starts
