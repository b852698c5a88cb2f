mod NextKey
mod Prefixes
