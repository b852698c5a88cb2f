mod Rising
mod Fitting
mod Putting
mod Paged
mod Ranged
mod Standing
mod Made
