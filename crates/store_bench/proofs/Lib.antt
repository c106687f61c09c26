mod Filling
mod Standing
