mod Ordered
mod Tested
mod Keeping
mod Files
mod GraphFronts
