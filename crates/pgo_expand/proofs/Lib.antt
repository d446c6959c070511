mod Heights
mod AllNames
mod Measuring
mod Sequence
mod LeastLaws
