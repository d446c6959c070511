mod Texts
mod Parts
