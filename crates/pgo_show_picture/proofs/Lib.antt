mod Heights
mod Rows
