pub mod Cutting
mod FirstLines
mod OneWay
mod Options
mod Reading
mod Setups
mod Written
