pub mod lemmas
mod Forests
mod Counting
mod Gathering
mod Numbers
mod Deciding
mod Answering
mod Styling
mod Ordinary
