pub mod Intervals
pub mod Preorder
pub mod Laying
pub mod Layouts
pub mod Sizes
pub mod Ascending
pub mod Insertion
pub mod Listed
mod Sorting
pub mod Gathering
pub mod Placing
pub mod Entering
pub mod Standing
pub mod Outlets
pub mod Queued
pub mod Arranging
