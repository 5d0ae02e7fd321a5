-- Lemmas on readings of lines and on images.
pub mod Loops
pub mod Standing
pub mod Says
pub mod Pages
pub mod MarkedPlaces
pub mod Passed
pub mod Machines
pub mod Over
pub mod Plans
pub mod Codes
pub mod Texts
pub mod Images
