pub mod Mixes
pub mod Cursors
pub mod Beside
pub mod Pieces
