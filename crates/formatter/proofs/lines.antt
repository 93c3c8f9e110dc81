pub mod Ends
pub mod Lengths
pub mod Unbroken
pub mod Blanks
pub mod Blocks
pub mod Turning
pub mod Items
pub mod Documents
