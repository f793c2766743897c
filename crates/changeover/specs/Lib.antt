-- What changing over is: the board list that the compacted file goes on with, and the operation `change_over`.
-- Assumes nothing.
pub mod Carried
pub mod Call
