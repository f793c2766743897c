-- What the functions of the desktop cite: a call on a buffer of bytes is the operation's on a list of words that matches it.
-- Assumes nothing.
pub mod WordLaws
