-- Membership (request No. 14): when it is shown; the answer to a byte string; what an answer says of worlds.
pub mod Shown
pub mod Answer
pub mod Judgement
