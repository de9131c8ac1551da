pub mod PlainSenders
pub mod Heads
pub mod FirstReplies
pub mod ShownReplies
