pub mod Plain
pub mod Replies
pub mod Sentence
