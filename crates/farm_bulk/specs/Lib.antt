pub mod Replies
pub mod Farm
pub mod Connections
pub mod Complete
pub mod Bulk
