pub mod Queues
pub mod Upstream
pub mod Seeds
pub mod Spreading
pub mod Reaching
