pub mod Adding
pub mod Banks
pub mod Files
