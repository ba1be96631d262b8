pub mod Ranking
pub mod Files
