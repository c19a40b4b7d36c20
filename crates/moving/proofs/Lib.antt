-- The laws of moving.
pub mod Places
