-- What is acknowledged, and what is firm.
pub mod Firm
pub mod Acks
pub mod Ends
pub mod Syncs
