-- The first world, recoveries, all events, runs, and the laws.
pub mod Boots
pub mod Frames
pub mod Others
pub mod SiteHandlers
pub mod SiteTurns
pub mod SiteEvents
pub mod Agreeing
pub mod Leading
pub mod Lasting
pub mod Worlds
pub mod Laws
