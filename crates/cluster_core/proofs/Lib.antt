pub mod Sends
pub mod SiteSteps
pub mod RouteLemmas
pub mod ChannelLemmas
pub mod ReadyLemmas
pub mod Delivered
pub mod DueLemmas
pub mod EnabledLemmas
