-- A message leaves its channel, waits, or is one that starts or stops a site.
pub mod Pops
pub mod Waited
pub mod Taken
pub mod Stops
