pub mod DdlOk
pub mod MoreSteps
pub mod ProceduresOk
pub mod Returned
