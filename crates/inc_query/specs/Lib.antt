pub mod Queries
pub mod QueryLaws
pub mod Plans
pub mod Ticks
pub mod TickLaws
pub mod Laws
pub mod PlanLaws
