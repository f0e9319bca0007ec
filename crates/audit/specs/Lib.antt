pub mod States
pub mod Audit
pub mod SlotStateLaws
pub mod AuditLaws
pub mod Gathered
