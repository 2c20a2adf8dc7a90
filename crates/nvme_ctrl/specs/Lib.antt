pub mod Executions
pub mod Lending
