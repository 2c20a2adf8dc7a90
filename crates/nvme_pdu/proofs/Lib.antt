pub mod HostPdus
pub mod ControllerPdus
pub mod Wholes
