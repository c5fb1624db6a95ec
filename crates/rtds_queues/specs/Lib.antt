pub mod Keys
pub mod Accounts
pub mod Vcpus
pub mod inner
