pub mod Workload
pub mod WorkloadFile
pub mod ReleaseFile
pub mod inner
