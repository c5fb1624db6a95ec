pub mod Shows
pub mod Nodes
pub mod Hits
pub mod Listing
pub mod OneCertificate
mod Quotes
mod MadeExamples
