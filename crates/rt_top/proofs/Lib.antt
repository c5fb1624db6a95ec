mod Taking
mod Reporting
mod Examples
mod AuditExamples
mod MeansExamples
mod ReadingExamples
mod EndExamples
