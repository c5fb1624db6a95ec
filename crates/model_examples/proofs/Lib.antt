mod SlotExamples
mod BoundExamples
mod DeadlineExamples
mod RunExamples
mod MissExamples
mod PointExamples
mod KeyExamples
