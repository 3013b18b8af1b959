-- What each call has for the order of refusals: a file a call.
pub mod CancelTask
pub mod ClaimWork
pub mod CreateTask
pub mod ListDependentTasks
pub mod ListTaskGroup
pub mod PendingTasks
pub mod Ping
pub mod ReclaimTask
pub mod ReportRun
pub mod RerunTask
pub mod ScheduleTask
pub mod Status
pub mod Task
pub mod TriggerHook
