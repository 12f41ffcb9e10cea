-- A job over a plan, and hands that join, say the same to every thread.
use denote.Param.Send.{IsSync, sendable}
use denote.RattleType.{RattleType}
use denote.Param.SendFields.{as_row_sync, declared_sync}
use denote.Ref.{NamedLft, ShrRef}
use denote.Struct.Field.{row_field}
use Rattle.std.proofs.Crossing as std
use Rattle.query_plan.proofs.Sharing.{plan_sync}
use Rattle.tables.specs.contracts.job.Job as Job
use Rattle.tables.specs.contracts.job.JobBy as JobBy
use Rattle.group_tables.specs.contracts.executor.Parallel as Parallel
use Rattle.group_tables.specs.declared.executor.Executor as Executor

pub job_sync : (κ : NamedLft) → IsSync (Job.the_row κ)
job_sync κ = search (plan_sync, std.crosses, sendable) depth 60 fits 20000

pub parallel_sync : (κ : NamedLft) (H : RattleType) → IsSync H → IsSync (Parallel.the_row κ H)
parallel_sync κ H s = search (std.crosses, sendable) depth 60 fits 20000

job_field_sync : (κ : NamedLft) → IsSync (Job.the_field κ).row
job_field_sync κ = search (plan_sync, std.crosses, sendable) depth 60 fits 20000

pub job_by_sync : (κ : NamedLft) (T : RattleType) (executor : Executor.Ghosts T.Denot) → IsSync T → IsSync (JobBy.the_row κ T executor)
job_by_sync κ T executor s =
    declared_sync (JobBy.the_type κ T executor) (as_row_sync (Job.the_field κ) (job_field_sync κ), (as_row_sync (row_field (ShrRef κ.mir κ.lft T)) (search sendable depth 20), (search sendable depth 20, tt)))
