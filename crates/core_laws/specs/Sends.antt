-- A message that is sent next is the message of a job, and how many of the caller's went through after it.
use Rattle.std.specs.Prelude.{◌≡◌, ℕ, ◌+◌, if◌then◌else◌}
use Rattle.i2c_base.specs.declared.entry.End.{End}
use Rattle.bus_spec.specs.Walk.{Job, job_bus, job_purpose, part_of, parts_of}
use Rattle.mux_plan.specs.Plans.{control_of, is_call_through}
use Rattle.mux_plan.specs.declared.task.NextMsg.{NextMsg}

-- what is to be sent is this message of a job, which so many more may follow
pub record IsMessageOf (job : Job) (left : ℕ) (next : NextMsg) : Type 0 where
  pub on_bus : next.bus ≡ job_bus job
  pub for_purpose : next.purpose ≡ job_purpose job
  pub as_part : next.part ≡ part_of job left
  pub of_parts : next.parts ≡ parts_of job
  pub with_byte : next.control ≡ control_of job left

-- so many messages of the caller's went through, with this one
abbrev pub gone_after : ℕ → Job → End → ℕ
gone_after sent job e = if is_call_through (job_purpose job) e then sent + 1 else sent
