-- What is no order of jobs, by hand. A wrong law breaks one of them.
use Rattle.std.proofs.Common.{◌≡◌, ℕ, true, false, [], arith, refl, nat_lt}
use Rattle.slot_model.specs.declared.job.Job.{Job}
use Rattle.slot_model.specs.Order.{OrderLaws}
use Rattle.slot_model.specs.Task.{plain_job}

abbrev released_at : ℕ → Job
released_at release = plain_job 0 release 1

-- of one task the job that is released one slot sooner goes first
the_later_job_of_one_task_first_is_no_order : OrderLaws (λ tasks a b. nat_lt b.release a.release) → ⊥
the_later_job_of_one_task_first_is_no_order laws =
    let first : false ≡ true = laws.one_task [] (released_at 0) (released_at 1) refl (omega arith) (omega arith) in cc

no_job_first_is_no_order : OrderLaws (λ tasks a b. false) → ⊥
no_job_first_is_no_order laws =
    let first : false ≡ true = laws.one_task [] (released_at 0) (released_at 1) refl (omega arith) (omega arith) in cc

each_job_first_is_no_order : OrderLaws (λ tasks a b. true) → ⊥
each_job_first_is_no_order laws = let not_itself : true ≡ false = laws.not_itself [] (released_at 0) in cc
