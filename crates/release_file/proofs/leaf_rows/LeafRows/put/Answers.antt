use Rattle.std.proofs.Common.{◌≡◌, ◌<◌, ◌∙◌, Bool, None, true, refl, sym, ap, inr, arith, length, subst, rules, Option}
use Rattle.std.specs.Result.{is_ok}
use Rattle.std.proofs.lemmas.List.{get_or_read}
use Rattle.csv_rows.specs.Rules.{fault_if}
use Rattle.csv_rows.proofs.Keeping.{fault_broken}
use Rattle.slot_model.specs.declared.job.Job.{Job}
use Rattle.release_file.specs.declared.fault.ReleaseFault.TheVariants.{TooEarly}
use Rattle.tree_model.specs.System.{own_tasks}
use Rattle.release_file.specs.ReleaseFile.{is_too_early, job_fault}
use Rattle.release_file.specs.inner.ReleasesTaken.{IsLast, last_of}
use Rattle.release_file.proofs.LeafMore.{fits_named, job_fault_is, leaf_more}
use Rattle.release_file.proofs.leaf_rows.LeafRows.put.Goals as goal
use Rattle.release_file.proofs.leaf_rows.LeafRows.put.Goals.{After-follows_too_soon}

-- the last job of its task tells whether the job comes too early
told : (c : After-follows_too_soon)
    → (is_too_early (own_tasks c.args.self.now.part.now) c.args.self.now.jobs.items c.args.job
    ≡ c.follows_too_soon.result)
    × (job_fault (own_tasks c.args.self.now.part.now) c.args.self.now.jobs.items c.args.job c.args.row
    ≡ fault_if c.follows_too_soon.result (TooEarly c.args.row) None)
told c =
    let a = c.args.self.now in
    let t = c.args.job.task in
    let l : t < length a.part.now.tasks = omega (arith, fits_named a.part.now c.args.job c.requires.fits) in
    let read : c.index.result.now ≡ last_of a.last.items t
    = get_or_read a.last.items _ _ (omega (arith, l, c.requires.leaf.room)) c.index.ensures None in
    rw c.follows_too_soon.ensures (job_fault_is a c.args.job c.args.period c.args.row c.index.result.now c.requires.leaf
    c.requires.fits c.requires.period
    (subst (λ (o : Option Job). IsLast a.jobs.items t o) (sym read) (c.requires.leaf.last t l)))

pub returns-then-follows_too_soon-clause-fault : goal.returns-then-follows_too_soon-clause-fault
returns-then-follows_too_soon-clause-fault c =
    inr ((told (goal.at.returns-then-follows_too_soon-clause-fault c).After-follows_too_soon).1
    ∙ fault_broken c.follows_too_soon.result (TooEarly c.args.row) None c.if-follows_too_soon.true)

pub returns-clause-leaf : goal.returns-clause-leaf
returns-clause-leaf c =
    let good : is_ok c.push.result ≡ true = search rules in
    let items = rw good at c.push.ensures.items in
    leaf_more c.args.self.now _ c.args.job c.requires.leaf c.requires.fits
    ((told (goal.at.returns-clause-leaf c).After-follows_too_soon).0 ∙ c.if-follows_too_soon.false) refl refl items
    refl

pub returns-clause-kept : goal.returns-clause-kept
returns-clause-kept c =
    (told (goal.at.returns-clause-kept c).After-follows_too_soon).1
    ∙ ap (λ (z : Bool). fault_if z (TooEarly c.args.row) None) c.if-follows_too_soon.false
