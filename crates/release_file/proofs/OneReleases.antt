-- Records spell one list of releases at most, and where they spell one they have no fault.
use Rattle.std.proofs.Common.{◌≡◌, ℕ, List, [], Option, Some, None, sym, ◌∙◌, ap, arith, subst}
use Rattle.std.proofs.lemmas.List.{ext_get_or}
use Rattle.std.proofs.lemmas.Option.{same_Some}
use Rattle.csv_rows.proofs.OneFault.{one_fault, no_fault_kept}
use Rattle.slot_model.specs.declared.job.Job.{Job}
use Rattle.tree_model.specs.View.{SystemView}
use Rattle.release_file.specs.declared.fault.ReleaseFault.{ReleaseFault}
use Rattle.release_file.specs.declared.release_spelling.Version.{Version}
use Rattle.release_file.specs.ReleaseFile.{jobs_of, releases_of, release_rules, release_rows, SpellsReleases, IsReleasesFault}

pub same_jobs : (sys : SystemView) (records : List (List (List ℕ))) (xs ys : List (List Job))
    → SpellsReleases sys records xs → SpellsReleases sys records ys → xs ≡ ys
same_jobs sys records xs ys s t =
    let file = same_Some (s.version, s.rows) (t.version, t.rows) (sym s.header ∙ t.header) in
    ext_get_or [] xs ys (s.one_each ∙ sym t.one_each)
    (λ q l. s.jobs_are q (omega (arith, s.one_each))
    ∙ (ap (λ (f : Version × List (List (List ℕ))). jobs_of q (releases_of sys f.0 f.1)) file
    ∙ sym (t.jobs_are q (omega (arith, s.one_each)))))

pub no_release_fault : (sys : SystemView) (records : List (List (List ℕ))) (xs : List (List Job)) (fault : ReleaseFault)
    → SpellsReleases sys records xs → IsReleasesFault sys (release_rows records) fault → ⊥
no_release_fault sys records xs fault s h =
    no_fault_kept (release_rules sys s.version) s.rows fault s.keep
    (subst (λ (z : Option (Version × List (List (List ℕ)))). IsReleasesFault sys z fault) s.header h)

pub one_release_fault : (sys : SystemView) (file : Option (Version × List (List (List ℕ)))) (a b : ReleaseFault)
    → IsReleasesFault sys file a → IsReleasesFault sys file b → a ≡ b
one_release_fault sys None a b x y = x ∙ sym y
one_release_fault sys (Some file) a b x y = one_fault (release_rules sys file.0) file.1 a b x y
