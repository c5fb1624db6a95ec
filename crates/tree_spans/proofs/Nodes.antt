-- The run of one node: what the code makes is what is said of the node.
use Rattle.std.proofs.Common.{◌≡◌, ℕ, Bool, List, length, Option, ◌∙◌, subst}
use Rattle.slot_model.specs.declared.job.Job.{Job}
use Rattle.slot_model.specs.declared.sched.Sched.{Sched}
use Rattle.slot_model.specs.Task.{SporadicTask}
use Rattle.slot_model.specs.Order.{before_of}
use Rattle.slot_model.specs.Release.{synchronous}
use Rattle.slot_model.specs.Run.{Level, server, FirstRun}
use Rattle.slot_model.specs.Miss.{HoldsReleased}
use Rattle.slot_model.proofs.FirstRuns.{first_permitted}
use Rattle.slot_model.proofs.MissedJobs.{permitted_holds_released}
use Rattle.guest_sched.specs.declared.spans.Span.{Span}
use Rattle.guest_sched.specs.Spans.{Window, AreSpans, slots_of, run_of}
use Rattle.guest_sched.proofs.Given.{slots-long}
use Rattle.tree_model.specs.declared.place.Place.{Place}
use Rattle.tree_model.specs.View.{SystemView}
use Rattle.tree_model.specs.System.{part_at, own_tasks_at}
use Rattle.tree_model.specs.Tree.{node_sched, server_tasks}
use Rattle.span_counts.specs.declared.counts.Counts.{Counts}
use Rattle.span_counts.specs.Counts.{AreCounts}
use Rattle.tree_spans.specs.NodeView.{NodeView}
use Rattle.tree_spans.specs.Shares.{AreShares}
use Rattle.tree_spans.specs.Levels.{IsServerLevel, IsGuestLevel}
use Rattle.tree_spans.specs.TreeSpans.{IsServerNode, IsLeafNode}

-- the run of spans is as long as its slots
pub run_long : (level : Level) (before : Job → Job → Bool) (T : List SporadicTask) (jobs : List Job)
    (given : List Window) (n : ℕ) (run : List (Option ℕ)) → FirstRun level before T jobs (slots_of given n) run
    → length run ≡ n
run_long level before T jobs given n run h = h.long ∙ slots-long given n

pub first_released : (level : Level) (before : Job → Job → Bool) (T : List SporadicTask) (jobs : List Job)
    (slots : List Bool) (run : List (Option ℕ)) → FirstRun level before T jobs slots run → HoldsReleased jobs run
first_released level before T jobs slots run h =
    permitted_holds_released level before T jobs slots run (first_permitted level before T jobs slots run h)

-- what the code makes of a level is the node of that level
pub server_level_made : (sched : Sched) (T : List SporadicTask) (given : List Window) (n : ℕ) (spans : List Span)
    (shares : List (List Window)) (jobs : List Job) (count : ℕ) → jobs ≡ synchronous T 0 n → count ≡ length T
    → AreSpans spans n → FirstRun server (before_of sched T) T jobs (slots_of given n) (run_of spans)
    → AreShares jobs (run_of spans) (length (run_of spans)) count shares
    → (counts : Counts) → AreCounts T jobs (slots_of given n) (run_of spans) counts
    → IsServerLevel sched T given n (record { spans = spans; shares = shares; counts = counts })
server_level_made sched T given n spans shares jobs count f k are h s counts counted = record {
  spans = are;
  first = subst (λ (js : List Job). FirstRun server (before_of sched T) T js (slots_of given n) (run_of spans)) f h;
  shares =
      subst (λ (js : List Job). AreShares js (run_of spans) n (length T) shares) f
      (subst (λ (c : ℕ). AreShares jobs (run_of spans) n c shares) k
      (subst (λ (m : ℕ). AreShares jobs (run_of spans) m count shares)
      (run_long server (before_of sched T) T jobs given n (run_of spans) h) s));
  counts = subst (λ (js : List Job). AreCounts T js (slots_of given n) (run_of spans) counts) f counted;
}

-- the node of a tree is that of its level: by its own tasks and its scheduler
pub server_node_of : (sys : SystemView) (budgets : List ℕ) (n : ℕ) (place : Place) (given : List Window)
    (T : List SporadicTask) (sched : Sched) → T ≡ server_tasks sys budgets place → sched ≡ node_sched sys place
    → (node : NodeView) → IsServerLevel sched T given n node → IsServerNode sys budgets n place (slots_of given n) node
server_node_of sys budgets n place given T sched e g node h =
    let own : IsServerLevel (node_sched sys place) (server_tasks sys budgets place) given n node
    = subst (λ (t : List SporadicTask). IsServerLevel (node_sched sys place) t given n node) e
    (subst (λ (s : Sched). IsServerLevel s T given n node) g h) in
    record { spans = own.spans; first = own.first; shares = own.shares; counts = own.counts }

pub leaf_node_of : (sys : SystemView) (n q : ℕ) (given : List Window) (T : List SporadicTask) (jobs : List Job)
    (sched : Sched) → T ≡ own_tasks_at sys q → sched ≡ (part_at sys q).sched
    → (node : NodeView) → IsGuestLevel sched T jobs given n node → IsLeafNode sys n q jobs (slots_of given n) node
leaf_node_of sys n q given T jobs sched e g node h =
    let own : IsGuestLevel (part_at sys q).sched (own_tasks_at sys q) jobs given n node
    = subst (λ (t : List SporadicTask). IsGuestLevel (part_at sys q).sched t jobs given n node) e
    (subst (λ (s : Sched). IsGuestLevel s T jobs given n node) g h) in
    record { spans = own.spans; first = own.first; no_shares = own.no_shares; counts = own.counts }
