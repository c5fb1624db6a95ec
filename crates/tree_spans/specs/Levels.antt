-- The run of a level of servers, and of a leaf's jobs, as a node has it.
use Rattle.std.specs.Prelude.{◌≡◌, ℕ, List, [], length}
use Rattle.slot_model.specs.declared.job.Job.{Job}
use Rattle.slot_model.specs.declared.sched.Sched.{Sched}
use Rattle.slot_model.specs.Task.{SporadicTask}
use Rattle.slot_model.specs.Order.{before_of}
use Rattle.slot_model.specs.Release.{synchronous}
use Rattle.slot_model.specs.Run.{guest, server, FirstRun}
use Rattle.guest_sched.specs.Spans.{Window, AreSpans, slots_of, run_of}
use Rattle.span_counts.specs.Counts.{AreCounts}
use Rattle.tree_model.specs.declared.place.Place.{Place}
use Rattle.tree_model.specs.View.{SystemView}
use Rattle.tree_model.specs.Tree.{server_tasks}
use Rattle.tree_spans.specs.NodeView.{NodeView}
use Rattle.tree_spans.specs.Shares.{AreShares}

-- tasks of the servers of some node
pub record AreServers (tasks : List SporadicTask) : Type 0 where
  pub sys : SystemView
  pub budgets : List ℕ
  pub place : Place
  pub same : tasks ≡ server_tasks sys budgets place

-- the first run of a level of servers over windows, what each child gets of it, and its counts
pub record IsServerLevel (sched : Sched) (tasks : List SporadicTask) (given : List Window) (n : ℕ)
    (node : NodeView) : Type 0 where
  pub spans : AreSpans node.spans n
  pub first : FirstRun server (before_of sched tasks) tasks (synchronous tasks 0 n)
      (slots_of given n) (run_of node.spans)
  pub shares : AreShares (synchronous tasks 0 n) (run_of node.spans) n (length tasks) node.shares
  pub counts : AreCounts tasks (synchronous tasks 0 n) (slots_of given n) (run_of node.spans)
      node.counts

-- the first run of a leaf's jobs over windows, and its counts; it has no children to give any
pub record IsGuestLevel (sched : Sched) (tasks : List SporadicTask) (jobs : List Job)
    (given : List Window) (n : ℕ) (node : NodeView) : Type 0 where
  pub spans : AreSpans node.spans n
  pub first : FirstRun guest (before_of sched tasks) tasks jobs (slots_of given n)
      (run_of node.spans)
  pub no_shares : node.shares ≡ []
  pub counts : AreCounts tasks jobs (slots_of given n) (run_of node.spans) node.counts
