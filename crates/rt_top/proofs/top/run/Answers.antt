use Rattle.std.proofs.Common.{Option, map, string_bytes}
use Rattle.std.specs.Io.KnownBytes.{Appends}
use Rattle.outside.specs.Counts.{Rose}
use Rattle.outside.specs.Written.{AppendsProperPrefix}
use Rattle.command_line.specs.Commands.{Command, command_of}
use Rattle.command_line.proofs.Laws.{AreLawful}
use Rattle.rt_top.specs.Report.{IsAnswer}
use Rattle.rt_top.proofs.Reporting.{Finishes, answer_of_said, finished_read, finished_report, finished_usage, finished_verdict, finished_write, lawful, no_memory_ends, one_answer, stays_not_rose}
use Rattle.rt_top.proofs.Taking.{ends_without_file, no_memory_without_file, unread_of_parsed, finished_takes, unanswered_takes}
use Rattle.rt_top.proofs.top.run.Goals as goal
use Rattle.rt_top.proofs.top.run.Goals.{After-finish}

-- the command that the words spell
abbrev spelled : (g : _) → After-finish g → Option Command
spelled g c = command_of (map string_bytes c.args.words.now)

-- it keeps its laws
laws : (g : _) (c : After-finish g) → AreLawful (spelled g c)
laws g c = lawful c.parse.result (spelled g c) c.parse.ensures

-- what is written is its answer
answer : (g : _) (c : After-finish g)
    → IsAnswer (spelled g c) (g.S.Store.files c.args.store.now) c.in-Answered.answer.status c.deref.result.now
answer g c =
    answer_of_said c.parse.result (spelled g c) (g.S.Store.files c.args.store.now) c.in-Answered.answer.status
    c.in-Answered.answer.text.items c.deref.result.now c.parse.ensures c.deref.ensures.value
    c.in-Answered.ensures.answer

-- how the writing ends
ended : (g : _) (c : After-finish g)
    → Finishes c.in-Answered.answer.status c.finish.result
    (Appends (g.K.Sink.written c.args.out.now) (g.K.Sink.written c.finish.new.out) c.deref.result.now)
    (AppendsProperPrefix (g.K.Sink.written c.args.out.now) (g.K.Sink.written c.finish.new.out) c.deref.result.now)
    (Rose (g.K.Sink.faults c.args.out.now) (g.K.Sink.faults c.finish.new.out))
ended g c =
    record {
      which = c.finish.ensures.which;
      whole = c.finish.ensures.whole;
      front = c.finish.ensures.front;
      failed = c.finish.ensures.failed;
    }

pub returns-in-Answered-clause-reported : goal.returns-in-Answered-clause-reported
returns-in-Answered-clause-reported g c =
    let at = (goal.at.returns-in-Answered-clause-reported g c).After-finish in
    finished_report (spelled g at) (laws g at) (g.S.Store.files c.args.store.now) c.in-Answered.answer.status
    c.finish.result (g.K.Sink.written c.args.out.now) (g.K.Sink.written c.finish.new.out) c.deref.result.now _
    (answer g at) (ended g at)

pub returns-in-Answered-clause-usage : goal.returns-in-Answered-clause-usage
returns-in-Answered-clause-usage g c =
    let at = (goal.at.returns-in-Answered-clause-usage g c).After-finish in
    finished_usage (spelled g at) (laws g at) (g.S.Store.files c.args.store.now) c.in-Answered.answer.status
    c.finish.result c.deref.result.now _ _ _ (answer g at) (ended g at)

pub returns-in-Answered-clause-without_file : goal.returns-in-Answered-clause-without_file
returns-in-Answered-clause-without_file g c =
    let at = (goal.at.returns-in-Answered-clause-without_file g c).After-finish in
    ends_without_file (spelled g at) (laws g at) (g.S.Store.files c.args.store.now) c.in-Answered.answer.status
    c.finish.result c.deref.result.now (answer g at) c.finish.ensures.which

pub returns-in-Answered-clause-read_fault : goal.returns-in-Answered-clause-read_fault
returns-in-Answered-clause-read_fault g c =
    let at = (goal.at.returns-in-Answered-clause-read_fault g c).After-finish in
    finished_read (spelled g at) (laws g at) (g.S.Store.files c.args.store.now) c.in-Answered.answer.status
    c.finish.result c.deref.result.now _ (answer g at) c.finish.ensures.which

pub returns-in-Answered-clause-write_fault : goal.returns-in-Answered-clause-write_fault
returns-in-Answered-clause-write_fault g c =
    let at = (goal.at.returns-in-Answered-clause-write_fault g c).After-finish in
    finished_write (spelled g at) (laws g at) (g.S.Store.files c.args.store.now) c.in-Answered.answer.status
    c.finish.result c.deref.result.now _ _ _ (answer g at) (ended g at)

pub returns-in-Answered-clause-complete : goal.returns-in-Answered-clause-complete
returns-in-Answered-clause-complete g c =
    let at = (goal.at.returns-in-Answered-clause-complete g c).After-finish in
    λ can store_stays out_stays. finished_verdict (spelled g at) (laws g at) (g.S.Store.files c.args.store.now)
    c.in-Answered.answer.status c.finish.result c.deref.result.now _ _ _ _ (answer g at) (ended g at) can out_stays

pub returns-in-Unread-clause-complete : goal.returns-in-Unread-clause-complete
returns-in-Unread-clause-complete g c =
    λ can store_stays out_stays. absurd (stays_not_rose _ _ store_stays c.in-Unread.ensures.explained.0)

pub returns-in-Answered-clause-only : goal.returns-in-Answered-clause-only
returns-in-Answered-clause-only g c = one_answer _ (lawful c.parse.result _ c.parse.ensures)

pub returns-in-Unread-clause-only : goal.returns-in-Unread-clause-only
returns-in-Unread-clause-only g c = one_answer _ (lawful c.parse.result _ c.parse.ensures)

pub returns-in-NoMemory-clause-only : goal.returns-in-NoMemory-clause-only
returns-in-NoMemory-clause-only g c = one_answer _ (lawful c.parse.result _ c.parse.ensures)

pub returns-in-NoMemory-clause-complete : goal.returns-in-NoMemory-clause-complete
returns-in-NoMemory-clause-complete g c =
    let command = command_of (map string_bytes c.args.words.now) in
    λ can store_stays out_stays. no_memory_ends command (g.S.Store.files c.args.store.now)
    (lawful c.parse.result command c.parse.ensures) can

pub returns-in-Unread-clause-without_file : goal.returns-in-Unread-clause-without_file
returns-in-Unread-clause-without_file g c =
    unread_of_parsed c.parse.result (command_of (map string_bytes c.args.words.now)) c.parse.ensures
    c.in-Unread.ensures.read

pub returns-in-NoMemory-clause-without_file : goal.returns-in-NoMemory-clause-without_file
returns-in-NoMemory-clause-without_file g c = no_memory_without_file (command_of (map string_bytes c.args.words.now))

pub returns-in-Answered-clause-taken : goal.returns-in-Answered-clause-taken
returns-in-Answered-clause-taken g c =
    finished_takes c.parse.result (command_of (map string_bytes c.args.words.now)) (g.S.Store.files c.args.store.now)
    c.in-Answered.answer c.finish.result _ _ c.parse.ensures c.in-Answered.ensures.taken

pub returns-in-Unread-clause-taken : goal.returns-in-Unread-clause-taken
returns-in-Unread-clause-taken g c =
    unanswered_takes c.parse.result (command_of (map string_bytes c.args.words.now)) (g.S.Store.files c.args.store.now)
    _ _ c.parse.ensures c.in-Unread.ensures.taken

pub returns-in-NoMemory-clause-taken : goal.returns-in-NoMemory-clause-taken
returns-in-NoMemory-clause-taken g c =
    unanswered_takes c.parse.result (command_of (map string_bytes c.args.words.now)) (g.S.Store.files c.args.store.now)
    _ _ c.parse.ensures c.in-NoMemory.ensures.taken
