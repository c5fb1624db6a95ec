use Rattle.std.proofs.Common.{ℕ, List, [], ◌∷◌, ◌++◌, sym, subst}
use Rattle.std.proofs.lemmas.List.{append-nil, append_assoc}
use Rattle.csv_rows.specs.Reading.{row_read}
use Rattle.csv_rows.proofs.Advancing.{has_open}
use Rattle.csv_rows.proofs.feed.take_all.Goals as goal

pub loop-init : goal.loop-init
loop-init g c = record {
  read = [];
  has = c.new-records.ensures.read;
  took = λ start records h.
      subst (λ z. g.T.RecordTaker.has_taken start c.args.taker.now z) (sym (append-nil records)) h;
}

pub advance-requires : goal.advance-requires
advance-requires g c = has_open c.args.text.now c.loop.invariant.read c.loop.records c.loop.invariant.has

pub returns-then-not-branch : goal.returns-then-not-branch
returns-then-not-branch g c start records h =
    let l = c.loop.invariant in
    let all = rw c.if-not-branch.true at (c.in_ok-advance.ensures.read c.args.text.now l.read l.has) in
    subst (λ z. g.T.RecordTaker.has_taken start c.loop.taker (records ++ z)) (sym all) (l.took start records h)

pub loop-preserved : goal.loop-preserved
loop-preserved g c =
    let l = c.loop.invariant in
    let row : List (List ℕ) = row_read c.advance.new.self in
    record {
      read = l.read ++ row ∷ [];
      has = rw c.if-not-branch.false at (c.in_ok-advance.ensures.read c.args.text.now l.read l.has);
      took = λ start records h.
          subst (λ z. g.T.RecordTaker.has_taken start c.take.new.self z) (append_assoc records l.read (row ∷ []))
          (rw c.row.ensures at (c.in_ok-take.ensures start (records ++ l.read) (l.took start records h)));
    }
