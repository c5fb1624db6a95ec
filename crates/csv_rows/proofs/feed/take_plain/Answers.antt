use Rattle.std.proofs.Common.{ℕ, List, [], ◌∷◌, ◌++◌, refl, sym, subst}
use Rattle.std.proofs.lemmas.List.{append-nil}
use Rattle.csv.specs.Reading.{Reached, default_config}
use Rattle.csv.specs.declared.parser.State.TheVariants as st
use Rattle.csv.proofs.ReadFacts.{reached-more}
use Rattle.csv_rows.specs.Row.{texts_of}
use Rattle.csv_rows.proofs.Consuming.{all_read, shorter}
use Rattle.csv_rows.proofs.Feeding.{took_on}
use Rattle.csv_rows.proofs.feed.take_plain.Goals as goal

pub loop-line-init : goal.loop-line-init
unfolding Reached
loop-line-init g c = record {
  read = [];
  took = λ start records h.
      subst (λ z. g.T.RecordTaker.has_taken start c.args.taker.now z) (sym (append-nil records)) h;
  reached = (refl, refl);
  plain = c.requires.plain;
}

pub loop-line-smaller-in-Some : goal.loop-line-smaller-in-Some
loop-line-smaller-in-Some g c =
    shorter default_config st.StartRecord [] [] c.loop-line.left.now _ refl
    (c.in-Some.ensures.first c.loop-line.invariant.plain)

pub loop-line-preserved-in-Some : goal.loop-line-preserved-in-Some
loop-line-preserved-in-Some g c =
    let l = c.loop-line.invariant in
    let line = c.in-Some.line in
    let row : List (List ℕ) = texts_of line.fields in
    record {
      read = l.read ++ row ∷ [];
      took =
          took_on g.T.RecordTaker.has_taken c.args.taker.now c.loop-line.taker c.take.new.self l.read row l.took
          c.in_ok-take.ensures;
      reached =
          reached-more default_config st.StartRecord st.StartRecord c.args.text.now c.loop-line.left.now l.read
          (row, st.StartRecord, line.rest.now) l.reached (c.in-Some.ensures.first l.plain);
      plain = c.in-Some.ensures.plain l.plain;
    }

pub loop-line-smaller : goal.loop-line-smaller
loop-line-smaller g c =
    shorter default_config st.StartRecord [] [] c.loop-line.left.now _ refl
    (rw c.in-Some-2.is at (c.in_ok-rest.ensures.first c.loop-line.invariant.plain))

pub loop-line-preserved : goal.loop-line-preserved
loop-line-preserved g c =
    let l = c.loop-line.invariant in
    let row : List (List ℕ) = texts_of c.deref.result.now in
    record {
      read = l.read ++ row ∷ [];
      took =
          took_on g.T.RecordTaker.has_taken c.args.taker.now c.loop-line.taker c.take_fields.new.taker l.read row l.took
          c.in_ok-take_fields-in-Some-2.ensures;
      reached =
          reached-more default_config st.StartRecord st.StartRecord c.args.text.now c.loop-line.left.now l.read
          (row, st.StartRecord, c.in-Some-2.rest.now) l.reached
          (rw c.deref.ensures.value (rw c.in-Some-2.is at (c.in_ok-rest.ensures.first l.plain)));
      plain = rw c.in-Some-2.is at (c.in_ok-rest.ensures.plain l.plain);
    }

pub returns-in-None : goal.returns-in-None
returns-in-None g c start records h =
    let l = c.loop-line.invariant in
    subst (λ z. g.T.RecordTaker.has_taken start c.loop-line.taker (records ++ z))
    (sym (all_read c.args.text.now l.read st.StartRecord c.loop-line.left.now l.reached
    (rw c.in-None.is at (c.in_ok-rest.ensures.first l.plain)))) (l.took start records h)
