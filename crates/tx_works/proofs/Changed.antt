-- What is kept when the seat of one CPU changes, or the holders of lines.
use Rattle.std.proofs.Common.{◌≡◌, ℕ, ◌+◌, ◌<◌, Bool, true, false, length, get_or, set}
use Rattle.std.proofs.Common.{refl, ap, ◌∙◌}
use Rattle.std.specs.Prelude.{if◌then◌else◌}
use Rattle.line_table.specs.Holders.{Holders}
use Rattle.tx_ladder.specs.Rungs.{rejecting, rejected}
use Rattle.interrogate.specs.declared.kinds.Answer.{Answer}
use Rattle.interrogate.specs.declared.kinds.Answer.TheVariants.{Yields, Rejects, Aborts}
use Rattle.interrogate.specs.Replies.{after}
use Rattle.tx_serial.specs.Flat.{at_put}
use Rattle.tx_progress.specs.Progress as progress
use Rattle.tx_lines.specs.Parts.{local_of}
use Rattle.tx_lines.specs.Owned.{Owned, storage_of, storage_in, holders_in}
use Rattle.tx_keeping.specs.Kept.{Kept, with_state}
use Rattle.tx_keeping.specs.Moves.{k_asking, k_rejected}
use Rattle.tx_works.specs.Works.{Works, Seat, numbers_of, kept_from, kept_by, seats_of}
use Rattle.tx_works.specs.Asks.{with_question, with_reject, k_answered}
use Rattle.tx_works.proofs.Tables.{read_of_put, put_as_is, list_put}

-- ---- one seat changes

abbrev pub with_seat : ℕ → Seat → Kept → Kept
with_seat j s k = record {
  state = record k.state { numbers = at_put k.state.numbers j (numbers_of s) };
  storage = k.storage;
  locals = at_put k.locals j (local_of s.cpu);
  standings = at_put k.standings j s.ladder;
}

abbrev pub with_slot : Works → ℕ → Seat → Works
with_slot w j s = record w { slots = set w.slots j s }

read_seats : (seats : ℕ → Seat) (w : Works) (j : ℕ) (s : Seat)
    → kept_from (at_put seats j s) w ≡ with_seat j s (kept_from seats w)
read_seats seats w j s x = record {
  state = record {
    history = w.history;
    events = w.events;
    queue = w.queue;
    held = holders_in w.lines;
    numbers = read_of_put numbers_of seats j s x;
  };
  storage = storage_in w.lines;
  locals = read_of_put (λ (s : Seat). local_of s.cpu) seats j s x;
  standings = read_of_put (λ (s : Seat). s.ladder) seats j s x;
}

pub seat_put : (rest : Seat) (w : Works) (j : ℕ) (s : Seat) → j < length w.slots
    → kept_by rest (with_slot w j s) ≡ with_seat j s (kept_by rest w)
seat_put rest w j s lt =
    ap (λ seats. kept_from seats w) (list_put rest w.slots j s lt) ∙ read_seats (seats_of rest w.slots) w j s

-- where it is the same CPU, and stands on the ladder as before
module _ (rest : Seat) (w : Works) (i : ℕ) (lt : i < length w.slots) where
  abbrev seat : Seat
  seat = get_or w.slots i rest

  abbrev k : Kept
  k = kept_by rest w

  numbers_alone : (s : Seat) → s.cpu ≡ seat.cpu → s.ladder ≡ seat.ladder
      → kept_by rest (with_slot w i s)
      ≡ with_state (record k.state { numbers = at_put k.state.numbers i (numbers_of s) }) k
  numbers_alone s cpu ladder =
      seat_put rest w i s lt
      ∙ (λ x. record {
        state = record k.state { numbers = at_put k.state.numbers i (numbers_of s) };
        storage = k.storage;
        locals = put_as_is k.locals i (local_of s.cpu) (ap local_of cpu) x;
        standings = put_as_is k.standings i s.ladder ladder x;
      })

  question_at : kept_by rest (with_slot w i (with_question seat)) ≡ k_asking i k
  question_at = numbers_alone (with_question seat) refl refl

  ladder_alone : (s : Seat) → s.cpu ≡ seat.cpu
      → kept_by rest (with_slot w i s) ≡ record k {
        state = record k.state { numbers = at_put k.state.numbers i (numbers_of s) };
        standings = at_put k.standings i s.ladder;
      }
  ladder_alone s cpu =
      seat_put rest w i s lt
      ∙ (λ x. record {
        state = record k.state { numbers = at_put k.state.numbers i (numbers_of s) };
        storage = k.storage;
        locals = put_as_is k.locals i (local_of s.cpu) (ap local_of cpu) x;
        standings = at_put k.standings i s.ladder;
      })

  same_at : kept_by rest (with_slot w i seat) ≡ k
  same_at =
      seat_put rest w i seat lt
      ∙ (λ x. record {
        state = record k.state { numbers = put_as_is k.state.numbers i (numbers_of seat) refl x };
        storage = k.storage;
        locals = put_as_is k.locals i (local_of seat.cpu) refl x;
        standings = put_as_is k.standings i seat.ladder refl x;
      })

  answered_at : (a : Answer)
      → kept_by rest (with_slot w i (record seat { ladder = after a seat.ladder })) ≡ k_answered a i k
  answered_at Yields = same_at
  answered_at Rejects = ladder_alone (record seat { ladder = rejecting seat.ladder }) refl
  answered_at (Aborts why) = same_at

  numbers_by : (b : Bool) (s : Seat)
      → numbers_of (record s {
        ladder = if b then rejected s.ladder else s.ladder;
        tally = record (s.tally) { rejected = s.tally.rejected + 1 };
      }) ≡ record (numbers_of s) {
        rejected = s.tally.rejected + 1;
        refused = if b then (rejected s.ladder).requests_rejected else s.ladder.requests_rejected;
      }
  numbers_by true s = refl
  numbers_by false s = refl

  reject_at : kept_by rest (with_slot w i (with_reject seat)) ≡ k_rejected i k
  reject_at =
      let live = progress.is_live (local_of seat.cpu).attempt in
      ladder_alone (with_reject seat) refl
      ∙ ap (λ n. record k {
        state = record k.state { numbers = at_put k.state.numbers i n };
        standings = at_put k.standings i (if live then rejected seat.ladder else seat.ladder);
      }) (numbers_by live seat)

  -- of the seat that is there
  module _ (s : Seat) (there : s ≡ seat) where
    pub question_kept : kept_by rest (with_slot w i (with_question s)) ≡ k_asking i k
    question_kept = ap (λ s. kept_by rest (with_slot w i (with_question s))) there ∙ question_at

    pub answer_kept : (a : Answer)
        → kept_by rest (with_slot w i (record s { ladder = after a s.ladder })) ≡ k_answered a i k
    answer_kept a =
        ap (λ (s : Seat). kept_by rest (with_slot w i (record s { ladder = after a s.ladder }))) there
        ∙ answered_at a

    pub reject_kept : kept_by rest (with_slot w i (with_reject s)) ≡ k_rejected i k
    reject_kept = ap (λ s. kept_by rest (with_slot w i (with_reject s))) there ∙ reject_at

-- ---- the holders of lines change

pub lines_put : (rest : Seat) (w : Works) (lines : Owned) (held : Holders) → lines.bytes ≡ w.lines.bytes
    → holders_in lines ≡ held
    → kept_by rest (record w { lines = lines })
    ≡ with_state (record (kept_by rest w).state { held = held }) (kept_by rest w)
lines_put rest w lines held bytes holders x =
    let k = kept_by rest w in
    record {
      state = record k.state { held = holders x };
      storage = storage_of (bytes x);
      locals = k.locals;
      standings = k.standings;
    }
