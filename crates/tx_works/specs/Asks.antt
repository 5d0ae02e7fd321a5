-- What a CPU's questions for lines ask of what is kept, and what they leave.
use Rattle.std.specs.Prelude.{◌≡◌, ℕ, ◌+◌, ◌*◌, ◌<◌, ◌≤◌, List, length, Option, Some, None}
use Rattle.std.specs.Prelude.{if◌then◌else◌, ◌||◌, ◌&&◌, ◌==◌, Bool}
use Rattle.std.specs.List.{list_any}
use Rattle.line_table.specs.Sizes.{storage_lines, held_limit}
use Rattle.bit_set.specs.Counts.{count_below}
use Rattle.tx_ladder.specs.Rungs.{rejected, is_starved}
use Rattle.interrogate.specs.declared.kinds.Answer.{Answer}
use Rattle.interrogate.specs.declared.kinds.Answer.TheVariants.{Yields, Rejects, Aborts}
use Rattle.interrogate.specs.declared.kinds.Asker.{Asker}
use Rattle.interrogate.specs.Replies.{reply}
use Rattle.tx_progress.specs.Progress as progress
use Rattle.tx_lines.specs.Parts.{local_of}
use Rattle.tx_meaning.specs.declared.asking.Need.{Need}
use Rattle.tx_meaning.specs.declared.asking.Reject.{Reject}
use Rattle.tx_meaning.specs.State.{Numbers, State, is_live}
use Rattle.tx_keeping.specs.Kept.{Kept, kept_footprint}
use Rattle.tx_keeping.specs.Moves.{k_rejecting}
use Rattle.tx_keeping.specs.Asking.{KAsked}
use Rattle.tx_works.specs.declared.asking.Refused.{Refused}
use Rattle.tx_works.specs.Works.{Works, Seat, kept_by}
use Rattle.tx_works.specs.Ready.{MayAsk, owed}

-- ---- one CPU

-- one more question
abbrev pub with_question : Seat → Seat
with_question s = record s { tally = record (s.tally) { asked = s.tally.asked + 1 } }

-- one more reject of a request, which counts for the attempt where it is live
abbrev pub with_reject : Seat → Seat
with_reject s = record s {
  ladder = if progress.is_live (local_of s.cpu).attempt then rejected s.ladder else s.ladder;
  tally = record (s.tally) { rejected = s.tally.rejected + 1 };
}

-- what a holder answers
abbrev pub reply_of : Seat → Need → Asker → Answer
reply_of s need asker =
    let q = (local_of s.cpu).attempt in
    reply (progress.is_live q) q.footprint.fetched q.footprint.stored s.ladder need.line need.mode asker

-- what is kept when it has answered: a reject counts
abbrev pub k_answered : Answer → ℕ → Kept → Kept
k_answered Yields j k = k
k_answered Rejects j k = k_rejecting j k
k_answered (Aborts why) j k = k

-- ---- counts

-- the turn that is counted last has done nothing yet but ask, and may ask so many questions more
pub record MayCount (questions : ℕ) (n : Numbers) : Type 0 where
  pub attempts : n.attempts < n.turns
  pub completed : n.completed < n.turns
  pub asked : n.asked + questions ≤ 128 * n.turns

-- ---- before questions, and after

-- a CPU may put so many questions
pub record IsReady (questions i : ℕ) (w : Works) (k : Kept) : Type 0 where
  pub asks : MayAsk (length w.slots) i k
  pub room : owed w k ≤ w.room
  pub counts : MayCount questions (k.state.numbers i)

abbrev pub entries_owed : ℕ → State → ℕ
entries_owed cpus s = length s.history + count_below cpus (is_live s)

-- what is kept of the asker is what was, and all that may be asked of what is kept still may. The questions
-- were so many at most.
pub record AskLeaves (cpus questions i : ℕ) (k after : Kept) : Type 0 where
  pub local : after.locals i ≡ k.locals i
  pub completed : (after.state.numbers i).completed ≡ (k.state.numbers i).completed
  pub asks : MayAsk cpus i k → MayAsk cpus i after
  pub owed_no_more : entries_owed cpus after.state ≤ entries_owed cpus k.state
  pub counts : (more : ℕ) → MayCount (more + questions) (k.state.numbers i)
      → MayCount more (after.state.numbers i)

-- a rejected request, without what comes of it
abbrev pub rejected_in : Option Refused → Option Reject
rejected_in None = None
rejected_in (Some r) = Some r.reject

-- the live attempt is starved by the last of its requests that was rejected
abbrev pub is_cpu_starved : Kept → ℕ → Bool
is_cpu_starved k i = is_live k.state i && is_starved (k.standings i)

-- what is kept, with the reject that ended the questions
abbrev pub asked_by : Seat → Works → Option Reject → KAsked
asked_by rest w r = record { kept = kept_by rest w; reject = r }

-- with all that its attempt has touched, these lines are no more than a CPU may hold
pub record IsFew (i : ℕ) (lines : List ℕ) (k : Kept) : Type 0 where
  pub few : count_below storage_lines (λ line.
      ((kept_footprint k i).fetched line || (kept_footprint k i).stored line)
      || list_any (λ other. other == line) lines) ≤ held_limit
