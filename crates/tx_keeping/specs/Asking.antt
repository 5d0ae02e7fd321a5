-- How a CPU of the machine that keeps asks for lines: as the meaning has it, by what is kept.
use Rattle.std.specs.Prelude.{ℕ, Bool, true, false, List, [], ◌∷◌, Option, Some, None}
use Rattle.line_table.specs.declared.table.Mode.{Mode}
use Rattle.line_table.specs.Holders.{against}
use Rattle.interrogate.specs.declared.kinds.Answer.{Answer}
use Rattle.interrogate.specs.declared.kinds.Answer.TheVariants.{Yields, Rejects, Aborts}
use Rattle.interrogate.specs.Replies as interrogate
use Rattle.tx_meaning.specs.Limits.{Setting}
use Rattle.tx_meaning.specs.declared.asking.Need.{Need}
use Rattle.tx_meaning.specs.State.{is_live, cpus_of}
use Rattle.tx_meaning.specs.Changes.{granting}
use Rattle.tx_meaning.specs.declared.asking.Reject.{Reject}
use Rattle.tx_meaning.specs.Asking.{is_there}
use Rattle.tx_keeping.specs.Kept.{Kept, kept_asker, kept_footprint, with_state}
use Rattle.tx_keeping.specs.Moves.{k_asking, k_rejecting, k_rejected, k_yielding, k_aborting}

-- what is kept after questions, and the reject that ended them, if one did
pub record KAsked : Type 0 where
  pub kept : Kept
  pub reject : Option Reject

-- ---- one holder

unfoldable pub k_reply : Kept → ℕ → ℕ → Mode → ℕ → Answer
k_reply k j line mode i =
    let lines = kept_footprint k j in
    interrogate.reply (is_live k.state j) lines.fetched lines.stored (k.standings j) line mode
    (kept_asker k i)

abbrev pub k_by_answer : ℕ → Need → ℕ → Kept → Answer → KAsked
k_by_answer i need j k Yields = record { kept = k_yielding j need.line need.mode k; reject = None }
k_by_answer i need j k Rejects =
    record { kept = k_rejected i (k_rejecting j k); reject = Some record { by = j; line = need.line } }
k_by_answer i need j k (Aborts why) = record {
  kept = k_yielding j need.line need.mode (k_aborting j why (k.locals j).attempt.cpu.address k);
  reject = None;
}

unfoldable pub k_ask_one : ℕ → Need → ℕ → Kept → KAsked
k_ask_one i need j k = k_by_answer i need j (k_asking i k) (k_reply k j need.line need.mode i)

-- ---- one question after the other

abbrev pub k_unless_rejected : Option Reject → Kept → (Kept → KAsked) → KAsked
k_unless_rejected None k next = next k
k_unless_rejected (Some reject) k next = record { kept = k; reject = Some reject }

abbrev pub k_then_ask : KAsked → (Kept → KAsked) → KAsked
k_then_ask a next = k_unless_rejected a.reject a.kept next

abbrev pub k_all_given : Kept → KAsked
k_all_given k = record { kept = k; reject = None }

unfoldable pub k_ask_each : ℕ → Need → List ℕ → Kept → KAsked
k_ask_each i need [] k = k_all_given k
k_ask_each i need (j ∷ rest) k = k_then_ask (k_ask_one i need j k) (k_ask_each i need rest)

-- ---- the lines of a turn

unfoldable pub k_granting : ℕ → List Need → Need → Kept → Kept
k_granting i needs need k =
    with_state (record k.state { held = granting i (kept_footprint k i) needs need k.state.held }) k

abbrev pub k_take_line : ℕ → List Need → Need → Kept → KAsked
k_take_line i needs need k = k_all_given (k_granting i needs need k)

abbrev pub k_get_unless : Bool → Setting → ℕ → List Need → Need → Kept → KAsked
k_get_unless true m i needs need k = k_all_given k
k_get_unless false m i needs need k =
    k_then_ask (k_ask_each i need (against (cpus_of m) k.state.held i need.line need.mode) k)
    (k_take_line i needs need)

unfoldable pub k_get_line : Setting → ℕ → List Need → Need → Kept → KAsked
k_get_line m i needs need k = k_get_unless (is_there need.mode (k.state.held i need.line)) m i needs need k

unfoldable pub k_get_each : Setting → ℕ → List Need → List Need → Kept → KAsked
k_get_each m i needs [] k = k_all_given k
k_get_each m i needs (need ∷ rest) k = k_then_ask (k_get_line m i needs need k) (k_get_each m i needs rest)

abbrev pub k_get_lines : Setting → ℕ → List Need → Kept → KAsked
k_get_lines m i needs k = k_get_each m i needs needs k
