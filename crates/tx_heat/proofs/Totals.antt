-- Conflicts that are aborts are counted in the history.
use Rattle.std.proofs.Common.{◌≡◌, ℕ, ◌+◌, ◌<◌, true, false, Bool, List, [], ◌∷◌, ◌++◌, length, drop, cond}
use Rattle.std.proofs.Common.{refl, sym}
use Rattle.std.proofs.Common.{ap, ◌∙◌, subst, arith, Some, None, is_some}
use Rattle.std.specs.Prelude.{count_by, not, Option}
use Rattle.std.specs.List.{flat_map}
use Rattle.std.proofs.lemmas.List.{drop-append-le}
use Rattle.std.proofs.Math.Seq.{drop-length}
use Rattle.std.proofs.lemmas.List.Elements.{All-head, All-tail}
use Rattle.std.proofs.lemmas.List.Sums.{sum_by-append}
use Rattle.tx_journal.specs.Image.{cpu_of_event}
use Rattle.tx_journal.specs.declared.entries.Entry.{Entry}
use Rattle.tx_journal.specs.declared.events.Event.{Event}
use Rattle.tx_meaning.specs.Limits.{Setting}
use Rattle.tx_meaning.specs.Meaning.{IsSetting, meaning, meaning_from}
use Rattle.tx_meaning.specs.State.{State, cpus_of}
use Rattle.tx_meaning.specs.Turn.{happen}
use Rattle.tx_meaning.specs.Views.{AreKnown}
use Rattle.tx_keeping.specs.Kept.{Kept, kept_beginning}
use Rattle.tx_keeping.specs.Turn.{k_happen}
use Rattle.tx_keeping.proofs.Events.{begins_good}
use Rattle.tx_keeping.proofs.Moves.{IsGood}
use Rattle.tx_keeping.proofs.Turning.{happen_ok}
use Rattle.tx_meaning.specs.Turn.{Turned}
use Rattle.tx_heat.specs.Conflicts.{Conflict, conflict_where, abort_of, aborts_by, rejects_by, entries_in}
use Rattle.tx_heat.specs.Conflicts.{reject_of}
use Rattle.tx_heat.specs.Conflicts.{conflicts_in, conflicts_from, conflicts, is_conflict_abort}

abbrev is_abort : Conflict → Bool
is_abort c = not c.rejected

aborts_at : (m : Setting) (s : State) (e : Event) (at : Option (ℕ × ℕ))
    → count_by is_abort (conflict_where m s e false at) ≡ cond (is_some at) 1 0
aborts_at m s e None = refl
aborts_at m s e (Some at) = refl

rejects_at : (m : Setting) (s : State) (e : Event) (at : Option (ℕ × ℕ))
    → count_by is_abort (conflict_where m s e true at) ≡ 0
rejects_at m s e None = refl
rejects_at m s e (Some at) = refl

in_entries : (m : Setting) (s : State) (e : Event) (entries : List Entry)
    → count_by is_abort (flat_map (aborts_by m s e) entries) ≡ count_by is_conflict_abort entries
in_entries m s e [] = refl
in_entries m s e (x ∷ rest) =
    let one = aborts_at m s e (abort_of x) in
    let more = in_entries m s e rest in
    let split = sum_by-append (λ c. cond (is_abort c) 1 0) (aborts_by m s e x) (flat_map (aborts_by m s e) rest) in
    let all = sum_by-append (λ y. cond (is_conflict_abort y) 1 0) (x ∷ []) rest in
    omega (arith, one, more, split, all)

-- an event
in_event : (m : Setting) (s : State) (e : Event) (more : List Entry)
    → s.history ++ more ≡ (happen m e s).state.history
    → count_by is_abort (conflicts_in m s e) + count_by is_conflict_abort s.history
    ≡ count_by is_conflict_abort (happen m e s).state.history
unfolding conflicts_in
in_event m s e more is =
    let t = happen m e s in
    let entries : entries_in s t.state ≡ more = ap (drop (length s.history)) (sym is)
    ∙ drop-append-le (length s.history) s.history more (omega arith) ∙ ap (λ x. x ++ more) (drop-length s.history) in
    let aborts = in_entries m s e (entries_in s t.state) in
    let same = ap (count_by is_conflict_abort) entries in
    let rejects = rejects_at m s e (reject_of t.reject) in
    let split = sum_by-append (λ c. cond (is_abort c) 1 0) (flat_map (aborts_by m s e) (entries_in s t.state))
    (rejects_by m s e t.reject) in
    let all = ap (count_by is_conflict_abort) (sym is)
    ∙ sum_by-append (λ y. cond (is_conflict_abort y) 1 0) s.history more in
    omega (arith, aborts, same, rejects, split, all)

module _ (m : Setting) (setting : IsSetting m) where
  all_from : (events : List Event) (k : Kept) → IsGood m k → AreKnown m events
      → count_by is_abort (conflicts_from m events k.state) + count_by is_conflict_abort k.state.history
      ≡ count_by is_conflict_abort (meaning_from m events k.state).history
  unfolding conflicts_from meaning_from
  all_from [] k good known = omega arith
  all_from (e ∷ rest) k good known =
      let one = happen_ok m setting e k good (All-head (λ e. cpu_of_event e < cpus_of m) e rest known) in
      let t = happen m e k.state in
      let next = (k_happen m e k).kept in
      let state : t.state ≡ next.state = ap (λ (t : Turned). t.state) one.is in
      let here = in_event m k.state e one.grows.0
      (one.grows.1 ∙ ap (λ (s : State). s.history) (sym state)) in
      let later = subst (λ (s : State). count_by is_abort (conflicts_from m rest s)
      + count_by is_conflict_abort s.history ≡ count_by is_conflict_abort (meaning_from m rest s).history) (sym state)
      (all_from rest next one.good (All-tail (λ e. cpu_of_event e < cpus_of m) e rest known)) in
      let split = sum_by-append (λ c. cond (is_abort c) 1 0) (conflicts_in m k.state e)
      (conflicts_from m rest t.state) in
      omega (arith, here, later, split)

pub all_aborts : (m : Setting) (events : List Event) → IsSetting m → AreKnown m events
    → count_by (λ (c : Conflict). not c.rejected) (conflicts m events)
    ≡ count_by is_conflict_abort (meaning m events).history
unfolding kept_beginning
all_aborts m events s known =
    let all = all_from m s events (kept_beginning m) (begins_good m) known in omega (arith, all)
